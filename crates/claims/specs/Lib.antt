pub mod Means
pub mod TurnedAway
pub mod ProtectionTable
pub mod Witness
