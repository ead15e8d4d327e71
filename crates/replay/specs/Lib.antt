pub mod Playable
pub mod Held
