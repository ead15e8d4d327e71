pub mod Told
pub mod Lines
