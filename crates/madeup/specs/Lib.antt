pub mod Chip
pub mod Readings
