pub mod Scan
pub mod Good
pub mod Chunks
pub mod Said
pub mod Encoded
pub mod Round
pub mod Written
