pub mod Spliced
pub mod Writable
