pub mod Bills
pub mod Bytes
pub mod Passed
pub mod Steps
