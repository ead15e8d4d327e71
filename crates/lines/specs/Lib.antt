pub mod Line
pub mod Fault
