pub mod Carried
pub mod Counted
