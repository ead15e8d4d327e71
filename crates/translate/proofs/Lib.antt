pub mod Answer
pub mod Pages
pub mod Splices
pub mod Whole
