pub mod Raised
pub mod Ignored
pub mod JobRecs
