pub mod Sent
pub mod Unwrapped
pub mod Wrapped
