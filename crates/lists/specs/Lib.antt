pub mod Choice
pub mod Places
pub mod Width
