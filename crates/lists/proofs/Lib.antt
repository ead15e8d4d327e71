pub mod Choice
pub mod Tabulate
pub mod Patched
pub mod Search
pub mod Lent
