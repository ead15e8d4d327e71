pub mod CEntries
