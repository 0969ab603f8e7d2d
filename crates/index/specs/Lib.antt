pub mod Entries
pub mod Hits
pub mod Optional
