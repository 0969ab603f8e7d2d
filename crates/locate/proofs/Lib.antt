pub mod LocateLaws
pub mod Promises
