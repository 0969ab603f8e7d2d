pub mod SideLaws
pub mod Promises
