pub mod Walk
pub mod Ordinary
