pub mod Located
pub mod Bridging
