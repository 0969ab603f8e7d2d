pub mod Ratio
pub mod Small
