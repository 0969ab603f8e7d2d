pub mod Rows
pub mod Order
pub mod Halving
pub mod Bridging
pub mod Heaps
