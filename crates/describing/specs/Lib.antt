pub mod List
pub mod Writing
pub mod Bridging
pub mod Judging
