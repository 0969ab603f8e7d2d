pub mod Placed
pub mod Texts
pub mod Faults
pub mod Opened
