pub mod Kinds
pub mod Faults
