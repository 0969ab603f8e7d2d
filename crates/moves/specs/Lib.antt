pub mod Shift
pub mod Moves
