pub mod Keys
pub mod Repeats
pub mod Source
pub mod Marks
pub mod Suspects
