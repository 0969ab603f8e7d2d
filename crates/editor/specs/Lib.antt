pub mod Called
pub mod Post
pub mod ReadsBack
pub mod Runs
