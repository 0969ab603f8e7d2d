pub mod Answers
pub mod TableOf
pub mod Bridging
