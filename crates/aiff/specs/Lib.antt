pub mod Rate
pub mod Common
pub mod Seeing
pub mod Length
pub mod Meaning
