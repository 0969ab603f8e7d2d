pub mod TextLaws
pub mod WriteLaws
pub mod LineLaws
pub mod ListLaws
pub mod Samples
pub mod Sense
