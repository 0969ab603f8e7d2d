pub mod FormLaws
pub mod GoodLaws
pub mod Longest
pub mod RunLaws
