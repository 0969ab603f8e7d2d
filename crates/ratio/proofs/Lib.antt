pub mod RatioLaws
pub mod OrderLaws
pub mod Promises
