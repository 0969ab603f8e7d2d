pub mod RateLaws
pub mod CommonLaws
pub mod Meaning
