pub mod Sentences
pub mod TreeRead
pub mod TreeBack
pub mod Grammar
