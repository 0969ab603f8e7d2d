pub mod CheckLaws
pub mod FrontLaws
pub mod FileLaws
pub mod FillLaws
pub mod AnswerLaws
pub mod Promises
pub mod Columns
