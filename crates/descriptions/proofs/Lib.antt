pub mod EntryAnswers
pub mod OpenLaws
pub mod PlainProfile
pub mod Promises
pub mod RepeatLaws
pub mod Telling
pub mod UnknownProfile
