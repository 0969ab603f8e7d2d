pub mod EntryLaws
pub mod FaultLaws
pub mod ReadBack
