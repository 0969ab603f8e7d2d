pub mod Answers
pub mod Bits
pub mod MarkLaws
pub mod SearchLaws
pub mod SeenLaws
pub mod SourceLaws
pub mod SuspectLaws
