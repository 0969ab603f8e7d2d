pub mod BitLaws
pub mod SegmentLaws
