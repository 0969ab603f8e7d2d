pub mod GoodLaws
pub mod RowLaws
pub mod DistinctLaws
