pub mod OrderLaws
pub mod HalvingLaws
pub mod RowLaws
pub mod SortLaws
pub mod SwapLaws
pub mod HeapLaws
pub mod FlatLaws
pub mod ColumnLaws
