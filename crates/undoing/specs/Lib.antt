pub mod Kinds
pub mod LastRecord
pub mod UndoPlan
