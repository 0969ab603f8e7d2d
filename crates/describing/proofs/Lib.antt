pub mod ChunkLaws
pub mod JudgeLaws
pub mod PairLaws
pub mod WriteLaws
pub mod Taken
