pub mod ChunkLaws
pub mod HeadLaws
pub mod StartLaws
