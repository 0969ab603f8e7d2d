pub mod ChunkAt
pub mod LastRead
pub mod UndoFits
pub mod UndoAsked
