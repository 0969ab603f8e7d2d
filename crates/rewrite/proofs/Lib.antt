pub mod Writes
pub mod AddBytes
pub mod Content
pub mod RemoveBytes
pub mod InsertBytes
pub mod ReplaceBytes
