pub mod Events
pub mod Files
pub mod Store
pub mod Scan
