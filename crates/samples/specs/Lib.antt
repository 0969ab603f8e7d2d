pub mod Files
pub mod Rows
pub mod TableRows
pub mod FormRows
pub mod TextRows
