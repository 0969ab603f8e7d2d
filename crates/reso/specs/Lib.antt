pub mod Reso
pub mod Places
