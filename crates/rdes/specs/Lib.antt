pub mod Rdes
