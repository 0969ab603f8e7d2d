pub mod FileBack
pub mod Instance
