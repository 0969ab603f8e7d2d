pub mod IndexRead
pub mod PlaceLaws
pub mod LinkFault
