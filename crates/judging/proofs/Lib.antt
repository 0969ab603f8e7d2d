pub mod OpenLaws
pub mod AddFault
pub mod RemoveFault
pub mod ReplaceFault
