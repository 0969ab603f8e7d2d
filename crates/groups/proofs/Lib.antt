pub mod EventLaws
pub mod ScanLaws
pub mod TurnLaws
pub mod StoreLaws
pub mod FileLaws
pub mod Order
pub mod TooLong
