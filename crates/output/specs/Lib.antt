pub mod Bytes
pub mod Records
pub mod Parts
pub mod Trees
pub mod Lists
pub mod Given
