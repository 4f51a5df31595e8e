pub mod Encoding
pub mod Accepted
pub mod Rows
