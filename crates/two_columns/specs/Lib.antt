pub mod Columns
pub mod Kept
pub mod Limit
pub mod Lines
pub mod Rows
pub mod Run
