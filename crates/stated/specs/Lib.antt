pub mod Stated
pub mod Wrote
