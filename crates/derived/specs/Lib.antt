pub mod Bytes
pub mod Scopes
pub mod Ancestors
pub mod Answer
