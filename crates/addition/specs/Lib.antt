pub mod Sides
pub mod Fold
