pub mod Packed
pub mod Unpacked
