-- The definitions, to be read beside 01, and what the theorems of proofs/ speak of.
pub mod Lists
pub mod Settings
pub mod Handler
pub mod Facts
pub mod Made
pub mod Addition
pub mod Class
pub mod Conditional
pub mod Reduce
pub mod Effects
pub mod Reads
pub mod ReadsBy
pub mod Results
pub mod Theorems
