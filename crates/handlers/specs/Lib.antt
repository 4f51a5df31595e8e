pub mod Outcome
pub mod Choice
pub mod Table
pub mod Kinds
