-- Theorems that no proof cites: the rules as the check tests them, and the numbers in src/ that stand for tables of kinds.
pub mod Bounds
pub mod Facts
