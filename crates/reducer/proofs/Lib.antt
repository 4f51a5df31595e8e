-- Lemmas of the proofs.
pub mod Early
