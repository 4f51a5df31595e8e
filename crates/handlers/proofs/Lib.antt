-- Theorems that no proof cites.
pub mod ByKind
