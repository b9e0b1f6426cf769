pub mod OnceLemmas
pub mod FoundLemmas
