pub mod NameLemmas
pub mod Written
