pub mod FamilyLemmas
pub mod PartLemmas
pub mod GrammarLemmas
pub mod SideLemmas
