pub mod BitFacts
pub mod FewFacts
pub mod SetFacts
