pub mod DefaultLemmas
pub mod LogLemmas
pub mod WholeLemmas
