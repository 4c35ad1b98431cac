pub mod WithinLemmas
pub mod CallLemmas
