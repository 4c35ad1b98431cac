pub mod LogLemmas
pub mod CallLemmas
