pub mod OrderLemmas
pub mod LogLemmas
pub mod EnterLemmas
pub mod TurnLemmas
pub mod ModulesLemmas
