pub mod Clones
pub mod LogLemmas
pub mod Refusals
pub mod Visible
