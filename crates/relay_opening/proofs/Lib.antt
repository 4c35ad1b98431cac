pub mod CallLemmas
pub mod TurnLemmas
pub mod OpensLemmas
pub mod WireLemmas
pub mod QueuedLemmas
pub mod ToldLemmas
pub mod WiderLemmas
