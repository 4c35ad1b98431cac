pub mod QueuedLemmas
pub mod TurnLemmas
pub mod ToldLemmas
pub mod WiderLemmas
