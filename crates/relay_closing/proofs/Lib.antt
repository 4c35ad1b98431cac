pub mod TurnLemmas
pub mod ClosesLemmas
