pub mod RoundLemmas
pub mod TurnLemmas
pub mod PassLemmas
pub mod ToldLemmas
pub mod CallLemmas
