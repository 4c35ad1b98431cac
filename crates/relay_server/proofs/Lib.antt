pub mod FloorLemmas
pub mod IdleLemmas
pub mod ServingLemmas
