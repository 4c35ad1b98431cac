pub mod FilterLemmas
pub mod ClosingSteps
pub mod CallLemmas
pub mod NamedLemmas
pub mod BesideLemmas
pub mod TreatLemmas
pub mod DelayLemmas
pub mod MadeLemmas
