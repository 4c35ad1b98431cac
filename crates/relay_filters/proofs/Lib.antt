pub mod PieceLemmas
mod CallLemmas
mod DelayLemmas
mod RequestLemmas
mod ChainLemmas
mod OutcomeLemmas
mod ResponseLemmas
mod ModuleLemmas
mod BatchLemmas
mod SideLemmas
mod WalkLemmas
mod LentSide
mod StateLemmas
mod SegmentLemmas
mod QuietLemmas
mod AgainLemmas
pub mod PassedLemmas
pub mod LastLemmas
