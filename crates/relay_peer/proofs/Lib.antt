pub mod ExactLemmas
pub mod ReadingSteps
pub mod RequestLemmas
pub mod ResponseLemmas
pub mod BreaksLemmas
mod LengthLemmas
pub mod FaultLemmas
pub mod FrontLemmas
pub mod TaskLemmas
pub mod MoveLemmas
pub mod PeerLemmas
pub mod SendLemmas
pub mod SaidLemmas
pub mod MarkLemmas
pub mod PeerTasks
pub mod SideLemmas
pub mod CutLemmas
pub mod UseLemmas
