pub mod FitLemmas
mod StopLemmas
mod SaidLemmas
mod WriterLemmas
pub mod RequestLemmas
pub mod FailLemmas
mod OpenLemmas
pub mod EarlyLemmas
pub mod UnshortLemmas
