pub mod UnshortLemmas
pub mod ValidLemmas
pub mod AskedLemmas
pub mod UnfitLemmas
