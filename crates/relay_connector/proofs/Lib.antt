pub mod ToldLemmas
pub mod UpstreamLemmas
