mod FilteringLemmas
mod NoteLemmas
