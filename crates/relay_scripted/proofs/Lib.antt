pub mod ReplyLemmas
pub mod FieldLemmas
pub mod PurgeLemmas
pub mod EntryLemmas
pub mod NoRulesLemmas
