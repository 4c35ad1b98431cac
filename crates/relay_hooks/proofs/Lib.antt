pub mod PurgeLemmas
