pub mod FoldLemmas
pub mod LawLemmas
pub mod RoomLemmas
