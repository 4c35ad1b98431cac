pub mod Filtering
pub mod Lent
pub mod Module
pub mod Seen
