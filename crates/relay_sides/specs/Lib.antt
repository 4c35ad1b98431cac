pub mod Client
pub mod Filtered
pub mod Lent
