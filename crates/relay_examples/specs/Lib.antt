pub mod UpperCase
pub mod Guard
