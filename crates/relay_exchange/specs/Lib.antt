pub mod Exchange
pub mod UpLent
