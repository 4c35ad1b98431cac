pub mod Order
pub mod Looks
pub mod Modules
pub mod Settled
pub mod Turns
pub mod Examples
