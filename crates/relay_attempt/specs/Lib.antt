pub mod Passed
pub mod Agrees
pub mod Order
pub mod Attempt
pub mod Head
pub mod Exchange
pub mod Bound
