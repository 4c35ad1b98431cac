pub mod Request
pub mod Chain
pub mod Response
pub mod Segments
pub mod Hooked
pub mod Delay
