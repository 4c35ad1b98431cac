pub mod Idle
pub mod Listening
pub mod Serving
