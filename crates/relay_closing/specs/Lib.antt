pub mod Place
pub mod Queued
pub mod Closes
