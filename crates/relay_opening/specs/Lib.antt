pub mod Place
pub mod Queued
pub mod Opens
pub mod Refusal
pub mod Told
