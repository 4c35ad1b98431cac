pub mod Asked
pub mod Queued
pub mod Purging
pub mod Told
