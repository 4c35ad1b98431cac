pub mod Neutral
