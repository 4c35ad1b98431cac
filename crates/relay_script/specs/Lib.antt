pub mod Actions
pub mod Fold
pub mod Lawful
pub mod Table
