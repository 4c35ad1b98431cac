pub mod Decision
pub mod Reply
pub mod Scripted
pub mod Modules
pub mod NoRules
