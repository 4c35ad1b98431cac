pub mod Context
pub mod Error
pub mod Fields
pub mod Head
pub mod Hooks
pub mod Log
pub mod Task
