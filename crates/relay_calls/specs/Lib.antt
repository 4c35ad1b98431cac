pub mod Entry
pub mod Calls
pub mod Modules
pub mod Log
