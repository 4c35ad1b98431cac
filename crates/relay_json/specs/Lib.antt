pub mod Names
pub mod Number
pub mod Rules
pub mod Script
pub mod Values
