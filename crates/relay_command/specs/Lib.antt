pub mod Exchange
pub mod Report
pub mod Run
pub mod Transfer
pub mod Words
