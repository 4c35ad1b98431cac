pub mod Front
pub mod Item
pub mod ItemPlace
pub mod MessageFault
pub mod MessageLink
pub mod MessageScript
pub mod NoMessages
pub mod SendPlace
