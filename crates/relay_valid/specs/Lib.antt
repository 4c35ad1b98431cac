pub mod Valid
pub mod Unfit
pub mod Laws
