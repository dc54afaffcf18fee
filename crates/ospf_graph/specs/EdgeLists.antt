pub mod Costs
pub mod Listed
pub mod Given
pub mod Addresses
pub mod Index
pub mod Items
pub mod Near
