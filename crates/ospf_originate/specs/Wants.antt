pub mod Wanted
pub mod Own
pub mod Made
pub mod Said
pub mod SetUp
pub mod Laws
