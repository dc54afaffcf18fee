pub mod Database
pub mod Moments
pub mod Timers
pub mod Laws
pub mod Entries
pub mod Expired
