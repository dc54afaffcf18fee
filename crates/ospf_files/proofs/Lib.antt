pub mod Written
pub mod Listed
pub mod FirstTwins
pub mod Cut
pub mod TextLines
mod PlaceLists
mod KeyFaults
mod FaultsTold
