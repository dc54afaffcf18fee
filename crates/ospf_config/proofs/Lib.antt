mod AddressTexts
pub mod PeerLists
pub mod Least
pub mod Singles
pub mod TableLists
mod KeyLists
pub mod ConflictLists
pub mod HostLists
mod PassiveLists
mod IntegerLemmas
mod FaultLemmas
mod TextFaults
