mod IfaceFacts
pub mod Enumerated
pub mod CountedLemmas
pub mod ObjectLemmas
pub mod Listings
