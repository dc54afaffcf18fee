pub mod Routers
pub mod SliceLaws
pub mod PacketLaws
pub mod EntryLemmas
pub mod SliceLemmas
pub mod BodyLengths
pub mod FieldLemmas
pub mod HeaderLists
pub mod RoundTrip
pub mod AgeLaw
pub mod Cells
pub mod Spelled
mod Sealing
pub mod Words
