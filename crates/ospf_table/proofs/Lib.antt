pub mod EntryLemmas
pub mod HexText
pub mod Lines
pub mod Written
pub mod FloatLemmas
mod Looked
mod NameLemmas
mod ValueLemmas
