pub mod NeighbourLemmas
pub mod Words
pub mod WorkLemmas
pub mod ElectionLemmas
pub mod MarkLemmas
pub mod RepeatLemmas
pub mod RequestLemmas
