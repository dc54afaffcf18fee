pub mod SubnetLemmas
pub mod ApartLemmas
pub mod WithoutLemmas
pub mod LessLemmas
pub mod SingleLemmas
pub mod LostLemmas
pub mod StubLemmas
pub mod OutageLemmas
pub mod EffectLemmas
pub mod FailureOrder
pub mod SortedLemmas
pub mod DownLemmas
pub mod MatchingLemmas
pub mod RenamedLemmas
pub mod LinksBackLemmas
pub mod TakeOverLemmas
pub mod NameLemmas
mod SameEnds
