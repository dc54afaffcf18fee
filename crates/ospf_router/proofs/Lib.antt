pub mod ListLemmas
mod SameListings
mod TableLemmas
pub mod KeepLemmas
mod ServedLemmas
mod ListingFacts
mod KeptFacts
pub mod StartLemmas
mod SettledLemmas
mod TouchedChains
mod SameEnds
mod EndLemmas
mod GrowingLemmas
pub mod AreaStep
pub mod StepLaws
