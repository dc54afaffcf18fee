pub mod GrowthLemmas
pub mod GrowthSteps
pub mod ChangedLemmas
pub mod ShrinkLemmas
pub mod ShrinkSteps
pub mod KeptGrowth
pub mod KeptShrink
pub mod LeftLemmas
