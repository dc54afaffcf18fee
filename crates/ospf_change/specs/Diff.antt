pub mod Difference
pub mod Text
pub mod Sums
pub mod Elements
pub mod Costs
pub mod Sights
pub mod Report
