pub mod PairLemmas
pub mod DifferenceLemmas
pub mod RouterOrder
pub mod ElementLemmas
pub mod SightLemmas
pub mod ReportLemmas
pub mod InterfaceOrder
pub mod CostLemmas
