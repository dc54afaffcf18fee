pub mod ElementLemmas
pub mod CarrierLemmas
pub mod HiddenLemmas
pub mod FoundLemmas
pub mod ReportLemmas
pub mod LargeLemmas
pub mod JsonLemmas
pub mod AnswerLemmas
