pub mod AnswerLemmas
pub mod OverallLemmas
pub mod JsonLemmas
pub mod WithoutLemmas
pub mod RouterLemmas
pub mod RootLemmas
