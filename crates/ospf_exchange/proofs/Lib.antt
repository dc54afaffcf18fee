pub mod KeyLemmas
pub mod TurnLemmas
pub mod MetLemmas
pub mod LawLemmas
pub mod NotTakenLemmas
pub mod RouterLemmas
pub mod AloneLemmas
pub mod Words
