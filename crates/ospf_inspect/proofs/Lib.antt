mod LineLemmas
mod Marks
mod Texts
mod Ways
mod AnswerLemmas
mod ValueLemmas
mod Floats
mod WayLemmas
pub mod AreaDrawing
