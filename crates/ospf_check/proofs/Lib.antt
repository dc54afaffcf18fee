pub mod Written
mod AreaWritten
mod Numbered
mod JsonLemmas
mod LineLemmas
