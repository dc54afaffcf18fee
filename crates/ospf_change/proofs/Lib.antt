pub mod Edits
pub mod Diffs
