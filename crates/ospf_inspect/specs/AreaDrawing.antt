pub mod Graph
pub mod GraphLaws
