pub mod Sights
pub mod Overall
pub mod Json
pub mod HarmLines
pub mod Without
pub mod Answer
