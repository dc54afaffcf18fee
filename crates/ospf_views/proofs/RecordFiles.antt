pub mod Reading
pub mod Recorded
pub mod CountFacts
pub mod CaptureFacts
pub mod RecorderFacts
pub mod WorldLogs
pub mod Unwritten
