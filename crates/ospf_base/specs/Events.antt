pub mod Events
pub mod Text
