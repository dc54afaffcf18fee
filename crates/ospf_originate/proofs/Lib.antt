pub mod DueLemmas
mod IdleLemmas
pub mod KeepLemmas
pub mod NumberLemmas
mod OwnLaws
mod OwnLemmas
mod RemovalSound
mod ShortOwn
mod SoundLemmas
mod StaySound
mod StepLemmas
pub mod Words
pub use Rattle.ospf_originate.proofs.Wants.WantedLemmas
pub mod Wants
