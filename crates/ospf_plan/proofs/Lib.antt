pub mod Steps
mod Members
mod Words
mod FindingLemmas
mod Order
mod WireLemmas
mod WireOrder
mod UnheardLemmas
mod Reach
mod PartLemmas
mod DropLemmas
mod SettingsLemmas
mod StepSettings
mod SendLemmas
mod SentLemmas
mod StartedLemmas
mod FurtherLemmas
mod SlowLemmas
