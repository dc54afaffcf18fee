pub mod Printed
pub mod Lookups
pub mod Runs
pub mod Wires
pub mod Cut
