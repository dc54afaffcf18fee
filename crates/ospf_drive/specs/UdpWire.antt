pub mod Faults
pub mod Frames
pub mod Handed
pub mod Wires
pub mod Plans
pub mod Obstacles
