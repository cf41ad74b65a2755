pub mod Nodes
pub mod Effects
pub mod Walk
pub mod Actions
