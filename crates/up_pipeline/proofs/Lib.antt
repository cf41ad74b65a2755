pub mod Keys
pub mod Nodes
pub mod Order
pub mod Searching
