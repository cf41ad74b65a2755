pub mod Adding
pub mod Params
pub mod Chains
pub mod Faults
pub mod Listing
pub mod Marking
