pub mod Lists
pub mod Symbols
pub mod Starts
pub mod Effects
pub mod Actions
pub mod Constraints
pub mod Sections
pub mod Texts
