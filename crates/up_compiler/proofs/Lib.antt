pub mod Composed
pub mod Kept
pub mod Lists
pub mod Rows
pub mod Unchanged
pub mod Naming
