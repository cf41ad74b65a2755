pub mod Declaring
pub mod Types
pub mod Marks
