pub mod Piecewise
pub mod Sheet
pub mod Spaced
pub mod Steps
