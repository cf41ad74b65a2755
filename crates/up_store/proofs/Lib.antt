pub mod Cut
pub mod Suffix
