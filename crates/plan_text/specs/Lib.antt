pub mod Bytes
pub mod Lines
pub mod Seen
pub mod Spells
pub mod Steps
pub mod Texts
