pub mod Commands
pub mod Ends
pub mod Outcome
pub mod Run
pub mod Steps
pub mod Store
pub mod Texts
pub mod Words
