pub mod Identity
pub mod Composing
pub mod Consequences
