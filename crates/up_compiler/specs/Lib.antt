pub mod Back
pub mod Compose
pub mod Identity
pub mod Table
pub mod Named
