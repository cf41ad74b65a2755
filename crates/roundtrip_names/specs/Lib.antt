pub mod Declared
pub mod Due
pub mod New
pub mod Symbols
