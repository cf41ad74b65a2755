pub mod Effects
pub mod Files
pub mod Numbers
pub mod Phrases
pub mod Rests
pub mod Walks
