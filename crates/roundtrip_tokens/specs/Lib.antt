pub mod EffectTokens
pub mod FileTokens
pub mod Spelled
pub mod Tokens
