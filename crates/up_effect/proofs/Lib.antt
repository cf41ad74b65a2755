pub mod EffectNodes
pub mod Gathering
pub mod Walking
