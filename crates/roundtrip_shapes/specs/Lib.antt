pub mod Raw
pub mod RawEffects
pub mod RawFiles
pub mod Formed
