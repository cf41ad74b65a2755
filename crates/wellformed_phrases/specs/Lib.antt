pub mod Agreement
pub mod LawfulPhrases
pub mod Initial
pub mod Sound
pub mod SoundTypes
pub mod LawfulForms
