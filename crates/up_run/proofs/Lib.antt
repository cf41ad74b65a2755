pub mod Apart
pub mod Headline
pub mod Laws
pub mod Due
