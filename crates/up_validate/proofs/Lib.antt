mod Keeping
pub mod Going
pub mod Watching
pub mod Running
pub mod Judging
