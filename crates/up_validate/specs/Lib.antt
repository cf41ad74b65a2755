pub mod Watching
pub mod Verdicts
pub mod Watches
pub mod Runs
