pub mod Replaced
pub mod Symbols
pub mod Named
pub mod SameTruth
pub mod StepsReachGoal
