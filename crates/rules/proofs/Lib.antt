pub mod Cascade
pub mod Losses
pub mod Calls
pub mod Same
pub mod Values
pub mod Kept
pub mod Pending
pub mod Sound
