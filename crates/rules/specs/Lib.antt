pub mod Faults
pub mod Manager
pub mod Cascade
pub mod Changes
pub mod Calls
pub mod Theorems
pub mod Sound
