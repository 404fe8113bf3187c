pub mod Spaced
pub mod LostSoFar
pub mod Written
pub mod SettledLines
pub mod Idle
