pub mod Memory
pub mod Faults
pub mod Tables
pub mod Locking
pub mod LockLaws
