pub mod Walks
pub mod Sets
pub mod Jobs
pub mod Rows
