pub mod Sets
pub mod Jobs
pub mod Rows
pub mod Relations
