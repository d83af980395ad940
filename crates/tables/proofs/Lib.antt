pub mod Rows
pub mod Least
pub mod Marking
pub mod Shown
pub mod Filling
