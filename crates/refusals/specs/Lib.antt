pub mod Table
pub mod Rows
