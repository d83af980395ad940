pub mod Limits
pub mod Layout
pub mod Blocks
pub mod Marks
pub mod Reading
pub mod Tables
