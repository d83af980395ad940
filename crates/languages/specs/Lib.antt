pub mod Paths
pub mod Languages
pub mod Cells
pub mod Algebra
