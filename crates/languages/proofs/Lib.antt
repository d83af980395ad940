pub mod CellLaws
pub mod Vias
pub mod Walks
pub mod Forms
pub mod Evaluation
