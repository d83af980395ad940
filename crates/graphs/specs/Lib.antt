pub mod Links
pub mod Graphs
pub mod Books
pub mod Layers
pub mod GraphLaws
pub mod Sheets
pub mod SheetLaws
