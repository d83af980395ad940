pub mod Encoding
pub mod Reading
pub mod Books
pub mod Walking
