pub mod Exprs
pub mod Grammar
pub mod Numbering
pub mod Storing
pub mod Wordings
pub mod Machine
pub mod Reads
pub mod Reader
