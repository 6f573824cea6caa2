pub mod Cells
pub mod Rings
pub mod Meaning
pub mod Answers
pub mod Changes
