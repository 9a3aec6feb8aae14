-- Records, blocks and files of grants.
pub mod Layout
pub mod Bytes
pub mod Record
pub mod Block
pub mod File
pub mod Defects
pub mod Verdict
pub mod Answers
pub mod FileSets
