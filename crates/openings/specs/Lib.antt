-- Records of openings, and what the comparison of two of them answers.
pub mod Entry
pub mod First
pub mod Record
pub mod Defects
pub mod Sorted
pub mod Compare
pub mod Left
