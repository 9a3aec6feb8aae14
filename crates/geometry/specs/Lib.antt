-- Points, search ranges and regions.
pub mod Axis
pub mod Levels
pub mod Width
pub mod Region
pub mod Point
pub mod SearchRange
