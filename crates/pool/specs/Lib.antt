-- The words of a pool.
pub mod Layout
pub mod Capacity
pub mod Cell
pub mod Fresh
