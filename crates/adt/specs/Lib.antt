-- The alternating digital tree over a pool of words: its walks, and the causes of fault 9.
pub mod Node
pub mod Search
pub mod Predicate
pub mod Insert
pub mod Remove
pub mod Links
pub mod Reach
pub mod FreeHead
pub mod SearchMemory
pub mod WalkResult
