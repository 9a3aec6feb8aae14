-- Laws of a pool's words, for the crates above.
pub mod LayoutLaws
pub mod StoreLaws
pub mod CellLaws
pub mod CapacityLaws
pub mod CapacitySteps
pub mod FreshLaws
pub mod FreshSteps
pub mod CellWordsLaws
pub mod FreeCellLaws
