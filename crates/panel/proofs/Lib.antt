-- Laws of what the panel shows.
pub mod PlacedLaws
pub mod TouchingSteps
pub mod RowCases
