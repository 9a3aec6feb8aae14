-- Laws of the shared steps of the calls, for the crates above.
pub mod HitsLaws
pub mod InsertionLaws
pub mod OptionSteps
pub mod SortedCellLaws
