-- Laws of text in bytes, for the crates above.
pub mod FieldLaws
pub mod FieldSteps
pub mod NumberSteps
pub mod NumeralLaws
mod PlaceLaws
pub mod ColumnLaws
