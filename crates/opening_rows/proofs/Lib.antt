-- The definition of an opening's line, tried.
pub mod OpeningCases
