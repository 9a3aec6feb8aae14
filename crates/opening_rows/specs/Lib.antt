-- An opening as a line of text.
pub mod OpeningRow
