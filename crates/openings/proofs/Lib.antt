-- Laws of records of openings, for the crates above.
pub mod EntryLaws
pub mod FirstLaws
pub mod SortedLaws
pub mod DefectLaws
pub mod LeftLaws
pub mod CompareLaws
pub mod EntryByteLaws
