-- What the shared steps of the calls require and leave.
pub mod Hits
pub mod Insertions
pub mod SortKeys
