-- Plain lists: what the definitions above need and the library lacks.
pub mod Tests
pub mod Ranges
pub mod Total
pub mod Overwrite
pub mod Sort
