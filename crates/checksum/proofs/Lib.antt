-- Laws of the check. The crates above use the first.
pub mod ChecksumLaws
mod PowerTableLaws
mod SumLaws
