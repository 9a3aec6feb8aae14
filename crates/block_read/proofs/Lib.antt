-- Laws of block read.
pub mod BlockReadSteps
pub mod PartLaws
