-- Laws of the way up.
pub mod AncestorSteps
pub mod AncestorLaws
