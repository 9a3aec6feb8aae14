-- Laws of the functions between a pool and a file.
pub mod LoadSteps
pub mod WriteFileLaws
pub mod WriteSteps
pub mod DifferenceLaws
pub mod MatchSteps
pub mod AddedLaws
