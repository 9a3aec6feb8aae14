-- What a file gives, as the code finds it.
pub mod ContentsSteps
