-- Laws of taking a line.
pub mod NewlineLaws
pub mod TakeLaws
pub mod PullLaws
