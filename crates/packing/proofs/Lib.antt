-- Laws of packed answers.
pub mod PackLaws
