-- Laws of the slip program's lines, and the proof of its claim.
pub mod ListedLaws
pub mod FitLaws
pub mod AnswerTextLaws
pub mod LineLaws
pub mod SessionLaws
pub mod SlipLaws
pub mod TextLaws
pub mod MarkedLines
pub mod JournalLineLaws
