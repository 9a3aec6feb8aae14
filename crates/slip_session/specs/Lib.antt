-- What a line of the slip program does, and the claim about lists of lines.
pub mod Longest
pub mod SlipCall
pub mod AnswerText
pub mod LineStep
pub mod Contract
pub mod Slip
pub mod Text
pub mod Meaning
pub mod JournalStep
pub mod JournalContract
