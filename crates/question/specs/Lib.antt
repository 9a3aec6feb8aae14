-- What an attendant types at the panel, read as a question.
pub mod Number
pub mod Day
pub mod Quarter
pub mod Word
pub mod Question
