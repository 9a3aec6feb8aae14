-- Laws of days, and of where they are shown.
pub mod CalendarLaws
pub mod NoteLaws
pub mod CalendarCases
