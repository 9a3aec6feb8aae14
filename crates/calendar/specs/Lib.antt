-- Days, the day and time of a quarter, and where they are shown.
pub mod Calendar
pub mod Moment
pub mod Note
