-- Laws of what an attendant types.
pub mod NumberLaws
pub mod DayLaws
pub mod QuarterLaws
pub mod MomentLaws
pub mod RoundingLaws
pub mod WordLaws
pub mod QuestionLaws
pub mod QuestionCases
pub mod MomentTextLaws
pub mod ShownLaws
