-- Laws of the calls, for the crates above.
pub mod FindLaws
pub mod LiveLineLaws
pub mod PlanLaws
