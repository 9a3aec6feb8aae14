-- Laws of the model, for the crates above.
pub mod OverlapLaws
pub mod QuarterLaws
pub mod RelationLaws
pub mod DecideLaws
pub mod Simulation
pub mod RefusalLaws
pub mod SoundLaws
pub mod BookLaws
pub mod ArgumentLaws
pub mod AnswerLaws
pub mod GrantLaws
pub mod SeniorityLaws
pub mod JudgedLaws
