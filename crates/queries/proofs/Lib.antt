-- Laws of the queries' steps, for the crates above.
pub mod LookSteps
pub mod CountSteps
pub mod NumberLaws
pub mod ListSteps
pub mod DecideLaws
pub mod DecideSteps
