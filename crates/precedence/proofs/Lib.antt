-- Laws of how far a grant stands.
pub mod PrecedenceLaws
pub mod PrecedenceWalkLaws
pub mod HitScanLaws
pub mod PrecedenceCases
pub mod PrecedenceDecideLaws
