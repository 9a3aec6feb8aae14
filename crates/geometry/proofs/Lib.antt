-- Laws of points and regions, for the crates above.
pub mod HalfLaws
pub mod AxisLaws
pub mod RegionLaws
pub mod PointLaws
pub mod LevelLaws
pub mod SearchRangeLaws
