-- Laws of plain lists, for the crates above.
pub mod EachLaws
pub mod TestLaws
pub mod ElementLaws
pub mod RangeLaws
pub mod DistinctLaws
pub mod PermLaws
pub mod CountLaws
pub mod SortLaws
pub mod KeyLaws
pub mod EveryLaws
pub mod ListLaws
pub mod OrLaws
pub mod StoreLaws
