-- What the functions between a pool and a file leave on their way.
pub mod RecordBlocks
pub mod Loading
