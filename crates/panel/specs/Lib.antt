-- What the attendant's panel shows of a bank in memory.
pub mod Answering
pub mod Touching
pub mod Rows
