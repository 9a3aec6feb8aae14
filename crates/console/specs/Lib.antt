-- What it is to take a line from the bytes that were read.
pub mod Newline
pub mod Taken
pub mod Pulled
