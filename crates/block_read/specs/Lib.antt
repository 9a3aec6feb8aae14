-- One block of a file, judged alone, and the part of the file that its records occupy.
pub mod BlockRead
