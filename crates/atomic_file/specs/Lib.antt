-- What is read lies within the bytes lent; the name of a file that is not in place yet.
pub mod Within
pub mod Beside
