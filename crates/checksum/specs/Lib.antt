-- The check of a block, and the table that it is computed by.
pub mod Checksum
pub mod PowerTable
