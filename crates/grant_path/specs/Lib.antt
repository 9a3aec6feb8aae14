-- The way from a grant's cell up to the root, and its cells as lines of a table.
pub mod GrantPath
pub mod PathRow
