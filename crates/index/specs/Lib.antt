-- What each call answers and leaves, on any words and bytes.
pub mod NumberSearch
pub mod Plans
