-- What each call answers and leaves, on any words and bytes.
pub mod Walks
pub mod Causes
pub mod LinkCauses
pub mod Order
pub mod Calls
pub mod FileCalls
pub mod Contract
