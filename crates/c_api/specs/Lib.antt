-- The C interface: what each call returns and leaves.
pub mod Contract
