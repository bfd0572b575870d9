-- The promise: what is laid out for a tree, and when it is too large.
pub mod Plan
pub mod Writes
pub mod Bits
pub mod Laid
pub mod Building
pub mod InOrder
-- The states of the builder.
pub mod Order
