-- The promise: what a draft is, and the tree that it gives; and a map from parent and name to a number.
pub mod Draft
pub mod ChildMap
-- The states of what sorts and groups the entries of a draft.
pub mod Groups
