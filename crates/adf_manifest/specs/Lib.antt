-- The promise: which texts are manifests, of which tree, and what is the first fault of the others.
pub mod Texts
pub mod Tokens
pub mod Lines
pub mod Items
pub mod Manifest
pub mod Kinds
-- The states of the reader.
pub mod Reader
