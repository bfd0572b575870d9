-- All of it is the promise: what each block says of itself, and what is written.
pub mod Causes
pub mod Forms
pub mod Fields
pub mod Sizes
pub mod RootBlock
pub mod PageBlock
pub mod MapExtBlock
pub mod HeadBlock
pub mod ExtBlock
pub mod DataBlock
