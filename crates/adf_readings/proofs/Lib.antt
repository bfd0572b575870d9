-- blocks joined
pub mod Joined
-- the readings that count
pub mod Sources
