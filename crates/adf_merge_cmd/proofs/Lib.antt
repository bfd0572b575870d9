-- readings that are had
pub mod Readings
-- maps that are read one by one
pub mod NamedMaps
