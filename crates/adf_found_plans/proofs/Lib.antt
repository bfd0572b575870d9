-- partitions and volumes, one after the other
pub mod Firsts
