-- directory caches that are laid into a volume
pub mod LaidCaches
