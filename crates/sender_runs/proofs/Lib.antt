-- What may become of a standing (Lives), one call after another (Goes), and what others cite: the laws of every run (Remembering), what leaves
-- in it (Leaving), and one call more (More).
pub mod Lives
pub mod Goes
pub mod Remembering
pub mod Leaving
pub mod More
