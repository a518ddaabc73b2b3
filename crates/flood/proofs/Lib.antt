-- Followed: the search forwards.
pub mod Followed
