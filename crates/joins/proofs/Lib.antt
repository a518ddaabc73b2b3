-- The laws of parts that are joined. Joined: their intervals. Beginnings: the first parts of a run.
pub mod Joined
pub mod Beginnings
