-- StoredLists: what reading a stored list finds, and the bookings of one that is read. Tidied: a stored list without
-- its repeats. Keeping: writing it.
pub mod StoredLists
pub mod Tidied
pub mod Keeping
