-- Grid: sets of places, and counts. Board: what the searches find. Work, Listing, Machine: what the functions ask for
-- and leave behind.
pub mod Grid
pub mod Board
pub mod Work
pub mod Listing
pub mod Machine
