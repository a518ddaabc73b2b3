-- The laws of "Fit counts", lowest first.
-- ShapePlaces: where a shape starts. Counts: the first count over 8,192. Spreading: a list of counts spread over all
-- labels. Listing: counts that all stand in a list. OwnCounts: the counts of a card's own links. Fitting: what "Fit
-- counts" answers. Ignoring: what it does not look at. Numbers: its refusals.
pub mod ShapePlaces
pub mod Counts
pub mod Spreading
pub mod Listing
pub mod OwnCounts
pub mod Fitting
pub mod Ignoring
pub mod Numbers
