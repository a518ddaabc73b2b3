-- The pairs of a sheet. Plans: how a shape is tested on a card. Fitting: what testing all pairs by counts asks and
-- leaves behind.
pub mod Plans
pub mod Fitting
