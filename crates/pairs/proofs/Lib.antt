-- Links: where the links of a sheet that is read stand. Tested: the grid of its pairs that fit stands for it.
pub mod Links
pub mod Tested
