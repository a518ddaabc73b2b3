-- The theory of the two typings, lowest first.
-- Boards: the board of a script and a table of names. Represents: a board stands for a sheet. Rounds: a sheet's rounds
-- are the board's. Largest, Smallest: the two typings. Demand: both together. Booked: bookings of a list that is read.
-- Unique: two answers to one call are the same. Neighbours, Instance: the board of a template and a script. Opening:
-- open shapes. Existence: every sheet has a board, so no contract leaves a choice. Numbers: which numbers the calls
-- refuse with. Adequate: met is decided, and a round strikes nothing exactly if its set is sound. Apart: the two calls
-- made apart. Verdicts: a grid that is judged has one right verdict. Values: values are said of a sheet that is read.
-- Judging: the judge and the two typings. SamePairs: bookings of the same pairs. NoneBooked: where nothing is booked.
-- DifferentPairs: how many pairs are booked. Tidying: a list that is tidied. DesksApart: what one desk books changes
-- nothing for the other. DeskAnswers: the typings of both desks in one call. Orders: pairs struck one at a time.
pub mod Boards
pub mod Represents
pub mod Rounds
pub mod Largest
pub mod Smallest
pub mod Demand
pub mod Booked
pub mod Unique
pub mod Neighbours
pub mod Instance
pub mod Opening
pub mod Existence
pub mod Numbers
pub mod Adequate
pub mod Apart
pub mod Verdicts
pub mod Values
pub mod Judging
pub mod SamePairs
pub mod NoneBooked
pub mod DifferentPairs
pub mod Tidying
pub mod DesksApart
pub mod DeskAnswers
pub mod Orders
