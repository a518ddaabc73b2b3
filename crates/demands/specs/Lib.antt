-- Formed, Listed: what is well-formed, and the numbers of the refusals. Demands: the three demands on one page.
-- JudgedGrids, ApartDesks, TidiedLists, SingleStrikes: a page each on grids that are judged, on the two desks, on
-- lists that are tidied and on pairs struck one at a time. Refusals: an input for each refusal; Limits: what is at a
-- limit and is read. Worked: a worked sheet and its answers. Printed: its bytes and its text. Judged: grids of it that
-- are judged. Repeats: bookings of it in which a pair stands twice, and stored lists. Desks: what each desk gets.
pub mod Formed
pub mod Listed
pub mod Demands
pub mod JudgedGrids
pub mod ApartDesks
pub mod TidiedLists
pub mod SingleStrikes
pub mod Worked
pub mod Printed
pub mod Judged
pub mod Repeats
pub mod Desks
pub mod Refusals
pub mod Limits
