-- Worked: the right answers of the worked sheet are allowed; Printed: and its text; Judged: and of grids of it.
-- Refusals: every refusal happens; Limits: what is at a limit is read. Refuted, Opening, Arriving: wrong answers are
-- not allowed, also of open shapes and of links that arrive. Formed, Listed: what is well-formed is read, and what is
-- refused is listed. Repeats: lists that are refused, and stored ones. Desks: what each desk gets. Structs: wrong
-- numbers for C. Orders: pairs struck one at a time, rightly and wrongly. Counts: counts fit by bags, and those of a
-- card. Links: a script and a card's links. Demands, JudgedGrids, ApartDesks, TidiedLists, SingleStrikes: what the
-- pages of these names say holds.
pub mod Worked
pub mod Judged
pub mod Refusals
pub mod Limits
pub mod Refuted
pub mod Opening
pub mod Arriving
pub mod Formed
pub mod Listed
pub mod Printed
pub mod Repeats
pub mod Desks
pub mod Structs
pub mod Orders
pub mod Counts
pub mod Links
pub mod Demands
pub mod JudgedGrids
pub mod ApartDesks
pub mod TidiedLists
pub mod SingleStrikes
