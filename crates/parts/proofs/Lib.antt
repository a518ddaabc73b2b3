-- Codes: what a code starts. Laws: a link, and a part by its code. Stands: where words stand in a list. RoundTripRead:
-- what is read is written. Places: the next place after a part. Remaining: a run part by part. Trees: what a part that
-- was read obeys, and the row after it. Numbers: which refusals there are. Rows: the row after a part, link by link.
-- RoundTripWritten: what is written is read.
pub mod Codes
pub mod Laws
pub mod Stands
pub mod RoundTripRead
pub mod Places
pub mod Remaining
pub mod Trees
pub mod Numbers
pub mod Rows
pub mod RoundTripWritten
