-- Opening: open and closed shapes. ShapeLaws, TemplateLaws: shapes, and the template. Table: how the table of names
-- is filled. Accepted: an accepted template. Numbers: which refusals there
-- are. Answers: no choice. RoundTripWritten, RoundTripRead: what is written is read, and back. RoundTrip: the templates
-- that are read are the writings of the well-formed ones.
pub mod Opening
pub mod ShapeLaws
pub mod TemplateLaws
pub mod Table
pub mod Accepted
pub mod Numbers
pub mod Answers
pub mod RoundTripWritten
pub mod RoundTripRead
pub mod RoundTrip
