-- Whether counts of links fit a shape (docs/FORMAT.md, "Bags and counts" and "Operations").
-- Promise: Answer, what the code's answer says; Fit, what "Fit counts" answers. Machine: what the inner functions ask.
pub mod Answer
pub mod Fit
pub mod Machine
