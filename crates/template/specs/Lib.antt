-- Reading a template (docs/FORMAT.md, "Templates"); what reading one part finds is in `parts`.
-- Promise: Template, what reading a whole template finds; Answer, what the code's answer says. Machine: what only the
-- inner functions and the proofs use. Writer: the words of a template, and which templates are well-formed, for
-- theorems alone.
pub mod Answer
pub mod Template
pub mod Machine
pub mod Writer
