-- What the steps of printing an input ask for; no part of a promise.
-- SectionsLent   where the sections of an input are, and room for its text
-- Assumes nothing.
use Rattle.std.specs.Prelude.{ℕ, ◌≤◌, List, length}
use Rattle.input.specs.Machine.{Laid}
use Rattle.input.specs.declared.Sections.{Sections}
use Rattle.sheet_text.specs.Steps.{text_room}

-- The sections of an input, and room for its text.
pub record SectionsLent (input : List ℕ) (sections : Sections) (out : List ℕ) : Type 0 where
  pub laid : Laid input sections
  pub room : text_room ≤ length out
