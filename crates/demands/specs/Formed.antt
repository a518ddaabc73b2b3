-- What is well-formed (docs/FORMAT.md, "Templates", "Scripts", "Bookings"): the words are those that a writer gives of
-- something within all limits. The limits and layout rules are the fields of the writers' `WellFormed`.
-- FormedTemplate    a template
-- Formed            a template and a script, and the sheet that they are
-- BookingsFormed    a list of bookings of both desks
-- StoredFormed      a stored list of bookings
-- Assumes nothing.
use Rattle.std.specs.Prelude.{ℕ, ◌+◌, ◌*◌, ◌≤◌, ◌<◌, ◌≡◌, List, length, get_or}
use Rattle.words.specs.Limits.{max_bookings}
use Rattle.template.specs.Template.{opens, Template}
use Rattle.template.specs.Writer as templates
use Rattle.script.specs.Writer as scripts
use Rattle.sheet.specs.Sheet.{Sheet}
use Rattle.bookings.specs.Bookings.{desk_at, card_at, shape_at}
use Rattle.stored.specs.Stored.{stored_card_at, stored_shape_at}

-- The words are those of this template, and it is within all limits.
abbrev pub FormedTemplate : List ℕ → Template → Type 0
FormedTemplate template t =
    templates.WellFormed t.kinds t.shapes (opens template) t.parts
    × (template ≡ templates.write_template t.kinds t.shapes (opens template) t.parts)

-- The words are those of a template and a script within all limits of docs/FORMAT.md, and the sheet is theirs. The
-- limits and layout rules are the fields of the two `WellFormed`; what the words of a template and a script are is
-- `write_template` and `write_script`.
pub record Formed (template script : List ℕ) (s : Sheet) : Type 0 where
  pub kinds : ℕ
  pub links : List scripts.Link
  pub template-formed : templates.WellFormed kinds s.shapes (opens template) s.parts
  pub template-written : template ≡ templates.write_template kinds s.shapes (opens template) s.parts
  pub script-formed : scripts.WellFormed kinds s.cards links
  pub script-written : script ≡ scripts.write_script s.cards links
  -- the sheet keeps the words of both and the number of the script's links
  pub count : s.links ≡ length links
  pub template-words : s.template ≡ template
  pub script-words : s.script ≡ script

-- The words are a stored list of bookings within all limits: at most 1,024 bookings, each of a card and a shape that
-- there are.
pub record StoredFormed (cards shapes : ℕ) (bookings : List ℕ) : Type 0 where
  pub few : get_or bookings 0 0 ≤ max_bookings
  pub size : length bookings ≡ 1 + 2 * get_or bookings 0 0
  pub card-in : (i : ℕ) → i < get_or bookings 0 0 → stored_card_at bookings i < cards
  pub shape-in : (i : ℕ) → i < get_or bookings 0 0 → stored_shape_at bookings i < shapes

-- The words are a list of bookings of both desks within all limits: at most 1,024 bookings, each of one of the two
-- desks and of a card and a shape that there are, and no desk books a pair twice.
pub record BookingsFormed (cards shapes : ℕ) (bookings : List ℕ) : Type 0 where
  pub few : get_or bookings 0 0 ≤ max_bookings
  pub size : length bookings ≡ 1 + 3 * get_or bookings 0 0
  pub desk-in : (i : ℕ) → i < get_or bookings 0 0 → desk_at bookings i ≤ 1
  pub card-in : (i : ℕ) → i < get_or bookings 0 0 → card_at bookings i < cards
  pub shape-in : (i : ℕ) → i < get_or bookings 0 0 → shape_at bookings i < shapes
  pub once : (j i : ℕ) → j < i → i < get_or bookings 0 0 → desk_at bookings j ≡ desk_at bookings i
      → card_at bookings j ≡ card_at bookings i → shape_at bookings j ≡ shape_at bookings i → ⊥
