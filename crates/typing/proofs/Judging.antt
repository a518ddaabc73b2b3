-- The judge of a grid and the calls for the two typings, over what their contracts allow and for all inputs.
--   judge-exact          accepted is exactly a sound typing of the sheet that is read that holds the bookings
--   judge-takes-smallest, judge-takes-largest, judge-takes-both   what our own calls write for bookings that are met
--                        is accepted
--   judge-between        what is accepted lies between the smallest and the largest typing
--   judge-some           some grid is accepted exactly if the bookings are not turned down
--   judge-one-answer, judge-no-choice   two answers that are allowed for one input are equal
-- Assumes nothing.
use Prim.Native.Nat.{ℕ}
use mathlib.Core.Path.{◌≡◌, refl, sym, ◌∙◌, subst}
use mathlib.Core.Logic.{◌↔◌}
use mathlib.Core.List.{List, [], ◌∷◌}
use lib.ListN.{length}
use Rattle.words.specs.Said.{Said, values, refusal}
use Rattle.words.specs.Reading.{Reading, accepted}
use Rattle.words.proofs.Said.{values-refusal}
use Rattle.words.proofs.Readings.{accepted-same}
use Rattle.words.proofs.Answered.{answered-values, told-unique}
use Rattle.board.specs.Grid.{on}
use Rattle.sheet.specs.Sheet.{Sheet, read_sheet}
use Rattle.bookings.specs.Bookings.{Booked}
use Rattle.std.specs.Prelude.{Result}
use Rattle.words.specs.declared.Card.{Card}
use Rattle.words.specs.declared.Shape.{Shape}
use Rattle.words.specs.declared.refusal.Refusal.{Refusal}
use Rattle.typing.specs.Typing.{Below}
use Rattle.typing.specs.Demand3.{Outcome, pairs, not_met, Refused}
use Rattle.typing.specs.Answer.{BothSaid, judge_said}
use Rattle.typing.specs.Calls.{booked_reading, largest_reading, smallest_reading, both_reading, Grids, Leaves}
use Rattle.typing.specs.Calls.{outcome_said, LargestSays, SmallestFound, SmallestSays, BothSays}
use Rattle.typing.specs.Judge.{passes, Passes, JudgeFound, JudgeSays}
use Rattle.typing.proofs.Smallest.{accepted-sound, accepted-holds, turned-down-never}
use Rattle.typing.proofs.Booked.{grid-asked, grid-taken, bookings-asked}
use Rattle.typing.proofs.Existence.{represented}
use Rattle.typing.proofs.Apart.{apart}
use Rattle.typing.proofs.Values.{smallest-values, both_values, judge-values}
use Rattle.typing.proofs.Verdicts.{judge-found-unique, judge-said-unique}

passes-found : {s : Sheet} {bookings : List ℕ} {desk : ℕ} {grid : List ℕ} → Passes s (Booked bookings desk) grid
    → JudgeFound s bookings desk grid (values [])
passes-found p = record { verdict = passes; says = refl; right = p }

-- a number of pairs is said of no refusal
not-refused : {found : List ℕ} (o : Outcome) → values found ≡ outcome_said o → Refused o → ⊥
not-refused (pairs m) e r = r
not-refused (not_met n t) e r = values-refusal e

module _ (template script bookings : List ℕ) (desk : ℕ) where
  pub judge-one-answer : (grid : List ℕ) (a b : Said) → JudgeSays template script bookings desk grid a
      → JudgeSays template script bookings desk grid b → a ≡ b
  judge-one-answer grid a b x y =
      told-unique (smallest_reading template script bookings desk grid) a b (λ s r. judge-found-unique) x y

  pub judge-no-choice : (grid : List ℕ) (a b : Result (Result (Unit {0}) (Card × Shape)) Refusal)
      → JudgeSays template script bookings desk grid (judge_said a)
      → JudgeSays template script bookings desk grid (judge_said b) → a ≡ b
  judge-no-choice grid a b x y =
      judge-said-unique a b (judge-one-answer grid (judge_said a) (judge_said b) x y)

  -- ---- what is accepted
  -- template, script and bookings are read for the desk
  abbrev listed : Reading Sheet
  listed = booked_reading template script bookings desk

  module _ (grid : List ℕ) (s : Sheet) (asked : smallest_reading template script bookings desk grid ≡ accepted s)
      (p : Passes s (Booked bookings desk) grid) where
    passes-allowed : JudgeSays template script bookings desk grid (values [])
    passes-allowed =
        rw asked (passes-found p)

    passes-only : (said : Said) → JudgeSays template script bookings desk grid said → said ≡ values []
    passes-only said x = judge-one-answer grid said (values []) x passes-allowed

  -- the files are read to some sheet, and the grid has its size, is a sound typing of it and holds the bookings
  pub judge-exact : (grid : List ℕ) (said : Said) → JudgeSays template script bookings desk grid said
      → (said ≡ values [])
      ↔ ((s : Sheet) × (smallest_reading template script bookings desk grid ≡ accepted s)
      × Passes s (Booked bookings desk) grid)
  judge-exact grid said x = (
    λ e. judge-values (smallest_reading template script bookings desk grid) bookings desk grid
        (subst (λ (a : Said). JudgeSays template script bookings desk grid a) e x),
    λ (s, asked, p). passes-only grid s asked p said x,
  )

  -- ---- what our own calls write
  -- of a grid that passes nothing else may be said, where a grid of some call had the sheet's size
  taken : (before grid : List ℕ) (s : Sheet) → smallest_reading template script bookings desk before ≡ accepted s
      → Passes s (Booked bookings desk) grid → (said : Said) → JudgeSays template script bookings desk grid said
      → said ≡ values []
  taken before grid s asked p =
      let read = (grid-asked before listed s asked).0 in
      passes-only grid s (grid-taken grid listed s read p.sound.typing.full) p

  module _ (before small : List ℕ) (m : ℕ)
      (x : SmallestSays template script bookings desk before small (values (m ∷ []))) where
    -- the sheet, and the grid that is written for it
    written : (s : Sheet) × (smallest_reading template script bookings desk before ≡ accepted s)
        × Passes s (Booked bookings desk) small
    written =
        smallest-values (Booked bookings desk) (smallest_reading template script bookings desk before) before small
        (m ∷ []) x

    pub judge-takes-smallest : (said : Said) → JudgeSays template script bookings desk small said → said ≡ values []
    judge-takes-smallest = let (s, asked, p) = written in taken before small s asked p

    module _ (other large : List ℕ) (rounds struck bare : ℕ)
        (y : LargestSays template script other large (values (rounds ∷ struck ∷ bare ∷ []))) where
      large-passes : (s : Sheet) → smallest_reading template script bookings desk before ≡ accepted s
          → Passes s (Booked bookings desk) small → Passes s (Booked bookings desk) large
      large-passes s asked p =
          let (q, large-asked, found) = answered-values (largest_reading template script other) other large _ y in
          let files = (grid-asked before listed s asked).0 in
          let read = (bookings-asked bookings desk (read_sheet template script) s files).0 in
          let again = grid-asked other (read_sheet template script) q large-asked in
          let same : q ≡ s = accepted-same (sym again.0 ∙ read) in
          let large-asks = subst (λ (z : Sheet). largest_reading template script other ≡ accepted z) same
          large-asked in
          let d = (apart template script bookings desk other before s large-asks asked large small _ _ y x).demand in
          let (sound, holds) = d.large-sound (λ r. d.turned_down.0 r small p.sound p.holds) in
          record { sound = sound; holds = holds }

      pub judge-takes-largest : (said : Said) → JudgeSays template script bookings desk large said → said ≡ values []
      judge-takes-largest = let (s, asked, p) = written in taken before large s asked (large-passes s asked p)

  -- both grids of the one call
  pub judge-takes-both : (before after : Grids) (said : BothSaid) (m : ℕ)
      → BothSays template script bookings desk before after said → said.smallest ≡ values (m ∷ [])
      → (told : Said) → (JudgeSays template script bookings desk after.small told → told ≡ values [])
      × (JudgeSays template script bookings desk after.large told → told ≡ values [])
  judge-takes-both before after said m x e told =
      let (s, both-asked, found) =
      both_values (Booked bookings desk) (both_reading template script bookings desk before) before after said (m ∷
      []) e
      x in
      let small-asks = smallest_reading template script bookings desk before.small in
      let asked = (grid-asked before.large small-asks s both-asked).0 in
      let d = found.demand in
      let met = not-refused found.smallest.outcome (sym e ∙ found.smallest.says) in
      let (small, small-holds) = d.small-sound met in
      let (large, large-holds) = d.large-sound met in (
        taken before.small after.small s asked (record { sound = small; holds = small-holds }) told,
        taken before.small after.large s asked (record { sound = large; holds = large-holds }) told,
      )

  -- ---- what is accepted, and the two typings
  module _ (grid : List ℕ) (accepts : JudgeSays template script bookings desk grid (values [])) where
    -- the sheet, and that the grid passes
    passed : (s : Sheet) × (smallest_reading template script bookings desk grid ≡ accepted s)
        × Passes s (Booked bookings desk) grid
    passed = judge-values (smallest_reading template script bookings desk grid) bookings desk grid accepts

    -- whatever the lent grids held, as long as they have the size of the one that is accepted
    pub judge-between : (before other small large : List ℕ) (a b : Said)
        → length before ≡ length grid → length other ≡ length grid
        → SmallestSays template script bookings desk before small a → LargestSays template script other large b
        → (s : Sheet) → read_sheet template script ≡ accepted s
        → Below s (on small) (on grid) × Below s (on grid) (on large)
    judge-between before other small large a b e f x y s read =
        let (q, asked, p) = passed in
        let (files, full) = grid-asked grid listed q asked in
        let (read-too, inside) = bookings-asked bookings desk (read_sheet template script) q files in
        let d = (apart template script bookings desk other before q
        (grid-taken other (read_sheet template script) q read-too (f ∙ full))
        (grid-taken before listed q files (e ∙ full)) large small b a y x).demand in
        subst (λ (z : Sheet). Below z (on small) (on grid) × Below z (on grid) (on large))
        (accepted-same (sym read-too ∙ read))
        (d.between (λ r. d.turned_down.0 r grid p.sound p.holds) grid p.sound p.holds)

  module _ (before after : List ℕ) (said : Said) (s : Sheet)
      (asked : smallest_reading template script bookings desk before ≡ accepted s)
      (x : SmallestSays template script bookings desk before after said) where
    -- by how the bookings fared
    some-by : (o : Outcome) → said ≡ outcome_said o → Leaves s (Booked bookings desk) after o
        → ((grid : List ℕ) × JudgeSays template script bookings desk grid (values []))
        ↔ ((n t : ℕ) → said ≡ refusal 50 (n ∷ t ∷ []) → ⊥)
    some-by (pairs m) e a = (
      λ _ n t f. values-refusal (sym e ∙ f),
      λ _.
          let p : Passes s (Booked bookings desk) after =
          record { sound = accepted-sound a; holds = accepted-holds a } in
          let read = (grid-asked before listed s asked).0 in
          (after, passes-allowed after s (grid-taken after listed s read a.typing.full) p),
    )
    some-by (not_met n t) e a = (
      λ (grid, accepts).
          let (q, again, p) = passed grid accepts in
          let files = (grid-asked before listed s asked).0 in
          let same : q ≡ s = accepted-same (sym (grid-asked grid listed q again).0 ∙ files) in
          let (read, inside) = bookings-asked bookings desk (read_sheet template script) s files in
          let w = subst (λ (z : Sheet). Passes z (Booked bookings desk) grid) same p in
          absurd (turned-down-never (represented template script s read).1 inside a (on grid) w.sound.sound
          w.holds),
      λ never. absurd (never n t e),
    )

    -- the smallest's files are read and its grid has the size: some grid is accepted, or 50 is said
    pub judge-some : ((grid : List ℕ) × JudgeSays template script bookings desk grid (values []))
        ↔ ((n t : ℕ) → said ≡ refusal 50 (n ∷ t ∷ []) → ⊥)
    judge-some =
        let found : SmallestFound s (Booked bookings desk) after said = rw asked at x in
        some-by found.outcome found.says found.leaves
