-- The row of a card in a grid, the bytes of its shapes, and which cards are counted.
--   row-off              a row as a list of its own has no place on exactly if the grid has none there
--   byte-on              the byte of a test is on exactly if the test passed
--   is_bare               a card is marked and has no shape
--   bare-hit, blank-miss, shaped-miss   one card more, that is so, that isn't marked, or that has a shape
--   bare-counted         a sheet's cards with some link and no shape
-- Assumes nothing.
use mathlib.Core.Path.{◌≡◌, refl, ap, ◌∙◌}
use mathlib.Core.List.{List}
use mathlib.Core.Bool.{Bool, true, false, cond, ◌&&◌}
use Prim.Native.Nat.{ℕ, ◌+◌, ◌-◌, ◌*◌, ◌≤◌}
use native.Mathlib.Omega.{arith}
use lib.Dec.{eqb}
use lib.ListN.{length, get_or, take, drop, length-take, length-drop}
use lib.Seq.{get_or-drop, get_or-take}
use Rattle.board.specs.Grid.{on, tally}
use Rattle.board.proofs.Grids.{on-yes, on-no}
use Rattle.board.proofs.Tally.{tally-ext, tally-hit, tally-miss}
use Rattle.words.proofs.Bools.{is_false, never_both, and_both, and_second}
use Rattle.script.specs.Link.{linked}
use Rattle.links.specs.Marks.{LinkedMarked}
use Rattle.sheet.specs.Sheet.{Sheet}
use Rattle.sheet.specs.declared.Extent.{Extent}
use Rattle.typing.specs.Largest.{bare, bare_cards}
use Rattle.bare.specs.Rows.{CountedAs}

-- the byte of a test is 1 where it passed, else 0
pub byte-on : (grid : List ℕ) (p : ℕ) (b : Bool) → get_or grid p 0 ≡ cond b 1 0 → on grid p ≡ b
byte-on grid p true h = on-yes grid p h
byte-on grid p false h = on-no grid p (λ one. absurd (omega (arith, h, one)))

-- bytes that are the same are tested the same
byte-same : (g h : List ℕ) (p q : ℕ) → get_or g p 0 ≡ get_or h q 0 → on g p ≡ on h q
unfolding on
byte-same g h p q e = ap (λ (x : ℕ). eqb x 1) e

module _ (grid : List ℕ) (base size : ℕ) (inside : base + size ≤ length grid) where
  -- the bytes from place a on, as many as s
  abbrev part : ℕ → ℕ → List ℕ
  part a s = take s (drop a grid)

  row-length : length (part base size) ≡ size
  row-length = simp (length-take, length-drop) (omega arith)

  row-tally : tally (on (part base (base + size - base))) (length (part base (base + size - base)))
      ≡ tally (λ t. on grid (base + t)) size
  row-tally =
      let e : base + size - base ≡ size = omega arith in
      ap (λ (s : ℕ). tally (on (part base s)) (length (part base s))) e
      ∙ ap (tally (on (part base size))) row-length
      ∙ tally-ext (on (part base size)) (λ t. on grid (base + t)) size
      (λ t l. byte-same (part base size) grid t (base + t) (rw (get_or-take, get_or-drop)))

  pub row-off : eqb (tally (on (part base (base + size - base))) (length (part base (base + size - base)))) 0
      ≡ eqb (tally (λ t. on grid (base + t)) size) 0
  row-off = ap (λ (x : ℕ). eqb x 0) row-tally

-- The row of card n has no place on.
abbrev off_row : List ℕ → ℕ → ℕ → Bool
off_row grid shapes n = eqb (tally (λ t. on grid (n * shapes + t)) shapes) 0

-- Card n is marked and has no shape.
abbrev pub is_bare : List ℕ → List ℕ → ℕ → ℕ → Bool
is_bare marks grid shapes n = on marks n && off_row grid shapes n

-- One card more: it is marked and has no shape, it isn't marked, or it has a shape.
module _ (marks grid : List ℕ) (shapes n : ℕ) where
  pub bare-hit : get_or marks n 0 ≡ 1 → off_row grid shapes n ≡ true
      → tally (is_bare marks grid shapes) (n + 1) ≡ tally (is_bare marks grid shapes) n + 1
  bare-hit one off =
      tally-hit (is_bare marks grid shapes) n (and_both (on marks n) (off_row grid shapes n) (on-yes marks n one) off)

  pub blank-miss : (get_or marks n 0 ≡ 1 → ⊥)
      → tally (is_bare marks grid shapes) (n + 1) ≡ tally (is_bare marks grid shapes) n
  blank-miss other = tally-miss (is_bare marks grid shapes) n (rw (on-no marks n other) refl)

  pub shaped-miss : off_row grid shapes n ≡ false
      → tally (is_bare marks grid shapes) (n + 1) ≡ tally (is_bare marks grid shapes) n
  shaped-miss some =
      tally-miss (is_bare marks grid shapes) n
      (is_false (λ both. never_both (and_second (on marks n) (off_row grid shapes n) both) some))

-- Where the marks are those of the cards that links touch, the cards that are marked and have no shape are those that
-- the definition counts.
pub bare-counted : (script : List ℕ) (e : Extent) (marks grid : List ℕ) (s : Sheet) {size : ℕ} → CountedAs s script e
    → LinkedMarked script e.links size marks → e.cards ≤ size
    → tally (is_bare marks grid e.shapes) e.cards ≡ bare_cards s (on grid)
unfolding bare_cards bare
bare-counted script e marks grid s {size} c marked room =
    rw (c.words, c.links, c.cards, c.shapes)
    (tally-ext (is_bare marks grid e.shapes) _ e.cards (λ n l.
    ap (λ (b : Bool). b && off_row grid e.shapes n)
    (byte-on marks n (linked script n e.links) (marked.exact n (omega (arith, marked.size))))))
