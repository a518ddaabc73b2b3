-- The bytes of all pairs, shape by shape, and of one shape card by card.
-- CardsFitted    what holds before each card: the cards before it have their bytes under the shape
-- cards-next     after one more
-- ShapesFitted   what holds before each shape: the shapes before it have their columns
-- shapes-start, shapes-next, shapes-end   at the first shape, after one more, and after the last
-- cell-inside    the byte of a pair lies in the grid
-- Assumes nothing.
use Prim.Native.Nat.{ℕ, ◌+◌, ◌*◌, ◌≤◌, ◌<◌}
use mathlib.Core.Path.{◌≡◌, refl, sym, ap, ◌∙◌}
use mathlib.Core.Logic.{⊎_elim}
use mathlib.Core.List.{List}
use native.Mathlib.Omega.{arith}
use native.Mathlib.Nat.{mul-le-mul_right, suc-mul}
use native.Mathlib.Numerals.{add-one}
use lib.ListN.{length, get_or, set, length-set}
use lib.Seq.{get_or-set_same, get_or-set_other}
use Rattle.words.specs.Reading.{accepted}
use Rattle.words.proofs.Bools.{le-or-lt, eq-or-ne, last-or-below}
use Rattle.bags.specs.Part.{Part}
use Rattle.template.specs.Template.{shape_place, opens, read_template}
use Rattle.template.proofs.Accepted.{place-next}
use Rattle.sheet.specs.declared.Extent.{Extent}
use Rattle.sheet.specs.Opened.{template_as}
use Rattle.fits.specs.Fitting.{byte_at, ColumnFitted, Fitted}

-- The row of a card c below n ends where that of card n starts, or before.
rows_apart : (c n shapes : ℕ) → c < n → c * shapes + shapes ≤ n * shapes
rows_apart c n shapes h = rw suc-mul at (mul-le-mul_right shapes h)

-- Two pairs have two places.
cells-apart : (c n shapes s t : ℕ) → s < shapes → t < shapes → ((c ≡ n) → (s ≡ t) → ⊥) →
    c * shapes + s ≡ n * shapes + t → ⊥
cells-apart c n shapes s t ls lt differ e = ⊎_elim
    (λ (same : c ≡ n). differ same
    (let rows : c * shapes ≡ n * shapes = ap (λ (x : ℕ). x * shapes) same in omega arith))
    (λ other. ⊎_elim
    (λ (h : c + 1 ≤ n). omega (arith, rows_apart c n shapes (omega arith)))
    (λ (h : n < c + 1). omega (arith, rows_apart n c shapes (omega (arith, other))))
    (le-or-lt (c + 1) n))
    (eq-or-ne c n)

-- The byte of a pair lies in the grid.
pub cell-inside : (grid : List ℕ) (cards shapes n t : ℕ) → length grid ≡ cards * shapes → n < cards → t < shapes →
    n * shapes + t < length grid
cell-inside grid cards shapes n t size l h = omega (arith, rows_apart n cards shapes l)

-- ---- the cards under one shape
-- What holds before card n.
pub record CardsFitted (template script : List ℕ) (e : Extent) (t : ℕ) (before grid : List ℕ) (n : ℕ) : Type 0 where
  pub size : length grid ≡ e.cards * e.shapes
  pub within : n ≤ e.cards
  -- the cards before n
  pub each : (parts : List Part) → read_template template ≡ accepted (template_as e.kinds e.shapes parts)
      → (c : ℕ) → c < n
      → get_or grid (c * e.shapes + t) 0 ≡ byte_at script e (opens template t) (get_or parts t Part.nothing) c
  -- the other shapes
  pub others : (c s : ℕ) → c < e.cards → s < e.shapes → (s ≡ t → ⊥)
      → get_or grid (c * e.shapes + s) 0 ≡ get_or before (c * e.shapes + s) 0

module _ (template script : List ℕ) (e : Extent) (t : ℕ) (before : List ℕ) where
  module _ (grid : List ℕ) (n cell byte : ℕ) (f : CardsFitted template script e t before grid n) (l : n < e.cards)
      (h : t < e.shapes) (q : cell ≡ n * e.shapes + t)
      (b : (parts : List Part) → read_template template ≡ accepted (template_as e.kinds e.shapes parts)
      → byte ≡ byte_at script e (opens template t) (get_or parts t Part.nothing) n) where
    next-each : (parts : List Part) → read_template template ≡ accepted (template_as e.kinds e.shapes parts) →
        (c : ℕ) → c < n + 1 →
        get_or (set grid cell byte) (c * e.shapes + t) 0
        ≡ byte_at script e (opens template t) (get_or parts t Part.nothing) c
    next-each parts r c i = ⊎_elim
        (λ (j : c ≡ n).
        rw (j, ← q)
        (get_or-set_same grid cell byte 0 (omega (arith, cell-inside grid e.cards e.shapes n t f.size l h))
        ∙ b parts r))
        (λ j.
        get_or-set_other grid cell (c * e.shapes + t) byte 0
        (λ (same : c * e.shapes + t ≡ cell). cells-apart c n e.shapes t t h h (λ one none. omega arith) (same ∙ q))
        ∙ f.each parts r c j)
        (last-or-below (rw (add-one n) at i))

    pub cards-next : CardsFitted template script e t before (set grid cell byte) (n + 1)
    cards-next = record {
      size = length-set grid cell byte ∙ f.size;
      within = omega arith;
      each = next-each;
      others = λ c s i j d.
          get_or-set_other grid cell (c * e.shapes + s) byte 0
          (λ (same : c * e.shapes + s ≡ cell). cells-apart c n e.shapes s t j h (λ one so. d so) (same ∙ q))
          ∙ f.others c s i j d;
    }

-- ---- the shapes
-- What holds before the shape t, whose count of words stands at `at`.
pub record ShapesFitted (template script : List ℕ) (e : Extent) (grid : List ℕ) (at t : ℕ) : Type 0 where
  pub size : length grid ≡ e.cards * e.shapes
  pub within : t ≤ e.shapes
  pub place : at ≡ shape_place template t 2
  -- the shapes before t
  pub each : (parts : List Part) → read_template template ≡ accepted (template_as e.kinds e.shapes parts)
      → (n s : ℕ) → n < e.cards → s < t
      → get_or grid (n * e.shapes + s) 0 ≡ byte_at script e (opens template s) (get_or parts s Part.nothing) n

module _ (template script : List ℕ) (e : Extent) (grid : List ℕ) where
  pub shapes-start : length grid ≡ e.cards * e.shapes → ShapesFitted template script e grid 2 0
  unfolding shape_place
  shapes-start h =
      record { size = h; within = omega arith; place = refl; each = λ parts r n s l i. absurd (omega arith) }

  pub shapes-end : (at t : ℕ) → ShapesFitted template script e grid at t → e.shapes ≤ t →
      (parts : List Part) → read_template template ≡ accepted (template_as e.kinds e.shapes parts) →
      Fitted template script e parts grid
  shapes-end at t f h parts r =
      record { full = f.size; each = λ n s l i. f.each parts r n s l (omega arith) }

  pub shapes-next : (at t count : ℕ) → ShapesFitted template script e grid at t → t < e.shapes →
      count ≡ get_or template at 0 → (after : List ℕ) → ColumnFitted template script e t grid after →
      ShapesFitted template script e after (at + (1 + count)) (t + 1)
  shapes-next at t count f l q after c = record {
    size = c.full;
    within = omega arith;
    place =
        let next : at + 1 + count ≡ shape_place template (t + 1) 2 =
        rw (q, add-one t, f.place) (sym (place-next template t 2)) in
        omega (arith, next);
    each = λ parts r n s i j. ⊎_elim
        (λ (same : s ≡ t). rw same (c.each parts r n i))
        (λ below. c.others n s i (omega arith) (λ same. omega arith) ∙ f.each parts r n s i below)
        (last-or-below (rw (add-one t) at j));
  }
