-- Laws of the lines of a sheet.
--   shapes-next, cards-next     a shape more, a card more
--   shapes_room, cards-room     where all have room, the next one has
--   shown, hidden               a shape is shown where the grid has its place
--   shapes-bound, card-bound, cards-bound   at most 107 bytes to a card's line
--   card-length                 of its pieces
--   spaced-next, spaced-room    a number more, and its room
--   line-length, line-bound     a line of a word and numbers: at most 21 bytes to a number
--   largest-line, smallest-line, not-met-line, refused-line, accepted-line, pair-line   which lines are such
--   verdict-refused, refused-bound   a refusal's line
-- Assumes nothing.
use mathlib.Core.Path.{◌≡◌, refl, sym, ap, ◌∙◌}
use mathlib.Core.List.{List, [], ◌∷◌, ◌++◌, append_assoc, append-nil}
use mathlib.Core.Bool.{Bool, true, false}
use Prim.Native.Nat.{ℕ, zero, suc, ◌+◌, ◌*◌, ◌-◌, ◌≤◌, ◌<◌}
use native.Mathlib.Nat.{le_refl, suc-mul, mul-le-mul_right}
use native.Mathlib.Numerals.{add-one}
use native.Mathlib.Omega.{arith}
use lib.ListN.{length, take, get_or, length-append}
use Rattle.words.specs.Said.{values, refusal}
use Rattle.board.specs.Grid.{on}
use Rattle.board.proofs.Grids.{on-yes, on-no}
use Rattle.text.specs.Text.{when_on, digits, space, newline, shape_text, shapes_text, card_line, card_lines}
use Rattle.text.specs.Text.{two_numbers, largest_line, smallest_line, not_met_line, refused_line}
use Rattle.text.specs.Verdict.{verdict_line}
use Rattle.text.specs.Steps.{spaced, line_text, largest, smallest, smallest_no, refused, accepted}
use Rattle.text.proofs.Digits.{digits-length, digits-bound}

pub shapes-next : (grid : List ℕ) (base t : ℕ)
    → shapes_text grid base (t + 1) ≡ shapes_text grid base t ++ shape_text grid (base + t) t
unfolding shapes_text
shapes-next grid base t = rw (add-one t)

pub cards-next : (grid : List ℕ) (shapes n : ℕ)
    → card_lines grid shapes (n + 1) ≡ card_lines grid shapes n ++ card_line grid shapes n
unfolding card_lines
cards-next grid shapes n = rw (add-one n)

-- what grows at each step is no shorter after more of them
module _ (text piece : ℕ → List ℕ) (next : (n : ℕ) → text (n + 1) ≡ text n ++ piece n) where
  grows-by : (m k : ℕ) → length (text m) ≤ length (text (m + k))
  grows-by m zero = omega (arith, ap (λ (n : ℕ). length (text n)) (the_same m))
    where
      the_same : (n : ℕ) → n + 0 ≡ n
      the_same n = omega arith
  grows-by m (suc k) =
      let more : m + suc k ≡ m + k + 1 = omega arith in
      omega (
        arith,
        grows-by m k,
        ap (λ (n : ℕ). length (text n)) more,
        ap length (next (m + k)),
        length-append (text (m + k)) (piece (m + k)),
      )

  grows : (m n : ℕ) → m < n → length (text m) + length (piece m) ≤ length (text n)
  grows m n h =
      let whole : m + 1 + (n - (m + 1)) ≡ n = omega arith in
      omega (
        arith,
        ap length (next m),
        length-append (text m) (piece m),
        grows-by (m + 1) (n - (m + 1)),
        ap (λ (k : ℕ). length (text k)) whole,
      )

pub shapes_room : (grid : List ℕ) (base m n : ℕ) → m < n
    → length (shapes_text grid base m) + length (shape_text grid (base + m) m) ≤ length (shapes_text grid base n)
shapes_room grid base = grows (shapes_text grid base) (λ t. shape_text grid (base + t) t) (shapes-next grid base)

pub cards-room : (grid : List ℕ) (shapes m n : ℕ) → m < n
    → length (card_lines grid shapes m) + length (card_line grid shapes m) ≤ length (card_lines grid shapes n)
cards-room grid shapes = grows (card_lines grid shapes) (card_line grid shapes) (cards-next grid shapes)

-- a card's row is in the grid
pub row_inside : (n cards shapes : ℕ) → n < cards → n * shapes + shapes ≤ cards * shapes
row_inside n cards shapes h = omega (arith, suc-mul n shapes, mul-le-mul_right shapes h)

-- a shape is shown where the grid has its place
pub shown : (grid : List ℕ) (place : ℕ) (text : List ℕ) → get_or grid place 0 ≡ 1 → text ≡ when_on (on grid place) text
shown grid place text e = sym (ap (λ (b : Bool). when_on b text) (on-yes grid place e))

pub hidden : (grid : List ℕ) (place : ℕ) (text : List ℕ) → (get_or grid place 0 ≡ 1 → ⊥)
    → [] ≡ when_on (on grid place) text
hidden grid place text e = sym (ap (λ (b : Bool). when_on b text) (on-no grid place e))

when-bound : (b : Bool) (text : List ℕ) → length (when_on b text) ≤ length text
when-bound true text = le_refl (length text)
when-bound false text = omega arith

shapes-bound : (grid : List ℕ) (base t : ℕ) → t ≤ 100 → length (shapes_text grid base t) ≤ 3 * t
unfolding shapes_text
shapes-bound grid base zero h = omega arith
shapes-bound grid base (suc t) h =
    omega (
      arith,
      shapes-bound grid base t (omega arith),
      length-append (shapes_text grid base t) (shape_text grid (base + t) t),
      when-bound (on grid (base + t)) (space ∷ digits t),
      digits-bound 1 t (omega arith),
    )

pub card-length : (grid : List ℕ) (shapes n : ℕ)
    → length (card_line grid shapes n) ≡ 7 + length (digits n) + length (shapes_text grid (n * shapes) shapes)
unfolding card_line
card-length grid shapes n =
    let row = shapes_text grid (n * shapes) shapes in
    omega (arith, length-append (digits n) (58 ∷ (row ++ (newline ∷ []))), length-append row (newline ∷ []))

card-bound : (grid : List ℕ) (shapes n : ℕ) → shapes ≤ 32 → n < 1024 → length (card_line grid shapes n) ≤ 107
card-bound grid shapes n hs hn =
    omega (
      arith,
      card-length grid shapes n,
      digits-bound 3 n (omega arith),
      shapes-bound grid (n * shapes) shapes (omega arith),
    )

pub cards-bound : (grid : List ℕ) (shapes n : ℕ) → shapes ≤ 32 → n ≤ 1024
    → length (card_lines grid shapes n) ≤ 107 * n
unfolding card_lines
cards-bound grid shapes zero hs hn = omega arith
cards-bound grid shapes (suc n) hs hn =
    omega (
      arith,
      cards-bound grid shapes n hs (omega arith),
      card-bound grid shapes n hs (omega arith),
      length-append (card_lines grid shapes n) (card_line grid shapes n),
    )

-- ---- a line of a word and numbers
pub spaced-next : (numbers : List ℕ) (i : ℕ) → i < length numbers
    → spaced (take (i + 1) numbers) ≡ spaced (take i numbers) ++ (space ∷ digits (get_or numbers i 0))
unfolding spaced
spaced-next [] i h = absurd (omega arith)
spaced-next (n ∷ ns) zero h = ap (λ (l : List ℕ). space ∷ l) (append-nil (digits n))
spaced-next (n ∷ ns) (suc i) h =
    let more : suc i + 1 ≡ suc (i + 1) = omega arith in
    rw more (ap (λ (l : List ℕ). space ∷ (digits n ++ l)) (spaced-next ns i (omega arith))
    ∙ ap (λ (l : List ℕ). space ∷ l)
    (sym (append_assoc (digits n) (spaced (take i ns)) (space ∷ digits (get_or ns i 0)))))

spaced-grows : (numbers : List ℕ) (i : ℕ) → length (spaced (take i numbers)) ≤ length (spaced numbers)
unfolding spaced
spaced-grows [] zero = omega arith
spaced-grows [] (suc i) = omega arith
spaced-grows (n ∷ ns) zero = omega arith
spaced-grows (n ∷ ns) (suc i) =
    omega (
      arith,
      spaced-grows ns i,
      length-append (digits n) (spaced (take i ns)),
      length-append (digits n) (spaced ns),
    )

pub spaced-room : (numbers : List ℕ) (i : ℕ) → i < length numbers
    → length (spaced (take i numbers)) + 1 + length (digits (get_or numbers i 0)) ≤ length (spaced numbers)
spaced-room numbers i h =
    omega (
      arith,
      spaced-grows numbers (i + 1),
      ap length (spaced-next numbers i h),
      length-append (spaced (take i numbers)) (space ∷ digits (get_or numbers i 0)),
    )

pub line-length : (word numbers : List ℕ) → length (line_text word numbers) ≡ length word + length (spaced numbers) + 1
unfolding line_text
line-length word numbers =
    omega (
      arith,
      length-append word (spaced numbers ++ (newline ∷ [])),
      length-append (spaced numbers) (newline ∷ []),
    )

spaced-bound : (numbers : List ℕ) → length (spaced numbers) ≤ 21 * length numbers
unfolding spaced
spaced-bound [] = omega arith
spaced-bound (n ∷ ns) = omega (arith, spaced-bound ns, digits-length n, length-append (digits n) (spaced ns))

pub line-bound : (word numbers : List ℕ) → length (line_text word numbers) ≤ length word + 21 * length numbers + 1
line-bound word numbers = omega (arith, line-length word numbers, spaced-bound numbers)

-- ---- the lines of a sheet and of a verdict
pub largest-line : (rounds struck bare : ℕ)
    → line_text largest (rounds ∷ struck ∷ bare ∷ []) ≡ largest_line rounds struck bare
unfolding line_text spaced largest_line two_numbers
largest-line rounds struck bare = simp (append_assoc, append-nil)

pub smallest-line : (pairs : ℕ) → line_text smallest (pairs ∷ []) ≡ smallest_line pairs
unfolding line_text spaced smallest_line
smallest-line pairs = simp append-nil

pub not-met-line : (card shape : ℕ) → line_text smallest_no (card ∷ shape ∷ []) ≡ not_met_line card shape
unfolding line_text spaced not_met_line two_numbers
not-met-line card shape = simp (append_assoc, append-nil)

pub refused-line : (number place : ℕ) → line_text refused (number ∷ place ∷ []) ≡ refused_line number place
unfolding line_text spaced refused_line two_numbers
refused-line number place = simp (append_assoc, append-nil)

pub accepted-line : line_text accepted [] ≡ verdict_line (values [])
unfolding line_text spaced verdict_line
accepted-line = refl

pub pair-line : (number card shape : ℕ)
    → line_text refused (number ∷ card ∷ shape ∷ []) ≡ verdict_line (refusal number (card ∷ shape ∷ []))
unfolding line_text spaced verdict_line
pair-line number card shape = simp (append_assoc, append-nil)

-- a refusal whose place is one number has the line of any refusal
pub verdict-refused : (number place : ℕ) → refused_line number place ≡ verdict_line (refusal number (place ∷ []))
unfolding refused_line two_numbers verdict_line
verdict-refused number place = refl

pub refused-bound : (number place : ℕ) → length (refused_line number place) ≤ 50
refused-bound number place =
    omega (arith, ap length (refused-line number place), line-bound refused (number ∷ place ∷ []))
