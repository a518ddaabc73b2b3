-- A grid has one right verdict: each is ruled out by what the others know of the grid.
--   typing-low, sound-met, holds-held   no byte over 1 in a typing, no unmet pair in a sound one, no booking missing
--                                       where all are held
--   over-unique, unmet-unique, unheld-unique   the first fault of a kind is one
--   verdict-unique      two right verdicts are the same
--   judge-found-unique, judge-said-unique   so is what is said, and the answer that says it
-- Assumes nothing.
use Prim.Native.Nat.{ℕ}
use mathlib.Core.Path.{◌≡◌, refl, sym, ap, ap₂, ◌∙◌}
use mathlib.Core.Logic.{⊎_elim}
use mathlib.Core.List.{List}
use native.Mathlib.Omega.{arith}
use Rattle.words.specs.Said.{Said}
use Rattle.words.proofs.Bools.{never_both, neither-below}
use Rattle.words.proofs.Places.{place-unique}
use Rattle.board.specs.Grid.{on}
use Rattle.sheet.specs.Sheet.{Sheet, place}
use Rattle.bookings.specs.Bookings.{card_at, shape_at, Booked}
use Rattle.std.specs.Prelude.{Result, Ok, Err}
use Rattle.words.specs.Refused.{refused}
use Rattle.words.specs.declared.Card.{Card}
use Rattle.words.specs.declared.Shape.{Shape}
use Rattle.words.specs.declared.refusal.Refusal.{Refusal}
use Rattle.words.proofs.Said.{values-refusal}
use Rattle.words.proofs.Refused.{said-by-unique}
use Rattle.typing.specs.Typing.{Holds, Typing, SoundTyping}
use Rattle.typing.specs.Answer.{verdict_told, judge_said}
use Rattle.typing.specs.Judge.{Verdict, over, unmet, unheld, passes, verdict_said, Over, Unmet, Unheld, Judged}
use Rattle.typing.specs.Judge.{JudgeFound}
use Rattle.typing.proofs.Unique.{pair-unique, pair-plain}

-- ---- what rules a verdict out, and the first of a kind
module _ {s : Sheet} {grid : List ℕ} where
  typing-low : {p : ℕ} → Typing s grid → Over s grid p → ⊥
  typing-low {p} w o = ⊎_elim
      (λ e. omega (arith, e, o.over-one)) (λ e. omega (arith, e, o.over-one)) (w.bytes p o.inside)

  over-unique : {p q : ℕ} → Over s grid p → Over s grid q → p ≡ q
  over-unique {p} {q} x y = neither-below p q
      (λ l. omega (arith, y.first p l, x.over-one)) (λ l. omega (arith, x.first q l, y.over-one))

  sound-met : {n t : ℕ} → SoundTyping s grid → Unmet s grid n t → ⊥
  sound-met {n} {t} w u = u.not-met (w.sound n t u.card-in u.shape-in u.has)

  unmet-unique : {n t m u : ℕ} → Unmet s grid n t → Unmet s grid m u → (n ≡ m) × (t ≡ u)
  unmet-unique {n} {t} {m} {u} x y =
      place-unique s.shapes (omega (arith, x.shape-in)) n t m u x.shape-in y.shape-in
      (neither-below (place s n t) (place s m u)
      (λ l. x.not-met (y.lowest n t x.card-in x.shape-in l x.has))
      (λ l. y.not-met (x.lowest m u y.card-in y.shape-in l y.has)))

  module _ {bookings : List ℕ} {desk : ℕ} where
    holds-held : {i : ℕ} → Holds s (Booked bookings desk) (on grid) → Unheld s bookings desk grid i → ⊥
    holds-held {i} h u =
        let held = h (card_at bookings i) (shape_at bookings i)
        (record { booking = i; listed = u.listed; ours = u.ours; card = refl; shape = refl }) in
        never_both held u.missing

    unheld-unique : {i j : ℕ} → Unheld s bookings desk grid i → Unheld s bookings desk grid j → i ≡ j
    unheld-unique {i} {j} x y = neither-below i j
        (λ l. never_both (y.first i l x.ours) x.missing) (λ l. never_both (x.first j l y.ours) y.missing)

-- ---- one verdict
module _ (s : Sheet) (bookings : List ℕ) (desk : ℕ) (grid : List ℕ) where
  pub verdict-unique : (v w : Verdict) → Judged s bookings desk grid v → Judged s bookings desk grid w → v ≡ w
  verdict-unique (over p) (over q) x y = ap over (over-unique x y)
  verdict-unique (over p) (unmet n t) x y = absurd (typing-low y.typing x)
  verdict-unique (over p) (unheld i) x y = absurd (typing-low y.sound.typing x)
  verdict-unique (over p) passes x y = absurd (typing-low y.sound.typing x)
  verdict-unique (unmet n t) (over q) x y = absurd (typing-low x.typing y)
  verdict-unique (unmet n t) (unmet m u) x y = let (e, f) = unmet-unique x y in ap₂ unmet e f
  verdict-unique (unmet n t) (unheld i) x y = absurd (sound-met y.sound x)
  verdict-unique (unmet n t) passes x y = absurd (sound-met y.sound x)
  verdict-unique (unheld i) (over q) x y = absurd (typing-low x.sound.typing y)
  verdict-unique (unheld i) (unmet m u) x y = absurd (sound-met x.sound y)
  verdict-unique (unheld i) (unheld j) x y = ap unheld (unheld-unique x y)
  verdict-unique (unheld i) passes x y = absurd (holds-held y.holds x)
  verdict-unique passes (over q) x y = absurd (typing-low x.sound.typing y)
  verdict-unique passes (unmet m u) x y = absurd (sound-met x.sound y)
  verdict-unique passes (unheld j) x y = absurd (holds-held x.holds y)
  verdict-unique passes passes x y = refl

pub judge-found-unique : {s : Sheet} {bookings : List ℕ} {desk : ℕ} {grid : List ℕ} {a b : Said}
    → JudgeFound s bookings desk grid a → JudgeFound s bookings desk grid b → a ≡ b
judge-found-unique {s} {bookings} {desk} {grid} x y =
    let same = verdict-unique s bookings desk grid x.verdict y.verdict x.right y.right in
    x.says ∙ ap verdict_said same ∙ sym y.says

told-unique : (a b : Result (Unit {0}) (Card × Shape)) → verdict_told a ≡ verdict_told b → a ≡ b
told-unique (Ok _) (Ok _) e = refl
told-unique (Ok _) (Err q) e = values-refusal e
told-unique (Err p) (Ok _) e = values-refusal (sym e)
told-unique (Err p) (Err q) e = ap Err (pair-unique 62 p q e)

-- a verdict is no refusal at one place
told-plain : (a : Result (Unit {0}) (Card × Shape)) (r : Refusal) → verdict_told a ≡ refused r → ⊥
told-plain (Ok _) r e = values-refusal e
told-plain (Err p) r e = pair-plain 62 p r e

pub judge-said-unique : (a b : Result (Result (Unit {0}) (Card × Shape)) Refusal) → judge_said a ≡ judge_said b
    → a ≡ b
judge-said-unique = said-by-unique verdict_told told-unique told-plain
