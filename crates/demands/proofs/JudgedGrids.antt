-- What specs/JudgedGrids promises of grids of other makers holds.
--   judge-demand
-- Assumes nothing.
use Prim.Native.Nat.{ℕ, ◌≤◌}
use mathlib.Core.Path.{◌≡◌, refl, sym, ap, subst, ◌∙◌}
use mathlib.Core.Logic.{⊎_elim, ◌↔◌}
use mathlib.Core.List.{List, [], ◌∷◌}
use lib.ListN.{length}
use Rattle.words.specs.Said.{Said, values}
use Rattle.words.specs.Reading.{accepted}
use Rattle.words.proofs.Readings.{accepted-same}
use Rattle.board.specs.Grid.{on}
use Rattle.sheet.specs.Sheet.{Sheet, size}
use Rattle.bookings.specs.Bookings.{Booked}
use Rattle.typing.specs.Typing.{Holds, SoundTyping}
use Rattle.typing.specs.Calls.{smallest_reading, LargestFound, LargestSays, SmallestFound, SmallestSays}
use Rattle.typing.specs.Judge.{Passes, JudgeSays}
use Rattle.typing.proofs.Judging.{judge-exact, judge-takes-smallest, judge-takes-largest, judge-between, judge-some}
use Rattle.demands.specs.Formed.{Formed, BookingsFormed}
use Rattle.demands.specs.Listed.{Says50}
use Rattle.demands.specs.JudgedGrids.{JudgedGrids, JudgeDemand}
use Rattle.demands.proofs.Formed.{formed-sheet, largest-taken, smallest-taken}
use Rattle.demands.proofs.Listed.{pairs-or-50}

module _ (template script bookings : List ℕ) (desk : ℕ) (s : Sheet) (f : Formed template script s)
    (b : BookingsFormed s.cards s.shapes bookings) (ours : desk ≤ 1) where
  -- the judge and the call for the smallest take each grid of the right size
  takes : (grid : List ℕ) → length grid ≡ size s → smallest_reading template script bookings desk grid ≡ accepted s
  takes grid full = (smallest-taken template script bookings desk grid s).1 (f, b, ours, full)

  -- the sheet that the judge reads is this one
  same-sheet : (grid : List ℕ) (q : Sheet) → smallest_reading template script bookings desk grid ≡ accepted q → q ≡ s
  same-sheet grid q asked =
      let (g, c, own, full) = (smallest-taken template script bookings desk grid q).0 asked in
      accepted-same (sym (formed-sheet template script q g) ∙ formed-sheet template script s f)

  exactly : (grid : List ℕ) (said : Said) → JudgeSays template script bookings desk grid said
      → (said ≡ values []) ↔ (SoundTyping s grid × Holds s (Booked bookings desk) (on grid))
  exactly grid said x =
      let exact = judge-exact template script bookings desk grid said x in (
        λ e.
            let (q, asked, p) = exact.0 e in
            let w = subst (λ (z : Sheet). Passes z (Booked bookings desk) grid) (same-sheet grid q asked) p in
            (w.sound, w.holds),
        λ (w, holds). exact.1 (s, takes grid w.typing.full, record { sound = w; holds = holds }),
      )

  -- bookings that are not turned down have a number of pairs
  pairs-said : (before small : List ℕ) (said : Said) → length before ≡ size s
      → SmallestSays template script bookings desk before small said → (Says50 said → ⊥)
      → (m : ℕ) × (said ≡ values (m ∷ []))
  pairs-said before small said full x taken =
      let found : SmallestFound s (Booked bookings desk) small said = rw (takes before full) at x in
      ⊎_elim (λ h. h) (λ d. absurd (taken d)) (pairs-or-50 said found.outcome found.says)

  judged : JudgedGrids template script bookings desk s
  judged = record {
    exact = exactly;
    takes-ours = λ large-before small-before large small of-large of-small fl fs x y taken said.
        let (m, e) = pairs-said small-before small of-small fs y taken in
        let y' : SmallestSays template script bookings desk small-before small (values (m ∷ [])) = rw e at y in
        let found : LargestFound s large of-large = rw ((largest-taken template script large-before s).1 (f, fl))
        at x in
        let x' = subst (λ (a : Said). LargestSays template script large-before large a) found.says x in (
          judge-takes-smallest template script bookings desk small-before small m y' said,
          judge-takes-largest template script bookings desk small-before small m y' large-before large found.rounds
              found.struck found.bare x' said,
        );
    between = λ large-before small-before large small of-large of-small fl fs x y grid z.
        let (q, asked, p) = (judge-exact template script bookings desk grid (values []) z).0 refl in
        let (g, c, own, full) = (smallest-taken template script bookings desk grid q).0 asked in
        let sized : length grid ≡ size s = full ∙ ap size (same-sheet grid q asked) in
        judge-between template script bookings desk grid z small-before large-before small large of-small of-large
        (fs ∙ sym sized) (fl ∙ sym sized) y x s (formed-sheet template script s f);
    some = λ before small said full x.
        let some = judge-some template script bookings desk before small said s (takes before full) x in (
          λ g (n, t, e). some.0 g n t e,
          λ taken. some.1 (λ n t e. taken (n, t, e)),
        );
  }

pub judge-demand : JudgeDemand
judge-demand = judged
