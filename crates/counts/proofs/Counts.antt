-- The first count over 8,192, looked for from the first count on.
-- over-here, over-next, over-end  where it stands, from a place on
-- over_none                       it stands nowhere if no count is over 8,192
-- Assumes nothing.
use mathlib.Core.Path.{◌≡◌, refl, ap}
use mathlib.Core.List.{List, [], ◌∷◌}
use Prim.Native.Nat.{ℕ, suc, ◌+◌, ◌≤◌, ◌<◌}
use native.Mathlib.Omega.{arith}
use native.Mathlib.Numerals.{add-one}
use borrow.Author.Tests.{lt-ltb, le-ltb}
use lib.ListN.{length, get_or, drop}
use lib.Seq.{drop-cons, drop-length}
use Rattle.words.specs.Limits.{max_count}
use Rattle.counts.specs.Fit.{first_over}

module _ (counts : List ℕ) (i : ℕ) where
  pub over-here : i < length counts → max_count < get_or counts i 0 → first_over (drop i counts) ≡ 0
  unfolding first_over
  over-here l h = rw (drop-cons counts i 0 l, lt-ltb max_count (get_or counts i 0) h)

  pub over-next :
      i < length counts → get_or counts i 0 ≤ max_count →
      first_over (drop i counts) ≡ suc (first_over (drop (i + 1) counts))
  unfolding first_over
  over-next l h = rw (drop-cons counts i 0 l, le-ltb max_count (get_or counts i 0) h, add-one)

  pub over-end : i ≡ length counts → first_over (drop i counts) ≡ 0
  unfolding first_over
  over-end e = rw (e, drop-length counts)

pub over_none :
    (counts : List ℕ) → ((i : ℕ) → i < length counts → get_or counts i 0 ≤ max_count) → first_over counts ≡ length
    counts
unfolding first_over
over_none [] h = refl
over_none (w ∷ ws) h =
    rw (le-ltb max_count w (h 0 (omega arith))) (ap suc (over_none ws (λ i l. h (suc i) (omega arith))))
