-- Where the links from each card start, in a script that is read: as walks take it.
--   starts-of   the numbers of links below each card are where the cards' links start
-- Assumes nothing.
use mathlib.Core.Path.{◌≡◌, refl}
use mathlib.Core.List.{List}
use Prim.Native.Nat.{ℕ, ◌+◌, ◌≤◌, ◌<◌}
use native.Mathlib.Omega.{arith}
use lib.ListN.{length, get_or}
use Rattle.bags.specs.Label.{outgoing}
use Rattle.script.specs.Link.{from_at, below}
use Rattle.script.specs.Steps.{Ascending}
use Rattle.script.proofs.Order.{starts-rise}
use Rattle.script.proofs.Cards.{below-le, below-rises, starts-exact}
use Rattle.typing.specs.Needs.{Ready}
use Rattle.walks.specs.Walks.{Starts}

module _ {script names : List ℕ} {shapes : ℕ} (ready : Ready script names shapes) where
  pub starts-of : {starts : List ℕ} → Ascending script (get_or script 1 0) → get_or script 0 0 < length starts
      → ((c : ℕ) → c ≤ get_or script 0 0 → get_or starts c 0 ≡ below script c (get_or script 1 0)) → Starts script
      starts
  starts-of ascending room exact =
      let m = get_or script 1 0 in
      let rise = starts-rise script m ascending in
      record {
        cards = room;
        within = λ n l. omega (arith, exact n l, below-le script n m);
        rising = λ n l. omega (arith, exact n (omega arith), exact (n + 1) (omega arith), below-rises script m rise n);
        right = λ n i l low high.
            let lo : below script n m ≤ i = omega (arith, exact n (omega arith)) in
            let hi : i < below script (n + 1) m = omega (arith, exact (n + 1) (omega arith)) in
            (starts-exact script m rise n i (omega (arith, hi, below-le script (n + 1) m))).1 (lo, hi);
        each = λ i l.
            let n = from_at script i in
            let card = ready.near-in outgoing i l in
            let stands = (starts-exact script m rise n i l).0 refl in (
              omega (arith, exact n (omega (arith, card)), stands.0),
              omega (arith, exact (n + 1) (omega (arith, card)), stands.1),
            );
      }
