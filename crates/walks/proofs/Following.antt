-- What a pair needs, by the links from its card and by those to it: for the flood and for the judge.
--   Out, Back               what the links from its card lead to, and what those to it lead back to
--   out-needs, back-needs   these are needed; needs-both: what is needed is one of them, and without incoming kinds
--                           (needs-out) one of the first
--   followed-both, followed-out       sweeps of both, and of the first alone, sweep what is needed
--   had-first, had-both, had-out      a set has what is needed exactly if it has both, or the first
-- Assumes nothing.
use mathlib.Core.Path.{◌≡◌}
use mathlib.Core.Logic.{◌⊎◌, inl, inr, ⊎_elim, ◌↔◌}
use mathlib.Core.List.{List}
use mathlib.Core.Bool.{Bool}
use Prim.Native.Nat.{ℕ, suc, ◌+◌, ◌*◌, ◌/◌, ◌%◌, ◌<◌}
use native.Mathlib.Omega.{arith}
use lib.ListN.{get_or}
use Rattle.words.specs.Limits.{max_kinds}
use Rattle.words.proofs.Places.{card-in, shape-in}
use Rattle.bags.specs.Label.{Way, outgoing, incoming}
use Rattle.template.specs.Machine.{entry_at}
use Rattle.script.specs.Link.{kind_at, near_at, label_at, far_at}
use Rattle.sheet.specs.Opened.{OnlyOutgoing}
use Rattle.board.specs.Work.{Work, Swept}
use Rattle.board.proofs.Worklist.{swept_same, swept-append}
use Rattle.typing.specs.Needs.{Needs, Ready}
use Rattle.walks.specs.Walks.{Leaving, Arriving, Starts, HasAll}
use Rattle.walks.specs.Entries.{LedGood}
use Rattle.walks.proofs.Needs.{Half, kind-in, led-needs, needs-led, range-in, range-from, from-range}

module _ {script starts names : List ℕ} {shapes : ℕ} (ready : Ready script names shapes) (st : Starts script starts)
    {p lo hi : ℕ} (lp : p < get_or script 0 0 * shapes)
    (low : lo ≡ get_or starts (p / shapes) 0) (high : hi ≡ get_or starts (p / shapes + 1) 0)
    {out : List ℕ} (half : Half names (p % shapes) outgoing out) where
  p-card : p / shapes < get_or script 0 0
  p-card = card-in shapes ready.one-shape (get_or script 0 0) p lp

  -- what the links from p's card lead to, and what those to it lead back to by the other half of the row
  abbrev Out : ℕ → Type 0
  Out q = Leaving (LedGood outgoing script out shapes) lo hi q

  abbrev Back : List ℕ → ℕ → Type 0
  Back row q = Arriving script (p / shapes) (LedGood incoming script row shapes) q

  out-needs : (q : ℕ) → Out q → Needs script names shapes p q
  out-needs q g = led-needs ready p half g.link q (omega (arith, g.high, range-in st p-card low high))
      (range-from st p-card low high g.link g.low g.high) g.good

  pub had-first : {X : ℕ → Bool} → HasAll X (Needs script names shapes p) → HasAll X Out
  had-first h q g = h q (out-needs q g)

  out-led : (i q u : ℕ) → i < get_or script 1 0 → near_at outgoing script i ≡ p / shapes
      → entry_at names (p % shapes) (label_at outgoing script i) ≡ suc u → q ≡ far_at outgoing script i * shapes + u
      → Out q
  out-led i q u l near e at =
      let (a, b) = from-range st p-card low high i l near in
      record { link = i; low = a; high = b; good = needs-led ready p half i q u l e at }

  -- where no shape names an incoming kind
  module _ (only : OnlyOutgoing names shapes max_kinds) where
    needs-out : (q : ℕ) → Needs script names shapes p q → Out q
    needs-out q d = by d.way d.link d.below d.starts d.shape d.names-it d.leads
      where
        by : (way : Way) (i : ℕ) → i < get_or script 1 0 → near_at way script i ≡ p / shapes → (u : ℕ)
            → entry_at names (p % shapes) (label_at way script i) ≡ suc u → q ≡ far_at way script i * shapes + u →
            Out q
        by outgoing i l near u e at = out-led i q u l near e at
        by incoming i l near u e at =
            let none = only (p % shapes) (kind_at script i) (shape-in shapes ready.one-shape p) (kind-in ready i l) in
            absurd (omega (arith, none, e))

    pub followed-out : {w v : Work} → Swept Out w v → Swept (Needs script names shapes p) w v
    followed-out s = swept_same out-needs needs-out s

    pub had-out : {X : ℕ → Bool} → HasAll X Out ↔ HasAll X (Needs script names shapes p)
    had-out = (λ h q d. h q (needs-out q d), had-first)

  -- where some may
  module _ {back : List ℕ} (other : Half names (p % shapes) incoming back) where
    back-needs : (q : ℕ) → Back back q → Needs script names shapes p q
    back-needs q g = led-needs ready p other g.link q g.below g.leads g.good

    needs-both : (q : ℕ) → Needs script names shapes p q → Out q ⊎ Back back q
    needs-both q d = by d.way d.link d.below d.starts d.shape d.names-it d.leads
      where
        by : (way : Way) (i : ℕ) → i < get_or script 1 0 → near_at way script i ≡ p / shapes → (u : ℕ)
            → entry_at names (p % shapes) (label_at way script i) ≡ suc u → q ≡ far_at way script i * shapes + u
            → Out q ⊎ Back back q
        by outgoing i l near u e at = inl (out-led i q u l near e at)
        by incoming i l near u e at =
            inr (record { link = i; below = l; leads = near; good = needs-led ready p other i q u l e at })

    pub followed-both : {w v x : Work} → Swept Out w v → Swept (Back back) v x → Swept (Needs script names shapes
        p) w x
    followed-both a b = swept-append out-needs back-needs needs-both a b

    pub had-both : {X : ℕ → Bool}
        → (HasAll X Out × HasAll X (Back back)) ↔ HasAll X (Needs script names shapes p)
    had-both = (
      λ (a, b) q d. ⊎_elim (a q) (b q) (needs-both q d),
      λ h. (had-first h, λ q g. h q (back-needs q g)),
    )
