-- The search backwards: which pairs need one, by the links to its card and by those from it.
--   sources-same, targets-same    the two by a card and a shape that are given
--   struck-both, struck-sources   sweeps of both, and of the first where no shape names an incoming kind, sweep all
--                                 that need it
-- Assumes nothing.
use mathlib.Core.Path.{◌≡◌, subst}
use mathlib.Core.Logic.{◌⊎◌, inl, inr}
use mathlib.Core.List.{List}
use Prim.Native.Nat.{ℕ, suc, ◌+◌, ◌*◌, ◌/◌, ◌%◌, ◌<◌}
use native.Mathlib.Omega.{arith}
use lib.ListN.{get_or}
use Rattle.words.specs.Limits.{max_kinds}
use Rattle.words.proofs.Places.{shape-in}
use Rattle.bags.specs.Label.{Way, outgoing, incoming}
use Rattle.template.specs.Machine.{entry_at}
use Rattle.script.specs.Link.{kind_at, near_at, label_at, far_at}
use Rattle.sheet.specs.Opened.{OnlyOutgoing}
use Rattle.board.specs.Work.{Work, Swept}
use Rattle.board.proofs.Worklist.{swept_same, swept-append}
use Rattle.typing.specs.Needs.{Needs, Ready}
use Rattle.walks.specs.Walks.{Leaving, Arriving, Starts}
use Rattle.strikes.specs.Strikes.{NeedGood}
use Rattle.walks.proofs.Walks.{arriving-same}
use Rattle.walks.proofs.Needs.{kind-in, range-in, range-from, from-range}
use Rattle.strikes.proofs.Needing.{need-needs, far-is, needs-need}

module _ {script names : List ℕ} {shapes : ℕ} (ready : Ready script names shapes) (q : ℕ) where
  -- the pairs at the start of a link to q's card that need q's shape there
  abbrev Sources : ℕ → Type 0
  Sources p = Arriving script (q / shapes) (NeedGood outgoing script names shapes (q % shapes)) p

  -- the same by a card and a shape that are given
  pub sources-same : {w v : Work} {m u : ℕ} → m ≡ q / shapes → u ≡ q % shapes
      → Swept (Arriving script m (NeedGood outgoing script names shapes u)) w v → Swept Sources w v
  sources-same {w} {v} card shape s =
      subst (λ (x : ℕ). Swept (Arriving script (q / shapes) (NeedGood outgoing script names shapes x)) w v) shape
      (arriving-same card s)

  sources-need : (p : ℕ) → Sources p → Needs script names shapes p q
  sources-need p g = need-needs ready outgoing g.link p q g.below g.leads g.good

  need-sources : (p i u : ℕ) → i < get_or script 1 0 → near_at outgoing script i ≡ p / shapes
      → entry_at names (p % shapes) (label_at outgoing script i) ≡ suc u → q ≡ far_at outgoing script i * shapes + u
      → Sources p
  need-sources p i u l near e at = record {
    link = i;
    below = l;
    leads = far-is ready outgoing i p q u l near e at;
    good = needs-need ready outgoing i p q u l near e at;
  }

  pub struck-sources : {w v : Work} → OnlyOutgoing names shapes max_kinds → Swept Sources w v
      → Swept (λ p. Needs script names shapes p q) w v
  struck-sources only s = swept_same sources-need
      (λ p d. by p d.way d.link d.below d.starts d.shape d.names-it d.leads) s
    where
      by : (p : ℕ) (way : Way) (i : ℕ) → i < get_or script 1 0 → near_at way script i ≡ p / shapes → (u : ℕ)
          → entry_at names (p % shapes) (label_at way script i) ≡ suc u → q ≡ far_at way script i * shapes + u →
          Sources p
      by p outgoing i l near u e at = need-sources p i u l near e at
      by p incoming i l near u e at =
          let none = only (p % shapes) (kind_at script i) (shape-in shapes ready.one-shape p) (kind-in ready i l) in
          absurd (omega (arith, none, e))

  module _ {starts : List ℕ} (st : Starts script starts) {lo hi : ℕ} (lc : q / shapes < get_or script 0 0)
      (low : lo ≡ get_or starts (q / shapes) 0) (high : hi ≡ get_or starts (q / shapes + 1) 0) where
    -- the pairs at the end of a link from q's card that need q's shape there
    abbrev Targets : ℕ → Type 0
    Targets p = Leaving (NeedGood incoming script names shapes (q % shapes)) lo hi p

    pub targets-same : {w v : Work} {u : ℕ} → u ≡ q % shapes
        → Swept (Leaving (NeedGood incoming script names shapes u) lo hi) w v → Swept Targets w v
    targets-same {w} {v} shape s =
        subst (λ (x : ℕ). Swept (Leaving (NeedGood incoming script names shapes x) lo hi) w v) shape s

    targets-need : (p : ℕ) → Targets p → Needs script names shapes p q
    targets-need p g = need-needs ready incoming g.link p q (omega (arith, g.high, range-in st lc low high))
        (range-from st lc low high g.link g.low g.high) g.good

    need-both : (p : ℕ) → Needs script names shapes p q → Sources p ⊎ Targets p
    need-both p d = by d.way d.link d.below d.starts d.shape d.names-it d.leads
      where
        by : (way : Way) (i : ℕ) → i < get_or script 1 0 → near_at way script i ≡ p / shapes → (u : ℕ)
            → entry_at names (p % shapes) (label_at way script i) ≡ suc u → q ≡ far_at way script i * shapes + u
            → Sources p ⊎ Targets p
        by outgoing i l near u e at = inl (need-sources p i u l near e at)
        by incoming i l near u e at =
            let (a, b) = from-range st lc low high i l (far-is ready incoming i p q u l near e at) in
            inr (record { link = i; low = a; high = b; good = needs-need ready incoming i p q u l near e at })

    pub struck-both : {w v x : Work} → Swept Sources w v → Swept Targets v x
        → Swept (λ p. Needs script names shapes p q) w x
    struck-both a b = swept-append sources-need targets-need need-both a b
