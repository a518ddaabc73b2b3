-- The board of a script, a table of names and a grid of fits.
--   named-of       a set has the pair that an entry asks for
--   pairs-bound    it has no more places than the greatest grid
--   entries-bound  an entry of the table is at most the greatest number of shapes
--   entry-shape    the shape that an entry names is a shape
--   led-in         the pair that a link leads to is on the board
--   needs-in       what a pair needs is on the board
--   board-lawful   its test is Proposition 8.1: the counts fit and the set has all that is needed
-- Assumes nothing.
use mathlib.Core.Path.{◌≡◌, refl, sym, ap, subst}
use mathlib.Core.Logic.{◌⊎◌, inl, inr, ⊎_elim}
use mathlib.Core.List.{List}
use mathlib.Core.Bool.{Bool, true, false, cond}
use Prim.Native.Nat.{ℕ, zero, suc, ◌+◌, ◌*◌, ◌/◌, ◌%◌, ◌≤◌, ◌<◌}
use native.Mathlib.Nat.{mul-le-mul}
use native.Mathlib.Omega.{arith}
use lib.Dec.{eqb}
use lib.ListN.{get_or}
use borrow.Author.Tests.{eqb-true, eq-eqb}
use Rattle.bags.specs.Label.{Way, outgoing, incoming}
use Rattle.template.specs.Machine.{entry_at}
use Rattle.script.specs.Link.{near_at, label_at, far_at}
use Rattle.words.specs.Limits.{max_labels, max_shapes}
use Rattle.words.specs.Sizes.{max_grid}
use Rattle.board.specs.Grid.{on}
use Rattle.board.specs.Machine.{all}
use Rattle.board.specs.Board.{Inside, Lawful}
use Rattle.words.proofs.Bools.{never_both, true-or-false, is_false, and_first, and_second, and_both}
use Rattle.board.proofs.Tally.{all-at, all_of, all-not}
use Rattle.typing.specs.Needs.{Needs, has_named, end_test, link_test, met_test, board_of, Ready}
use Rattle.words.proofs.Places.{place_in, card-in, shape-in, place_of}

-- ---- an entry of the table
named-of : (X : ℕ → Bool) (base entry : ℕ) → ((u : ℕ) → entry ≡ suc u → X (base + u) ≡ true)
    → has_named X base entry ≡ true
named-of X base zero f = refl
named-of X base (suc u) f = f u refl

named-at : (X : ℕ → Bool) (base entry u : ℕ) → has_named X base entry ≡ true → entry ≡ suc u → X (base + u) ≡ true
named-at X base entry u h e = subst (λ (x : ℕ). has_named X base x ≡ true) e h

named-not : (X : ℕ → Bool) (base entry : ℕ) → has_named X base entry ≡ false
    → (u : ℕ) × (entry ≡ suc u) × (X (base + u) ≡ false)
named-not X base zero h = never_both refl h
named-not X base (suc u) h = (u, refl, h)

-- ---- a test that counts only under another
pick_at : (a b : Bool) → cond a b true ≡ true → a ≡ true → b ≡ true
pick_at true b h e = h
pick_at false b h e = never_both e refl

pick-of : (a b : Bool) → (a ≡ true → b ≡ true) → cond a b true ≡ true
pick-of true b f = f refl
pick-of false b f = refl

pick-not : (a b : Bool) → cond a b true ≡ false → (a ≡ true) × (b ≡ false)
pick-not true b h = (refl, h)
pick-not false b h = never_both refl h

-- ---- one link
module _ (script names : List ℕ) (shapes : ℕ) (X : ℕ → Bool) (p : ℕ) where
  -- the test of the pair that link i leads to, seen one way
  abbrev led-to : Way → ℕ → Bool
  led-to way i = has_named X (far_at way script i * shapes) (entry_at names (p % shapes) (label_at way script i))

  end-at : (q : ℕ) (d : Needs script names shapes p q) → end_test d.way script names shapes X p d.link ≡ true
      → X q ≡ true
  unfolding end_test
  end-at q d h =
      let way = d.way in
      let i = d.link in
      let here = eq-eqb (near_at way script i) (p / shapes) d.starts in
      let there = pick_at (eqb (near_at way script i) (p / shapes)) (led-to way i) h here in
      subst (λ (x : ℕ). X x ≡ true) (sym d.leads)
      (named-at X (far_at way script i * shapes) (entry_at names (p % shapes) (label_at way script i)) d.shape there
      d.names-it)

  -- both ends of a link are tested
  end-of-link : (way : Way) (i : ℕ) → link_test script names shapes X p i ≡ true
      → end_test way script names shapes X p i ≡ true
  unfolding link_test
  end-of-link outgoing i h =
      and_first (end_test outgoing script names shapes X p i) (end_test incoming script names shapes X p i) h
  end-of-link incoming i h =
      and_second (end_test outgoing script names shapes X p i) (end_test incoming script names shapes X p i) h

  link_at : (q : ℕ) (d : Needs script names shapes p q) → link_test script names shapes X p d.link ≡ true → X q ≡ true
  link_at q d h = end-at q d (end-of-link d.way d.link h)

  -- what link i needs seen one way
  need : (way : Way) (i u : ℕ) → i < get_or script 1 0 → eqb (near_at way script i) (p / shapes) ≡ true
      → entry_at names (p % shapes) (label_at way script i) ≡ suc u
      → Needs script names shapes p (far_at way script i * shapes + u)
  need way i u l e n = record {
    way = way;
    link = i;
    below = l;
    starts = eqb-true (near_at way script i) (p / shapes) e;
    shape = u;
    names-it = n;
    leads = refl;
  }

  end_of : (way : Way) (i : ℕ) → i < get_or script 1 0 → ((q : ℕ) → Needs script names shapes p q → X q ≡ true)
      → end_test way script names shapes X p i ≡ true
  unfolding end_test
  end_of way i l h = pick-of (eqb (near_at way script i) (p / shapes)) (led-to way i) (λ e.
      named-of X (far_at way script i * shapes) (entry_at names (p % shapes) (label_at way script i)) (λ u n.
      h (far_at way script i * shapes + u) (need way i u l e n)))

  link-of : (i : ℕ) → i < get_or script 1 0 → ((q : ℕ) → Needs script names shapes p q → X q ≡ true)
      → link_test script names shapes X p i ≡ true
  unfolding link_test
  link-of i l h =
      and_both (end_test outgoing script names shapes X p i) (end_test incoming script names shapes X p i)
      (end_of outgoing i l h) (end_of incoming i l h)

  -- a need that the set has not
  abbrev Lacks : Type 0
  Lacks = (q : ℕ) × Needs script names shapes p q × (X q ≡ false)

  end-not : (way : Way) (i : ℕ) → i < get_or script 1 0 → end_test way script names shapes X p i ≡ false → Lacks
  unfolding end_test
  end-not way i l h =
      let (here, there) = pick-not (eqb (near_at way script i) (p / shapes)) (led-to way i) h in
      let (u, n, off) = named-not X (far_at way script i * shapes)
      (entry_at names (p % shapes) (label_at way script i)) there in
      (far_at way script i * shapes + u, need way i u l here n, off)

  link-not : (i : ℕ) → i < get_or script 1 0 → link_test script names shapes X p i ≡ false → Lacks
  unfolding link_test
  link-not i l h =
      let out = end_test outgoing script names shapes X p i in
      let back = end_test incoming script names shapes X p i in
      ⊎_elim
      (λ (o : out ≡ true). end-not incoming i l (is_false (λ b. never_both (and_both out back o b) h)))
      (λ (o : out ≡ false). end-not outgoing i l o)
      (true-or-false out)

-- ---- the board
module _ {script names : List ℕ} {shapes : ℕ} (ready : Ready script names shapes) where
  pub pairs-bound : get_or script 0 0 * shapes ≤ max_grid
  pairs-bound = omega (arith, mul-le-mul ready.few-cards ready.few-shapes)

  pub entries-bound : (p : ℕ) → p < shapes * max_labels → get_or names p 0 ≤ max_shapes
  entries-bound p l =
      let some : 0 < max_labels = omega arith in
      let row = card-in max_labels some shapes p l in
      let here = ready.entry_in (p / max_labels) (p % max_labels) row (shape-in max_labels some p) in
      omega (arith, here, ap (λ (x : ℕ). get_or names x 0) (place_of max_labels some p), ready.few-shapes)

  pub entry-shape : (way : Way) (t i u : ℕ) → t < shapes → i < get_or script 1 0
      → entry_at names t (label_at way script i) ≡ suc u → u < shapes
  entry-shape way t i u lt li e =
      omega (arith, ready.entry_in t (label_at way script i) lt (ready.label-in way i li), e)

  -- m is the far end of link i, and u the shape that t names for its label
  pub led-in : (way : Way) (t i m u : ℕ) → t < shapes → i < get_or script 1 0 → m ≡ far_at way script i
      → entry_at names t (label_at way script i) ≡ suc u → m * shapes + u < get_or script 0 0 * shapes
  led-in way t i m u lt li to e =
      place_in (get_or script 0 0) shapes m u (omega (arith, ready.far-in way i li)) (entry-shape way t i u lt li e)

  pub needs-in : (p q : ℕ) → Needs script names shapes p q → q < get_or script 0 0 * shapes
  needs-in p q d = subst (λ (x : ℕ). x < get_or script 0 0 * shapes) (sym d.leads)
      (led-in d.way (p % shapes) d.link (far_at d.way script d.link) d.shape
      (shape-in shapes ready.one-shape p) d.below refl d.names-it)

  module _ (fits : List ℕ) where
    -- the tests of all links
    abbrev links : (ℕ → Bool) → ℕ → Bool
    links X p = all (link_test script names shapes X p) (get_or script 1 0)

    met-ok : (X : ℕ → Bool) (p : ℕ) → met_test script names shapes fits X p ≡ true → on fits p ≡ true
    unfolding met_test
    met-ok X p m = and_first (on fits p) (links X p) m

    met-dep : (X : ℕ → Bool) (p q : ℕ) → met_test script names shapes fits X p ≡ true
        → Needs script names shapes p q → X q ≡ true
    unfolding met_test
    met-dep X p q m d = link_at script names shapes X p q d
        (all-at (link_test script names shapes X p) (get_or script 1 0) (and_second (on fits p) (links X p) m)
        d.link d.below)

    met_of : (X : ℕ → Bool) (p : ℕ) → on fits p ≡ true → ((q : ℕ) → Needs script names shapes p q → X q ≡ true)
        → met_test script names shapes fits X p ≡ true
    unfolding met_test
    met_of X p o h = and_both (on fits p) (links X p) o
        (all_of (link_test script names shapes X p) (get_or script 1 0) (λ i l. link-of script names shapes X p i l h))

    unmet : (X : ℕ → Bool) (p : ℕ) → met_test script names shapes fits X p ≡ false
        → (on fits p ≡ false) ⊎ ((q : ℕ) × Needs script names shapes p q × (X q ≡ false))
    unfolding met_test
    unmet X p m = ⊎_elim
        (λ o.
        let r = all-not (link_test script names shapes X p) (get_or script 1 0)
        (is_false (λ a. never_both (and_both (on fits p) (links X p) o a) m)) in
        inr (link-not script names shapes X p r.0 r.1 r.2))
        (λ o. inl o)
        (true-or-false (on fits p))

    pub board-inside : Inside (board_of script names shapes fits)
    board-inside p q l d = needs-in p q d

    pub board-lawful : Lawful (board_of script names shapes fits)
    board-lawful = record {
      inside = board-inside;
      met-ok = met-ok;
      met-dep = met-dep;
      met_of = met_of;
      unmet = unmet;
    }
