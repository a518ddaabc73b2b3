-- The smallest typing that holds the bookings: the closure is one set, every sound set that
-- holds the bookings has it, and under it a pair is met exactly if its counts fit.
--   BookedIn, closure-in, closure-place   the bookings are in the sheet, and so is the closure
--   sound-over      every sound set that holds the bookings has it
--   closure-unique, closure-alike   two sets that are the closure agree, and sets that agree are both or neither
--   closure-met     a pair of the closure is met under it exactly if it is ok on the board
--   met-again       what is met under some set is met under the closure
--   accepted-sound, accepted-holds   a grid that is accepted is a sound typing and holds the bookings
--   turned-down-never                no sound set holds bookings that are turned down
--   PlaceOf, booked-in, flooded-closure   what the search finds from the bookings' places is the closure
--   smallest-accepted, smallest-turned-down   and the answer by its places that are not ok
--   pairs-found, not-met-found                and what the call says
-- Assumes nothing.
use Prim.Native.Nat.{ℕ, ◌<◌}
use mathlib.Core.Path.{◌≡◌, refl, sym, ◌∙◌, subst, subst₂}
use mathlib.Core.Logic.{◌↔◌}
use mathlib.Core.List.{List, [], ◌∷◌}
use mathlib.Core.Bool.{true, false}
use lib.ListN.{replicate}
use Rattle.bags.specs.Label.{Way}
use Rattle.bags.specs.Part.{Declares}
use Rattle.board.specs.Grid.{on, tally}
use Rattle.board.specs.Board.{Board, Flooded}
use Rattle.board.specs.Board as board
use Rattle.words.proofs.Bools.{never_both, is_false, bools-equal}
use Rattle.board.proofs.Tally.{tally-ext}
use Rattle.script.specs.Link.{near_at, label_at, far_at}
use Rattle.words.specs.Said.{values, refusal}
use Rattle.sheet.specs.Sheet.{Sheet, part_of, place, size}
use Rattle.typing.specs.Typing.{Pairs, Has, Met, Sound, Holds, Typing, SoundTyping}
use Rattle.typing.specs.Smallest.{Closure, booked, follow, IsClosure, Accepted, TurnedDown}
use Rattle.typing.specs.Demand3.{pairs, not_met}
use Rattle.typing.specs.Calls.{SmallestFound}
use Rattle.words.proofs.Places.{card-below, place-unique}
use Rattle.typing.proofs.Represents.{Represents, Alike, on-board, pair-in, each-place}

-- p is the place of a pair of some kind: of a booking, or of the closure.
pub record PlaceOf (s : Sheet) (Pair : ℕ → ℕ → Type 0) (p : ℕ) : Type 0 where
  pub card : ℕ
  pub shape : ℕ
  pub pair : Pair card shape
  pub at : p ≡ place s card shape

-- Every booking is of a card and a shape of the sheet.
abbrev pub BookedIn : Sheet → (ℕ → ℕ → Type 0) → Type 0
BookedIn s Booked = (n t : ℕ) → Booked n t → (n < s.cards) × (t < s.shapes)

-- What is accepted is the closure, and each pair of it is met.
module _ {s : Sheet} {Booked : ℕ → ℕ → Type 0} {grid : List ℕ} {m : ℕ} (a : Accepted s Booked grid m) where
  pub accepted-sound : SoundTyping s grid
  accepted-sound = record { typing = a.typing; sound = λ n t ln lt e. a.met n t (a.closure.only n t ln lt e) }

  pub accepted-holds : Holds s Booked (on grid)
  accepted-holds n t b = a.closure.has n t (booked b)

module _ {s : Sheet} {B : Board} (rep : Represents s B) {Booked : ℕ → ℕ → Type 0} (inside : BookedIn s Booked) where
  pub closure-in : {n t : ℕ} → Closure s Booked n t → (n < s.cards) × (t < s.shapes)
  closure-in (booked b) = inside _ _ b
  closure-in (follow {n} {t} {u} c way i l e d) =
      (rep.target-in way i l, rep.declared-in t (label_at way s.script i) u (closure-in c).1 d)

  closure-place : {n t : ℕ} → Closure s Booked n t → place s n t < size s
  closure-place {n} {t} c = let (ln, lt) = closure-in c in pair-in rep n t ln lt

  -- what the closure goes on to is what the board's place needs
  follow-needs : {n t : ℕ} → Closure s Booked n t → (way : Way) (i u : ℕ) → i < s.links → near_at way s.script i ≡ n
      → Declares (part_of s t) (label_at way s.script i) u
      → B.Dep (place s n t) (place s (far_at way s.script i) u)
  follow-needs {n} {t} c way i u l e d =
      let (ln, lt) = closure-in c in
      (rep.needs-exact n t (place s (far_at way s.script i) u) ln lt).1
      (record { way = way; link = i; shape = u; below = l; starts = e; declares = d; leads = refl })

  pub sound-over : (X : Pairs) → Sound s X → Holds s Booked X → {n t : ℕ} → Closure s Booked n t → Has s X n t
  sound-over X sound holds (booked b) = holds _ _ b
  sound-over X sound holds (follow {n} {t} {u} c way i l e d) =
      let (ln, lt) = closure-in c in
      rep.lawful.met-dep X (place s n t) (place s (far_at way s.script i) u)
      ((rep.met-exact X n t ln lt).1 (sound n t ln lt (sound-over X sound holds c))) (follow-needs c way i u l e d)

  -- one set that is the closure has all of another
  closure-under : (X Y : Pairs) → IsClosure s Booked X → IsClosure s Booked Y
      → (p : ℕ) → p < size s → X p ≡ true → Y p ≡ true
  closure-under X Y x y =
      each-place rep (λ p. X p ≡ true → Y p ≡ true) (λ n t ln lt e. y.has n t (x.only n t ln lt e))

  pub closure-unique : (X Y : Pairs) → IsClosure s Booked X → IsClosure s Booked Y → Alike s X Y
  closure-unique X Y x y p l = bools-equal (closure-under X Y x y p l)
      (λ e. is_false (λ t. never_both (closure-under Y X y x p l t) e))

  closure-alike : (X Y : Pairs) → Alike s X Y → IsClosure s Booked X → IsClosure s Booked Y
  closure-alike X Y e x = record {
    has = λ n t c. sym (e (place s n t) (closure-place c)) ∙ x.has n t c;
    only = λ n t ln lt h. x.only n t ln lt (e (place s n t) (pair-in rep n t ln lt) ∙ h);
  }

  module _ (Y : Pairs) (y : IsClosure s Booked Y) {n t : ℕ} (c : Closure s Booked n t) where
    -- the closure has what a pair of it needs
    closure-has : (q : ℕ) → B.Dep (place s n t) q → Y q ≡ true
    closure-has q d =
        let (ln, lt) = closure-in c in
        let f = (rep.needs-exact n t q ln lt).0 d in
        subst (λ (x : ℕ). Y x ≡ true) (sym f.leads)
        (y.has (far_at f.way s.script f.link) f.shape
        (follow c f.way f.link f.below f.starts f.declares))

    closure-met : (B.ok (place s n t) ≡ true) ↔ Met s Y n t
    closure-met =
        let (ln, lt) = closure-in c in (
          λ o. (rep.met-exact Y n t ln lt).0 (rep.lawful.met_of Y (place s n t) o closure-has),
          λ m. rep.lawful.met-ok Y (place s n t) ((rep.met-exact Y n t ln lt).1 m),
        )

    pub met-again : (X : Pairs) → Met s X n t → Met s Y n t
    met-again X m =
        let (ln, lt) = closure-in c in
        closure-met.0 (rep.lawful.met-ok X (place s n t) ((rep.met-exact X n t ln lt).1 m))

  pub turned-down-never : {grid : List ℕ} {n t : ℕ} → TurnedDown s Booked grid n t
      → (X : Pairs) → Sound s X → Holds s Booked X → ⊥
  turned-down-never {grid} {n} {t} a X sound holds =
      let (ln, lt) = closure-in a.inside in
      a.unmet (met-again a.set a.closure a.inside X
      (sound n t ln lt (sound-over X sound holds a.inside)))

  -- ---- the closure on the board
  pub booked-in : (p : ℕ) → PlaceOf s Booked p → p < B.size
  booked-in p b =
      let (ln, lt) = inside b.card b.shape b.pair in
      subst (λ (x : ℕ). x < B.size) (sym b.at) (on-board rep (pair-in rep b.card b.shape ln lt))

  closed_of : {n t : ℕ} → Closure s Booked n t → board.Closed B (PlaceOf s Booked) (place s n t)
  closed_of (booked {n} {t} b) = board.booked (record { card = n; shape = t; pair = b; at = refl })
  closed_of (follow {n} {t} {u} c way i l e d) =
      board.follow (closed_of c) (follow-needs c way i u l e d)

  of-closed : {p : ℕ} → board.Closed B (PlaceOf s Booked) p → PlaceOf s (Closure s Booked) p
  of-closed (board.booked b) =
      record { card = b.card; shape = b.shape; pair = booked b.pair; at = b.at }
  of-closed (board.follow {p} {q} k d) =
      let c = of-closed k in
      let (ln, lt) = closure-in c.pair in
      let f = (rep.needs-exact c.card c.shape q ln lt).0 (subst (λ (x : ℕ). B.Dep x q) c.at d) in
      record {
        card = far_at f.way s.script f.link;
        shape = f.shape;
        pair = follow c.pair f.way f.link f.below f.starts f.declares;
        at = f.leads;
      }

  module _ {X : Pairs} {found : ℕ} (f : Flooded B (PlaceOf s Booked) X found) where
    flooded-closure : IsClosure s Booked X
    flooded-closure = record {
      has = λ n t c. f.has (place s n t) (closed_of c);
      only = λ n t ln lt e.
          let c = of-closed (f.only (place s n t) (on-board rep (pair-in rep n t ln lt)) e) in
          let (lm, lu) = closure-in c.pair in
          let (m, u) = place-unique s.shapes rep.one-shape c.card c.shape n t lu lt (sym c.at) in
          subst₂ (λ (x y : ℕ). Closure s Booked x y) m u c.pair;
    }

    -- every place of the closure is ok: the grid is the answer
    smallest-accepted : (grid : List ℕ) → Typing s grid → Alike s (on grid) X
        → ((p : ℕ) → p < size s → X p ≡ true → B.ok p ≡ true) → Accepted s Booked grid found
    smallest-accepted grid typed e oks = record {
      typing = typed;
      closure = here;
      met = λ n t c.
          let l = closure-place c in
          (closure-met (on grid) here c).0 (oks (place s n t) l (f.has (place s n t) (closed_of c)));
      counted = f.count ∙ subst (λ (z : ℕ). tally X z ≡ tally (on grid) (size s)) (sym rep.sized)
          (tally-ext X (on grid) (size s) (λ p l. sym (e p l)));
    }
      where
        here : IsClosure s Booked (on grid)
        here = closure-alike X (on grid) (λ p l. sym (e p l)) flooded-closure

    -- the lowest pair that is not ok is the refusal's
    smallest-turned-down : (n t : ℕ) → t < s.shapes → place s n t < size s
        → X (place s n t) ≡ true → B.ok (place s n t) ≡ false
        → ((q : ℕ) → q < place s n t → X q ≡ true → B.ok q ≡ true)
        → TurnedDown s Booked (replicate (size s) 0) n t
    smallest-turned-down n t lt l e o low = record {
      zeros = refl;
      set = X;
      closure = flooded-closure;
      inside = first;
      unmet = λ m. never_both ((closure-met X flooded-closure first).1 m) o;
      lowest = λ m u c lower.
          (closure-met X flooded-closure c).0 (low (place s m u) lower (flooded-closure.has m u c));
    }
      where
        first : Closure s Booked n t
        first = flooded-closure.only n t (card-below s.shapes rep.one-shape s.cards n t lt l) lt e

-- ---- what the call for the smallest says
module _ {s : Sheet} {B : Board} (rep : Represents s B) {Booked : ℕ → ℕ → Type 0} (inside : BookedIn s Booked)
    {X : Pairs} {found : ℕ} (f : Flooded B (PlaceOf s Booked) X found) where
  pub pairs-found : (grid : List ℕ) → Typing s grid → Alike s (on grid) X
      → ((p : ℕ) → p < size s → X p ≡ true → B.ok p ≡ true) → SmallestFound s Booked grid (values (found ∷ []))
  pairs-found grid typed e oks =
      record { outcome = pairs found; says = refl; leaves = smallest-accepted rep inside f grid typed e oks }

  pub not-met-found : (n t : ℕ) → t < s.shapes → place s n t < size s
      → X (place s n t) ≡ true → B.ok (place s n t) ≡ false
      → ((q : ℕ) → q < place s n t → X q ≡ true → B.ok q ≡ true)
      → SmallestFound s Booked (replicate (size s) 0) (refusal 50 (n ∷ t ∷ []))
  not-met-found n t lt l e o low = record {
    outcome = not_met n t;
    says = refl;
    leaves = smallest-turned-down rep inside f n t lt l e o low;
  }
