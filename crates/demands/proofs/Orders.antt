-- Pairs struck one at a time: orders on the worked sheet, and what is no order.
--   left_after, is_in_order
--                    what strikes at some places leave; whether each is of a pair that is left and not met then
--   in_order, to_the_end   such strikes are a sequence; one that ends where the largest typing is left
--   one-order        a sequence that strikes (1, 1) and (2, 0) last, where the rounds strike them first
--   rounds-order     a sequence in the order of the rounds
--   twice-struck     a sequence that strikes a pair twice, at once or later, on any sheet
--   stopped-early, struck-more   one that stops before the fifth strike; one that makes a sixth
--   other-end        one that stops without (2, 1)
--   nothing-struck   a call that says that it struck no pair
-- Assumes nothing.
use Prim.Native.Nat.{ℕ, ◌<◌}
use mathlib.Core.Path.{◌≡◌, refl, sym, ap, ◌∙◌, subst}
use mathlib.Core.Logic.{⊎_elim}
use mathlib.Core.Bool.{Bool, true, false, not, ◌&&◌, beq}
use mathlib.Core.List.{List, [], ◌∷◌, ◌++◌}
use native.Mathlib.Omega.{arith}
use lib.Dec.{ltb}
use lib.ListN.{length}
use borrow.Author.Tests.{ltb-true}
use Rattle.words.proofs.Bools.{never_both, and_first, and_second, false_of_not, eq-or-ne, same_true}
use Rattle.words.proofs.Places.{place_in}
use Rattle.words.proofs.Readings.{accepted-same}
use Rattle.board.specs.Grid.{on, bit, tally}
use Rattle.board.specs.Machine.{all}
use Rattle.board.proofs.Tally.{all-at}
use Rattle.script.specs.Link.{from_at, kind_at, to_at}
use Rattle.sheet.specs.Sheet.{Sheet, place, size}
use Rattle.typing.specs.Needs.{end_test, link_test, met_test}
use Rattle.typing.specs.Typing.{Pairs, Sound}
use Rattle.typing.specs.Orders.{Strikes, start, strike, AnyOrder}
use Rattle.typing.proofs.Represents.{each-place}
use Rattle.typing.proofs.Orders.{without, struck-next, strikes-alike, any-order-unique, largest-any-order}
use Rattle.demands.specs.Worked.{template, script, last_shape}
use Rattle.demands.proofs.Worked.{worked, worked-read, worked-largest, stands, board}

-- ---- orders
-- What is left of all pairs where those at these places are struck.
unfoldable left_after : List ℕ → Pairs
left_after [] = λ p. true
left_after (p ∷ ps) = without (left_after ps) p

-- Each place is one of the six, and its pair is left and not met when it is struck; the last strike stands first.
unfoldable is_in_order : List ℕ → Bool
is_in_order [] = true
is_in_order (p ∷ ps) = (ltb p 6 && left_after ps p) && (not (board.met (left_after ps) p) && is_in_order ps)

-- One strike more, at a place where the board finds that the pair is not met.
struck-at : {ps : List ℕ} {X : Pairs} → Strikes worked ps X → (p : ℕ) → p < 6 → X p ≡ true → board.met X p ≡ false
    → Strikes worked (p ∷ ps) (without X p)
struck-at {ps} {X} w =
    each-place stands (λ q. X q ≡ true → board.met X q ≡ false → Strikes worked (q ∷ ps) (without X q))
    (λ n t ln lt left unmet. struck-next stands w (record {
      card = n;
      shape = t;
      card-in = ln;
      shape-in = lt;
      left = left;
      unmet = λ m. never_both ((stands.met-exact X n t ln lt).1 m) unmet;
    }))

in_order : (ps : List ℕ) → is_in_order ps ≡ true → Strikes worked ps (left_after ps)
unfolding left_after is_in_order
in_order [] e = start (λ n t ln lt. refl)
in_order (p ∷ ps) e =
    let X = left_after ps in
    let here = and_first (ltb p 6 && X p) (not (board.met X p) && is_in_order ps) e in
    let rest = and_second (ltb p 6 && X p) (not (board.met X p) && is_in_order ps) e in
    struck-at (in_order ps (and_second (not (board.met X p)) (is_in_order ps) rest)) p
    (ltb-true p 6 (and_first (ltb p 6) (X p) here)) (and_second (ltb p 6) (X p) here)
    (false_of_not (and_first (not (board.met X p)) (is_in_order ps) rest))

-- Strikes that leave just the pair that the largest typing has.
to_the_end : (ps : List ℕ) → is_in_order ps ≡ true → all (λ p. beq (left_after ps p) (on last_shape p)) 6 ≡ true
    → Strikes worked ps (on last_shape)
to_the_end ps e same = strikes-alike stands (in_order ps e) (λ p l. same_true (left_after ps p) (on last_shape p)
    (all-at (λ q. beq (left_after ps q) (on last_shape q)) 6 same p l))

-- Strikes (0, 1), (1, 0), (0, 0), (1, 1) and (2, 0).
pub one-order : Strikes worked (4 ∷ 3 ∷ 0 ∷ 2 ∷ 1 ∷ []) (on last_shape)
unfolding left_after is_in_order without on met_test link_test end_test all tally bit from_at kind_at to_at
one-order = to_the_end (4 ∷ 3 ∷ 0 ∷ 2 ∷ 1 ∷ []) refl refl

-- Strikes (0, 1), (1, 1), (2, 0), then (1, 0), then (0, 0).
pub rounds-order : Strikes worked (0 ∷ 2 ∷ 4 ∷ 3 ∷ 1 ∷ []) (on last_shape)
unfolding left_after is_in_order without on met_test link_test end_test all tally bit from_at kind_at to_at
rounds-order = to_the_end (0 ∷ 2 ∷ 4 ∷ 3 ∷ 1 ∷ []) refl refl

-- ---- what is no order
-- A pair that was struck is not left any more, however many strikes later.
gone-for-good : {s : Sheet} {ps : List ℕ} {Y : Pairs} → Strikes s ps Y
    → (p : ℕ) (later earlier : List ℕ) → ps ≡ later ++ (p ∷ earlier) → (p < size s) × (Y p ≡ false)
gone-for-good (start h) p [] earlier e = absurd (omega (arith, ap length e))
gone-for-good (start h) p (q ∷ later) earlier e = absurd (omega (arith, ap length e))
gone-for-good {s} (strike {ps} {X} {Y} w n t ln lt has unmet gone same) p [] earlier e =
    let here : place s n t ≡ p = cc in
    subst (λ (q : ℕ). (q < size s) × (Y q ≡ false)) here (place_in s.cards s.shapes n t ln lt, gone)
gone-for-good {s} (strike {ps} {X} {Y} w n t ln lt has unmet gone same) p (q ∷ later) earlier e =
    let before : ps ≡ later ++ (p ∷ earlier) = cc in
    let (l, was) = gone-for-good w p later earlier before in (
      l,
      ⊎_elim (λ (here : p ≡ place s n t). subst (λ (x : ℕ). Y x ≡ false) (sym here) gone) (λ ne. same p l ne ∙ was)
          (eq-or-ne p (place s n t)),
    )

-- A pair is left when it is struck.
left-then : {s : Sheet} {ps : List ℕ} {Y : Pairs} → Strikes s ps Y
    → (p : ℕ) (earlier : List ℕ) → ps ≡ p ∷ earlier → (X : Pairs) × Strikes s earlier X × (X p ≡ true)
left-then (start h) p earlier e = absurd (omega (arith, ap length e))
left-then {s} (strike {ps} {X} {Y} w n t ln lt has unmet gone same) p earlier e =
    let here : place s n t ≡ p = cc in
    let before : ps ≡ earlier = cc in
    (X, subst (λ (qs : List ℕ). Strikes s qs X) before w, subst (λ (q : ℕ). X q ≡ true) here has)

-- A pair is struck, then others or none, and then the pair again.
pub twice-struck : {s : Sheet} {Y : Pairs} (p : ℕ) (others earlier : List ℕ)
    → Strikes s (p ∷ (others ++ (p ∷ earlier))) Y → ⊥
twice-struck p others earlier w =
    let (X, before, left) = left-then w p (others ++ (p ∷ earlier)) refl in
    never_both left (gone-for-good before p others earlier refl).1

-- What is promised of the worked sheet, by the call for the largest.
worked-order : AnyOrder worked last_shape 5
worked-order =
    let (s, read, order) =
    largest-any-order template script last_shape last_shape 4 5 2 (worked-largest last_shape refl) in
    subst (λ (x : Sheet). AnyOrder x last_shape 5) (accepted-same (sym read ∙ worked-read)) order

-- It stops before the fifth strike,
pub stopped-early : (ps : List ℕ) (X : Pairs) → Strikes worked ps X → Sound worked X → length ps < 5 → ⊥
stopped-early ps X w sound few = omega (arith, worked-order.long ps X w sound)

-- or makes a sixth,
pub struck-more : (ps : List ℕ) (X : Pairs) → Strikes worked ps X → 5 < length ps → ⊥
struck-more ps X w many = omega (arith, worked-order.bounded ps X w)

-- or stops without (2, 1).
pub other-end : (ps : List ℕ) (X : Pairs) → Strikes worked ps X → Sound worked X → X 5 ≡ false → ⊥
unfolding on
other-end ps X w sound e = never_both (worked-order.ends ps X w sound 5 (omega arith)) e

-- A call that strikes nothing, whatever grid it leaves, does not keep the promise.
pub nothing-struck : (grid : List ℕ) → AnyOrder worked grid 0 → ⊥
nothing-struck grid order = omega (arith, (any-order-unique order worked-order).0)
