-- `flat::meet::meet_leaving` goes along the links run by run; the invariant is Walked.
-- Assumes nothing.
use Prim.Native.Nat.{ℕ, ◌+◌, ◌*◌, ◌≤◌, ◌<◌}
use mathlib.Core.Path.{◌≡◌, refl, ◌∙◌, ap}
use mathlib.Core.Bool.{false}
use native.Mathlib.Omega.{arith}
use lib.ListN.{length, get_or}
use Rattle.words.specs.Limits.{max_kinds, max_links}
use Rattle.flat.proofs.MeetingCards.{met-few, demand-few}
use Rattle.flat.proofs.Along.{walked_start, walked-kind, walked-asked, walked-few, walked-unnamed}
use Rattle.flat.proofs.Along.{walked_next, walked-done}
use Rattle.flat.proofs.meet.meet_leaving.Goals as goal
use Rattle.flat.proofs.meet.meet_leaving.Goals.{After-run_length-count, After-from-place, In-loop-at}
use Rattle.flat.proofs.meet.meet_leaving.Goals.{Joined-else-place-eq0}

-- The kind and the place of a turn.
abbrev kind : In-loop-at → ℕ
kind l = get_or l.args.links.now l.loop-at.at 0

place_is : (a : After-from-place)
    → a.from-place.result ≡ get_or a.args.places.now (kind (goal.at.After-from-place a).In-loop-at) 0
place_is a =
    a.from-place.ensures
    ∙ ap (λ (k : ℕ). get_or a.args.places.now k 0) a.from.ensures

-- A closed shape has a link for the kind.
named : (c : Joined-else-place-eq0) → c.args.is_open ≡ false
    → 0 < c.from-place.result
named c shut = grind arith

-- The run is of so many links, and ends with them.
few : (c : After-run_length-count)
    → (c.run_length-count.result ≤ max_links) × (1 ≤ c.run_length-count.result)
    × (c.loop-at.at + 3 * c.run_length-count.result
    ≤ 1 + length c.args.links.now)
few c =
    walked-few c.requires c.loop-at.invariant c.loop-at-test.true (kind (goal.at.After-run_length-count
    c).In-loop-at) refl _ (place_is (goal.at.After-run_length-count c).After-from-place) _
    c.run_length-count.ensures

pub loop-at-init : goal.loop-at-init
loop-at-init c = walked_start _ _ _ _

pub bounds-places-from : goal.bounds-places-from
bounds-places-from c =
    let below : kind (goal.at.bounds-places-from c).In-loop-at < max_kinds =
    walked-kind c.requires c.loop-at.invariant c.loop-at-test.true (kind (goal.at.bounds-places-from c).In-loop-at)
    refl in
    omega (arith, c.from.ensures, c.requires.placed.full)

pub returns-then-not-is_open : goal.returns-then-not-is_open
returns-then-not-is_open c =
    walked-unnamed c.requires c.loop-at.invariant c.loop-at-test.true (kind (goal.at.returns-then-not-is_open
    c).In-loop-at) refl _ (place_is (goal.at.returns-then-not-is_open c).After-from-place)
    (grind arith) c.if-place-eq0.true

pub run_length-count-requires : goal.run_length-count-requires
run_length-count-requires c =
    walked-asked c.requires c.loop-at.invariant c.loop-at-test.true (kind (goal.at.run_length-count-requires
    c).In-loop-at) refl

pub overflow_cast-count : goal.overflow_cast-count
overflow_cast-count c = omega (arith, few c)

pub overflow_add-found : goal.overflow_add-found
overflow_add-found c =
    let one = demand-few c.args.words.now c.from-place.result in
    omega (arith, c.must-found.ensures, met-few c.loop-at.invariant.met, c.loop-at.invariant.outgoing)

pub overflow_mul-at : goal.overflow_mul-at
overflow_mul-at c = omega (arith, few (goal.at.overflow_mul-at c).After-run_length-count)

pub overflow_add-at : goal.overflow_add-at
overflow_add-at c = omega (arith, few (goal.at.overflow_add-at c).After-run_length-count)

pub loop-at-smaller : goal.loop-at-smaller
loop-at-smaller c = omega (arith, few (goal.at.loop-at-smaller c).After-run_length-count)

pub loop-at-preserved : goal.loop-at-preserved
loop-at-preserved c =
    rw c.must-found.ensures
    (walked_next c.requires c.loop-at.invariant c.loop-at-test.true (kind (goal.at.loop-at-preserved c).In-loop-at)
    refl _
    (place_is (goal.at.loop-at-preserved c).After-from-place) _ c.run_length-count.ensures _ (named
    (goal.at.loop-at-preserved c).Joined-else-place-eq0) c.meet_link-span.ensures)

pub returns : goal.returns
returns c = walked-done c.requires c.loop-at.invariant c.loop-at-test.false
