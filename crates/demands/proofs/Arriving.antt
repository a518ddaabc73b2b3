-- Links that arrive (docs/FORMAT.md, "Items and guests"): wrong answers that no contract allows, where an item points
-- at a guest and the guest is booked.
--   visit-read                the sheet of the template and the script
--   host-reached              the closure of the booking has the item too
--   arriving-not-followed     a smallest typing of the guest alone, as if links that arrive were not followed
--   arriving-not-asked        a judge that accepts a grid with the guest alone, as if they asked for nothing
-- Assumes nothing.
use Prim.Native.Nat.{ℕ, ◌+◌, ◌*◌}
use mathlib.Core.Path.{◌≡◌, refl, sym, subst, ◌∙◌}
use mathlib.Core.Bool.{true}
use mathlib.Core.List.{List, [], ◌∷◌}
use native.Mathlib.Omega.{arith}
use Rattle.words.specs.Said.{values}
use Rattle.words.specs.Reading.{accepted}
use Rattle.words.proofs.Said.{one_value, values-refusal}
use Rattle.words.proofs.Bools.{never_both}
use Rattle.words.proofs.Readings.{accepted-same}
use Rattle.words.proofs.Answered.{answered-values}
use Rattle.bags.specs.Label.{incoming}
use Rattle.bags.specs.Part.{link, no-limit}
use Rattle.bags.specs.Look.{looks_at, looked_at}
use Rattle.bags.proofs.Choosing.{met-exact}
use Rattle.board.specs.Grid.{on, bit, tally}
use Rattle.parts.specs.Reading.{read_link, read_part}
use Rattle.template.specs.Template.{open_at, part_at, read_shape, read_shapes, shape_place, read_template}
use Rattle.script.specs.Link.{from_at, kind_at, to_at, above, greater, neighbours}
use Rattle.script.specs.Script.{read_links, read_script}
use Rattle.sheet.specs.Sheet.{Sheet, part_of, neighbours_of, read_sheet}
use Rattle.bookings.specs.Bookings.{desk_at, card_at, shape_at, Booked}
use Rattle.typing.specs.Typing.{Pairs, Has, Met}
use Rattle.typing.specs.Smallest.{booked, follow, IsClosure}
use Rattle.typing.specs.Demand3.{Outcome, pairs, not_met}
use Rattle.typing.specs.Calls.{outcome_said, smallest_reading, Leaves, SmallestFound, SmallestSays}
use Rattle.typing.specs.Judge.{Passes, JudgeSays}
use Rattle.typing.proofs.Booked.{grid-asked, bookings-asked}
use Rattle.typing.proofs.Judging.{judge-exact}

-- An item has links of kind 0 to guests, and a guest has some from items.
abbrev guests : List ℕ
guests = 1 ∷ 2 ∷ 4 ∷ 256 ∷ 1 ∷ 1 ∷ 65535 ∷ 4 ∷ 320 ∷ 0 ∷ 1 ∷ 65535 ∷ []

-- Card 0 points at card 1.
abbrev visit : List ℕ
visit = 2 ∷ 1 ∷ 0 ∷ 0 ∷ 1 ∷ []

-- Radio books card 1 as a guest.
abbrev guest_booked : List ℕ
guest_booked = 1 ∷ 0 ∷ 1 ∷ 1 ∷ []

abbrev visited : Sheet
visited = record {
  shapes = 2;
  parts = link 0 1 1 no-limit ∷ link 64 0 1 no-limit ∷ [];
  cards = 2;
  links = 1;
  template = guests;
  script = visit;
}

visit-read : read_sheet guests visit ≡ accepted visited
unfolding read_sheet read_template open_at part_at read_shape read_shapes read_part read_link read_script read_links
    from_at kind_at to_at above greater
visit-read = refl

-- A reading of these files reads this sheet.
only-visited : (grid : List ℕ) (s : Sheet) → smallest_reading guests visit guest_booked 0 grid ≡ accepted s
    → s ≡ visited
only-visited grid s asked =
    let listed = (grid-asked grid _ s asked).0 in
    accepted-same (sym (bookings-asked guest_booked 0 (read_sheet guests visit) s listed).0 ∙ visit-read)

-- ---- the smallest typing
the-guest : Booked guest_booked 0 1 1
unfolding desk_at card_at shape_at
the-guest = record { booking = 0; listed = omega arith; ours = refl; card = refl; shape = refl }

host-reached : (X : Pairs) → IsClosure visited (Booked guest_booked 0) X → (X 3 ≡ true) × (X 0 ≡ true)
unfolding from_at kind_at to_at
host-reached X c =
    let guest = booked the-guest in
    (c.has 1 1 guest, c.has 0 0 (follow guest incoming 0 (omega arith) refl (refl, refl)))

-- A set with both has two pairs at least.
two-pairs : (X : Pairs) → X 3 ≡ true → X 0 ≡ true → tally X 4 ≡ 1 → ⊥
unfolding tally bit
two-pairs X guest host one = let h = rw (guest, host) at one in omega (arith, h)

one-pair : (after : List ℕ) (o : Outcome) → values (1 ∷ []) ≡ outcome_said o
    → Leaves visited (Booked guest_booked 0) after o → ⊥
one-pair after (pairs m) says l =
    let (guest, host) = host-reached (on after) l.closure in
    two-pairs (on after) guest host (sym l.counted ∙ sym (one_value says))
one-pair after (not_met n t) says l = values-refusal says

pub arriving-not-followed : (before after : List ℕ)
    → SmallestSays guests visit guest_booked 0 before after (values (1 ∷ [])) → ⊥
arriving-not-followed before after x =
    let (s, asked, found) = answered-values (smallest_reading guests visit guest_booked 0 before) before after _ x in
    let here = subst (λ (q : Sheet). SmallestFound q (Booked guest_booked 0) after (values (1 ∷ [])))
    (only-visited before s asked) found in
    one-pair after here.outcome here.says here.leaves

-- ---- the judge
-- The guest is met only where its item has its shape.
host-had : (X : Pairs) → Met visited X 1 1 → X 0 ≡ true
unfolding from_at kind_at to_at neighbours looked_at looks_at open_at shape_place
host-had X met =
    let near = neighbours_of visited 1 1 in
    let (fits, had) = (met-exact 2 (Has visited X) near (part_of visited 1) tt (omega arith)).0 met in
    let (u, declared, has) = had.0 in
    let host : 0 * 2 + u ≡ 0 = omega (arith, declared.1) in
    subst (λ (p : ℕ). X p ≡ true) host has

pub arriving-not-asked : JudgeSays guests visit guest_booked 0 (0 ∷ 0 ∷ 0 ∷ 1 ∷ []) (values []) → ⊥
unfolding on
arriving-not-asked x =
    let grid : List ℕ = 0 ∷ 0 ∷ 0 ∷ 1 ∷ [] in
    let (s, asked, p) = (judge-exact guests visit guest_booked 0 grid (values []) x).0 refl in
    let here = subst (λ (q : Sheet). Passes q (Booked guest_booked 0) grid) (only-visited grid s asked) p in
    never_both (host-had (on grid) (here.sound.sound 1 1 (omega arith) (omega arith) refl)) refl
