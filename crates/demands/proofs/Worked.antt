-- The worked sheet of docs/FORMAT.md: the right answers are allowed by the contracts, whatever the grid held before.
--   worked, worked-read   the sheet that is read, by computation
--   below_two, below-three, below-six, each-pair   what holds of each number below a small one, and of each pair
--   names, fitting        the shapes that each shape names, and where the counts fit; board: its board
--   stands                the board stands for the sheet
--   four-rounds           three rounds strike something, the fourth nothing
--   Just, one-just, one-other, two-radio, two-television   what lists of one and of two bookings book for each desk
--   met-closure, unmet-closure          the closures of the two bookings
--   smallest-found, not-met-found, none_found   what follows from them, and from none
--   met-listed, unmet-listed, both-unmet-listed, listed-asked   the lists are read, for each desk
--   worked-links, worked_fit   what the other operations say of it, by computation
--   all-inside, together  the bookings of a list that is read are in the sheet; what follows from those of each desk
--   worked-largest, worked-smallest, worked-not-met, worked-none, worked-both, worked-both-none, worked-both-not-met,
--   worked-desks          the right answers are allowed
-- Assumes nothing.
use Prim.Native.Nat.{ℕ, zero, suc, ◌+◌, ◌*◌, ◌/◌, ◌%◌, ◌≤◌, ◌<◌}
use mathlib.Core.Path.{◌≡◌, refl, sym, ap₂, ◌∙◌, subst, subst₂}
use mathlib.Core.Logic.{◌⊎◌, inl, inr, ⊎_elim}
use mathlib.Core.Bool.{Bool, true, false, not, ◌||◌}
use mathlib.Core.List.{List, [], ◌∷◌}
use native.Mathlib.Omega.{arith}
use native.Mathlib.Nat.{le_of_suc-le-suc}
use lib.Dec.{eqb}
use lib.ListN.{length, get_or, replicate}
use borrow.Author.Tests.{eqb-true}
use Rattle.words.specs.Limits.{max_labels}
use Rattle.words.specs.Said.{Said, values}
use Rattle.words.specs.Reading.{accepted}
use Rattle.words.proofs.Bools.{never_both, or_cases, false-true, false_of_not}
use Rattle.words.proofs.Places.{place_in, card-of, shape_of}
use Rattle.bags.specs.Part.{Part, Parts, at_most}
use Rattle.bags.specs.Named.{named}
use Rattle.bags.specs.Label.{outgoing}
use Rattle.bags.specs.Look.{listed}
use Rattle.bags.specs.Interval.{fits}
use Rattle.parts.specs.Reading.{read_link, read_run, read_part}
use Rattle.template.specs.Template.{open_at, part_at, read_shape, read_shapes, shape_place, read_template}
use Rattle.template.specs.Machine.{Tabled}
use Rattle.script.specs.Link.{from_at, kind_at, to_at, far_at, above, greater, card_words, below, neighbours, linked}
use Rattle.script.specs.Script.{read_links, read_script, card_links, links_start}
use Rattle.sheet.specs.Sheet.{Sheet, part_of, opens_of, place, read_sheet}
use Rattle.sheet.proofs.Accepted.{SheetAccepted, sheet-made}
use Rattle.counts.specs.Fit.{first_over, fit_question, FitSays}
use Rattle.bags.proofs.Decide.{list-decided}
use Rattle.board.specs.Grid.{on, bit, tally}
use Rattle.board.specs.Machine.{all}
use Rattle.board.specs.Board.{Board}
use Rattle.board.proofs.Tally.{all-at}
use Rattle.board.proofs.Rounds.{after, Last, Noisy, struck}
use Rattle.typing.specs.Needs.{end_test, link_test, met_test, board_of}
use Rattle.bookings.specs.Bookings.{desk_at, card_at, shape_at, read_each, read_list, Booked, repeated, booked_before}
use Rattle.typing.specs.Typing.{Pairs, Has, Met, Typing}
use Rattle.typing.specs.Largest.{Largest, bare, bare_cards}
use Rattle.typing.specs.Smallest.{Closure, booked, follow, IsClosure}
use Rattle.typing.specs.Demand3.{pairs, not_met}
use Rattle.typing.specs.Calls.{listed_reading, booked_reading, largest_reading, smallest_reading, LargestFound}
use Rattle.typing.specs.Calls.{LargestSays, SmallestFound, SmallestSays, Grids, both_reading, BothSays}
use Rattle.typing.specs.Desks.{DeskGrids, DesksFound, DesksSays}
use Rattle.typing.proofs.Represents.{Represents, Alike, pair-in}
use Rattle.typing.proofs.Boards.{board-lawful}
use Rattle.typing.proofs.Demand.{both_found}
use Rattle.typing.proofs.Largest.{largest-of}
use Rattle.typing.proofs.Booked.{desk-taken, grid-taken, list-asked}
use Rattle.typing.proofs.Smallest.{BookedIn, closure-in}
use Rattle.typing.proofs.NoneBooked.{closure-empty}
use Rattle.typing.proofs.Instance.{FitsGrid, counts_of, fits-grid, ready, represents}
use Rattle.demands.specs.Worked.{template, script, met_bookings, unmet_bookings, both_unmet, last_shape, no_shapes}
use Rattle.demands.specs.Worked.{largest_answer, smallest_answer, not_met_answer, none_answer}

-- ---- the sheet that is read
abbrev pub worked : Sheet
worked = record {
  shapes = 2;
  parts = Part.all (Parts.more (Part.link 0 1 1 (at_most 1)) (Parts.more (Part.link 1 0 0 (at_most 1)) Parts.none))
      ∷ Part.nothing ∷ [];
  cards = 3;
  links = 3;
  template = template;
  script = script;
}

pub worked-read : read_sheet template script ≡ accepted worked
unfolding read_sheet read_template open_at part_at read_shape read_shapes read_part read_run read_link read_script
    read_links
    from_at kind_at to_at above greater
worked-read = refl

read : SheetAccepted template 2 worked
unfolding read_template open_at part_at read_shape read_shapes read_part read_run read_link read_script read_links
    from_at kind_at to_at above greater
read = sheet-made template script
    (record { kinds = 2; shapes = 2; parts = worked.parts }) (record { cards = 3; links = 3 }) refl refl

-- ---- the operations that make no typing
-- The links of each card, and the word of the script at which they start; there is no card 3.
pub worked-links : (card_links template script 0 ≡ 0 ∷ 0 ∷ 2 ∷ 0 ∷ 1 ∷ 1 ∷ [])
    × (card_links template script 1 ≡ 1 ∷ 0 ∷ 0 ∷ [])
    × (card_links template script 2 ≡ [])
    × (card_links template script 3 ≡ [])
    × (links_start template script 0 ≡ 2)
    × (links_start template script 1 ≡ 8)
    × (links_start template script 2 ≡ 11)
    × (links_start template script 3 ≡ 0)
unfolding card_links read_template open_at part_at read_shape read_shapes read_part read_run read_link read_script
    read_links
    from_at kind_at to_at above greater card_words below
worked-links = (refl, refl, refl, refl, refl, refl, refl, refl)

-- Card 0 has a link of each kind, and one of kind 0 leads to it: these counts fit shape 0.
pub worked_fit : FitSays template 0 (1 ∷ 1 ∷ 1 ∷ 0 ∷ []) (values (1 ∷ []))
unfolding fit_question read_template open_at part_at read_shape read_shapes read_part read_run read_link
    shape_place first_over
    listed
worked_fit =
    let part = part_of worked 0 in
    (inl (
      (list-decided 2 (opens_of worked 0) part 2 (1 ∷ 1 ∷ 1 ∷ 0 ∷ []) (omega arith) (omega arith)
          (read.shapes.single 0 (omega arith)) (read.shapes.shapes-below 0 (omega arith))).1 refl,
      refl,
    ))

-- ---- numbers below a small one
below_two : (P : ℕ → Type 0) → P 0 → P 1 → (k : ℕ) → k < 2 → P k
below_two P a b zero l = a
below_two P a b (suc zero) l = b
below_two P a b (suc (suc k)) l = absurd (omega arith)

below-three : (P : ℕ → Type 0) → P 0 → P 1 → P 2 → (k : ℕ) → k < 3 → P k
below-three P a b c zero l = a
below-three P a b c (suc k) l = below_two (λ j. P (suc j)) b c k (le_of_suc-le-suc l)

pub below-six : (P : ℕ → Type 0) → P 0 → P 1 → P 2 → P 3 → P 4 → P 5 → (k : ℕ) → k < 6 → P k
below-six P a b c d e f zero l = a
below-six P a b c d e f (suc zero) l = b
below-six P a b c d e f (suc (suc zero)) l = c
below-six P a b c d e f (suc (suc (suc k))) l =
    below-three (λ j. P (suc (suc (suc j)))) d e f k (omega arith)

-- What holds of each pair of the sheet, in the order of the grid.
pub each-pair : (P : ℕ → ℕ → Type 0) → P 0 0 → P 0 1 → P 1 0 → P 1 1 → P 2 0 → P 2 1
    → (n t : ℕ) → n < 3 → t < 2 → P n t
each-pair P a b c d e f n t ln lt = below-three (λ m. P m t)
    (below_two (P 0) a b t lt) (below_two (P 1) c d t lt) (below_two (P 2) e f t lt) n ln

-- ---- its board
-- Shape 0 names shape 1 for kind 0 and shape 0 for kind 1; shape 1 names none. An entry is the shape named plus one.
abbrev names : List ℕ
names = 2 ∷ 1 ∷ replicate 254 0

-- The entry at a place is what the place's shape names for its label.
abbrev entry_test : ℕ → Bool
entry_test p = eqb (get_or names p 0) (named (get_or worked.parts (p / max_labels) Part.nothing) (p % max_labels))

entries-computed : all entry_test 256 ≡ true
unfolding all tally bit
entries-computed = refl

names-tabled : Tabled worked.parts names
names-tabled t k lt lk =
    let some : 0 < max_labels = omega arith in
    let p = t * max_labels + k in
    eqb-true (get_or names p 0) (named (get_or worked.parts (p / max_labels) Part.nothing) (p % max_labels))
    (all-at entry_test 256 entries-computed p (place_in 2 max_labels t k lt lk))
    ∙ ap₂ (λ (x y : ℕ). named (get_or worked.parts x Part.nothing) y) (card-of max_labels some t k lk)
    (shape_of max_labels some t k lk)

-- Whether card n has counts that fit shape t: cards 0 and 1 those of shape 0, card 2 those of shape 1.
abbrev fitting : List ℕ
fitting = 1 ∷ 0 ∷ 1 ∷ 0 ∷ 0 ∷ 1 ∷ []

-- The grid of fits has what the test of a card's counts says.
abbrev FitAt : ℕ → ℕ → Type 0
FitAt n t = on fitting (place worked n t) ≡ fits (opens_of worked t) 2 (part_of worked t) (counts_of worked n)

fits-computed : (n t : ℕ) → n < 3 → t < 2 → FitAt n t
unfolding on neighbours from_at kind_at to_at shape_place open_at
fits-computed = each-pair FitAt refl refl refl refl refl refl

fits-right : FitsGrid worked fitting
fits-right = fits-grid read fitting fits-computed

abbrev pub board : Board
board = board_of script names 2 fitting

names-room : 2 * max_labels ≤ length names
names-room = omega arith

pub stands : Represents worked board
stands = represents read names names-tabled names-room fitting fits-right

-- ---- the largest typing
-- Rounds 1 to 3 strike something: (0, 1), then (1, 0), then (0, 0); round 4 strikes nothing.
four-rounds : Last board 4
unfolding after met_test link_test end_test on all tally bit from_at kind_at to_at
four-rounds = record {
  before = 3;
  is = refl;
  quiet = below-six (λ p. after board 3 p ≡ true → board.met (after board 3) p ≡ true)
      false-true false-true false-true false-true false-true (λ e. refl);
  noisy = below-three (λ j. Noisy board j)
      (1, omega arith, refl, refl) (2, omega arith, refl, refl) (0, omega arith, refl, refl);
}

five-struck : struck board 3 ≡ 5
unfolding after met_test link_test end_test on all tally bit from_at kind_at to_at
five-struck = refl

left-after-three : Alike worked (after board 3) (on last_shape)
unfolding after met_test link_test end_test on all tally bit from_at kind_at to_at
left-after-three = below-six (λ p. after board 3 p ≡ on last_shape p) refl refl refl refl refl refl

largest-here : Largest worked 4 5 (on last_shape)
unfolding four-rounds
largest-here = subst (λ (m : ℕ). Largest worked 4 m (on last_shape)) five-struck
    (largest-of stands four-rounds (on last_shape) left-after-three)

last-shape-typing : Typing worked last_shape
last-shape-typing = record {
  full = refl;
  bytes = below-six (λ p. (get_or last_shape p 0 ≡ 0) ⊎ (get_or last_shape p 0 ≡ 1))
      (inl refl) (inl refl) (inl refl) (inl refl) (inl refl) (inr refl);
}

two-bare : 2 ≡ bare_cards worked (on last_shape)
unfolding bare_cards linked from_at to_at bare tally bit on
two-bare = refl

pub largest-found : LargestFound worked last_shape largest_answer
largest-found = record {
  rounds = 4;
  struck = 5;
  bare = 2;
  says = refl;
  typing = last-shape-typing;
  largest = largest-here;
  counted = two-bare;
}

largest-asked : (before : List ℕ) → length before ≡ 6 → largest_reading template script before ≡ accepted worked
largest-asked before l = rw (worked-read, l) refl

-- The right answer of "Largest" is allowed.
pub worked-largest : (before : List ℕ) → length before ≡ 6
    → LargestSays template script before last_shape largest_answer
worked-largest before l =
    rw (largest-asked before l) largest-found

-- ---- closures
-- Just the pair of card c and shape u is booked.
pub record Just (Wanted : ℕ → ℕ → Type 0) (c u : ℕ) : Type 0 where
  pub some : Wanted c u
  pub only : (n t : ℕ) → Wanted n t → (n ≡ c) × (t ≡ u)

just-inside : {Wanted : ℕ → ℕ → Type 0} {c u : ℕ} → Just Wanted c u → c < 3 → u < 2 → BookedIn worked Wanted
just-inside just lc lu n t b = let (e, f) = just.only n t b in (omega (arith, e), omega (arith, f))

-- A list of one booking books just that pair for its desk, and nothing for the other.
module _ (d c u : ℕ) where
  one_of : (e n t : ℕ) → Booked (1 ∷ d ∷ c ∷ u ∷ []) e n t → (e ≡ d) × (n ≡ c) × (t ≡ u)
  unfolding desk_at card_at shape_at
  one_of e n t b = at b.booking b.listed b.ours b.card b.shape
    where
      at : (i : ℕ) → i < 1 → desk_at (1 ∷ d ∷ c ∷ u ∷ []) i ≡ e → card_at (1 ∷ d ∷ c ∷ u ∷ []) i ≡ n
          → shape_at (1 ∷ d ∷ c ∷ u ∷ []) i ≡ t → (e ≡ d) × (n ≡ c) × (t ≡ u)
      at zero l o e f = (sym o, sym e, sym f)
      at (suc i) l o e f = absurd (omega arith)

  pub one-just : Just (Booked (1 ∷ d ∷ c ∷ u ∷ []) d) c u
  unfolding desk_at card_at shape_at
  one-just = record {
    some = record { booking = 0; listed = omega arith; ours = refl; card = refl; shape = refl };
    only = λ n t b. let (_, card, shape) = one_of d n t b in (card, shape);
  }

  pub one-other : (e : ℕ) → (e ≡ d → ⊥) → (n t : ℕ) → Booked (1 ∷ d ∷ c ∷ u ∷ []) e n t → ⊥
  one-other e ne n t b = ne (one_of e n t b).0

-- A list with a booking of each desk books just that pair for it.
module _ (c u m v : ℕ) where
  abbrev two : List ℕ
  two = 2 ∷ 0 ∷ c ∷ u ∷ 1 ∷ m ∷ v ∷ []

  pub two-radio : Just (Booked two 0) c u
  unfolding desk_at card_at shape_at
  two-radio = record {
    some = record { booking = 0; listed = omega arith; ours = refl; card = refl; shape = refl };
    only = λ n t b. at n t b.booking b.listed b.ours b.card b.shape;
  }
    where
      at : (n t i : ℕ) → i < 2 → desk_at two i ≡ 0 → card_at two i ≡ n → shape_at two i ≡ t → (n ≡ c) × (t ≡ u)
      at n t zero l o e f = (sym e, sym f)
      at n t (suc zero) l o e f = absurd (omega (arith, o))
      at n t (suc (suc i)) l o e f = absurd (omega arith)

  pub two-television : Just (Booked two 1) m v
  unfolding desk_at card_at shape_at
  two-television = record {
    some = record { booking = 1; listed = omega arith; ours = refl; card = refl; shape = refl };
    only = λ n t b. at n t b.booking b.listed b.ours b.card b.shape;
  }
    where
      at : (n t i : ℕ) → i < 2 → desk_at two i ≡ 1 → card_at two i ≡ n → shape_at two i ≡ t → (n ≡ m) × (t ≡ v)
      at n t zero l o e f = absurd (omega (arith, o))
      at n t (suc zero) l o e f = (sym e, sym f)
      at n t (suc (suc i)) l o e f = absurd (omega arith)

-- Counts that fit everywhere: then a pair is met under a set just where the set has all that the pair asks for.
abbrev anywhere : List ℕ
anywhere = 1 ∷ 1 ∷ 1 ∷ 1 ∷ 1 ∷ 1 ∷ []

-- With the pair at p the set has all that it asks for.
abbrev goes_on : Pairs → ℕ → Bool
goes_on X p = not (X p) || met_test script names 2 anywhere X p

-- A set that has the booking and goes on from each of its pairs has the closure.
module _ {Wanted : ℕ → ℕ → Type 0} {c v : ℕ} (just : Just Wanted c v) (lc : c < 3) (lv : v < 2) (X : Pairs)
    (has : Has worked X c v) (on-and-on : all (goes_on X) 6 ≡ true) where
  has-closure : {n t : ℕ} → Closure worked Wanted n t → Has worked X n t
  has-closure (booked {n} {t} b) =
      let (e, f) = just.only n t b in
      subst₂ (λ (x y : ℕ). Has worked X x y) (sym e) (sym f) has
  has-closure (follow {n} {t} {u} k way i l s d) =
      let (ln, lt) = closure-in stands (just-inside just lc lv) k in
      let p = place worked n t in
      let q = place worked (far_at way script i) u in
      let asked = (stands.needs-exact n t q ln lt).1
      (record { way = way; link = i; shape = u; below = l; starts = s; declares = d; leads = refl }) in
      let here = has-closure k in
      let met = ⊎_elim (λ e. never_both here (false_of_not e)) (λ m. m) (or_cases (not (X p))
      (met_test script names 2 anywhere X p) (all-at (goes_on X) 6 on-and-on p (pair-in stands n t ln lt))) in
      (board-lawful (ready read names names-tabled names-room) anywhere).met-dep X p q met asked

-- The closure of (2, 1) is that pair alone: card 2 has no links.
met-closure : {Wanted : ℕ → ℕ → Type 0} → Just Wanted 2 1 → IsClosure worked Wanted (on last_shape)
unfolding met_test link_test end_test on all tally bit from_at kind_at to_at
met-closure {Wanted} just = record {
  has = λ n t. has-closure just (omega arith) (omega arith) (on last_shape) refl refl;
  only = each-pair (λ n t. on last_shape (place worked n t) ≡ true → Closure worked Wanted n t)
      false-true false-true false-true false-true false-true (λ e. booked just.some);
}

-- The closure of (0, 0): with it (2, 1) and (1, 0), and with (1, 0) the pair (0, 1).
abbrev reached : List ℕ
reached = 1 ∷ 1 ∷ 1 ∷ 0 ∷ 0 ∷ 1 ∷ []

module _ {Wanted : ℕ → ℕ → Type 0} (just : Just Wanted 0 0) where
  abbrev Reached : ℕ → ℕ → Type 0
  Reached n t = Closure worked Wanted n t

  from-booking : Reached 0 0
  from-booking = booked just.some

  by-link-0 : Reached 2 1
  unfolding from_at kind_at to_at
  by-link-0 = follow from-booking outgoing 0 (omega arith) refl (inl (refl, refl))

  by-link-1 : Reached 1 0
  unfolding from_at kind_at to_at
  by-link-1 = follow from-booking outgoing 1 (omega arith) refl (inr (inl (refl, refl)))

  by-link-2 : Reached 0 1
  unfolding from_at kind_at to_at
  by-link-2 = follow by-link-1 outgoing 2 (omega arith) refl (inl (refl, refl))

  unmet-closure : IsClosure worked Wanted (on reached)
  unfolding met_test link_test end_test on all tally bit from_at kind_at to_at
  unmet-closure = record {
    has = λ n t. has-closure just (omega arith) (omega arith) (on reached) refl refl;
    only = each-pair (λ n t. on reached (place worked n t) ≡ true → Reached n t)
        (λ e. from-booking) (λ e. by-link-2) (λ e. by-link-1) false-true false-true (λ e. by-link-0);
  }

-- ---- the smallest typing
one-pair : 1 ≡ tally (on last_shape) 6
unfolding tally bit on
one-pair = refl

-- Every pair of the closure of (2, 1) is met: the largest typing has the same pairs, and is sound.
pub smallest-found : {Wanted : ℕ → ℕ → Type 0} → Just Wanted 2 1
    → SmallestFound worked Wanted last_shape smallest_answer
smallest-found just = record {
  outcome = pairs 1;
  says = refl;
  leaves = record {
    typing = last-shape-typing;
    closure = met-closure just;
    met = λ n t c.
        let (ln, lt) = closure-in stands (just-inside just (omega arith) (omega arith)) c in
        largest-here.last n t ln lt ((met-closure just).has n t c);
    counted = one-pair;
  };
}

-- Where nothing is booked there are no pairs.
no_pairs : 0 ≡ tally (on no_shapes) 6
unfolding tally bit on
no_pairs = refl

pub none_found : {Wanted : ℕ → ℕ → Type 0} → ((n t : ℕ) → Wanted n t → ⊥)
    → SmallestFound worked Wanted no_shapes none_answer
unfolding on
none_found {Wanted} never = record {
  outcome = pairs 0;
  says = refl;
  leaves = record {
    typing = record {
      full = refl;
      bytes = below-six (λ p. (get_or no_shapes p 0 ≡ 0) ⊎ (get_or no_shapes p 0 ≡ 1))
          (inl refl) (inl refl) (inl refl) (inl refl) (inl refl) (inl refl);
    };
    closure = record {
      has = λ n t c. absurd (closure-empty worked (omega arith) never c);
      only = each-pair (λ n t. on no_shapes (place worked n t) ≡ true → Closure worked Wanted n t)
          false-true false-true false-true false-true false-true false-true;
    };
    met = λ n t c. absurd (closure-empty worked (omega arith) never c);
    counted = no_pairs;
  };
}

-- (0, 1) asks that card 0 has no links, but it has; the pair below it, (0, 0), is met.
unmet-computed : board.met (on reached) 1 ≡ false
unfolding met_test link_test end_test on all tally bit from_at kind_at to_at
unmet-computed = refl

met-computed : board.met (on reached) 0 ≡ true
unfolding met_test link_test end_test on all tally bit from_at kind_at to_at
met-computed = refl

pub not-met-found : {Wanted : ℕ → ℕ → Type 0} → Just Wanted 0 0 → SmallestFound worked Wanted no_shapes not_met_answer
not-met-found just = record {
  outcome = not_met 0 1;
  says = refl;
  leaves = record {
    zeros = refl;
    set = on reached;
    closure = unmet-closure just;
    inside = by-link-2 just;
    unmet = λ m. never_both ((stands.met-exact (on reached) 0 1 (omega arith) (omega arith)).1 m) unmet-computed;
    lowest = λ m u c l.
        let first : Met worked (on reached) 0 0 =
        (stands.met-exact (on reached) 0 0 (omega arith) (omega arith)).0 met-computed in
        let card : 0 ≡ m = omega arith in
        let shape : 0 ≡ u = omega arith in
        subst₂ (λ (x y : ℕ). Met worked (on reached) x y) card shape first;
  };
}

-- The files are read for each desk.
pub listed-asked : (bookings : List ℕ) (desk : ℕ) → listed_reading template script bookings ≡ accepted worked →
    desk ≤ 1
    → (before : List ℕ) → length before ≡ 6 → smallest_reading template script bookings desk before ≡ accepted worked
listed-asked bookings desk listed ours before full =
    grid-taken before (booked_reading template script bookings desk) worked
    (desk-taken desk (listed_reading template script bookings) worked listed ours) full

pub met-listed : listed_reading template script met_bookings ≡ accepted worked
unfolding read_list read_each repeated booked_before desk_at card_at shape_at
met-listed = rw worked-read refl

pub unmet-listed : listed_reading template script unmet_bookings ≡ accepted worked
unfolding read_list read_each repeated booked_before desk_at card_at shape_at
unmet-listed = rw worked-read refl

pub both-unmet-listed : listed_reading template script both_unmet ≡ accepted worked
unfolding read_list read_each repeated booked_before desk_at card_at shape_at
both-unmet-listed = rw worked-read refl

-- What was found for a desk may be said.
pub smallest-allowed : (bookings : List ℕ) (desk : ℕ) → listed_reading template script bookings ≡ accepted worked
    → desk ≤ 1 → (before after : List ℕ) (said : Said) → length before ≡ 6
    → SmallestFound worked (Booked bookings desk) after said
    → SmallestSays template script bookings desk before after said
smallest-allowed bookings desk listed ours before after said full found =
    rw (listed-asked bookings desk listed ours before full) found

-- The right answers of "Smallest" are allowed.
pub worked-smallest : (before : List ℕ) → length before ≡ 6
    → SmallestSays template script met_bookings 0 before last_shape smallest_answer
worked-smallest before l =
    smallest-allowed met_bookings 0 met-listed (omega arith) before last_shape smallest_answer l
    (smallest-found (one-just 0 2 1))

pub worked-not-met : (before : List ℕ) → length before ≡ 6
    → SmallestSays template script unmet_bookings 0 before no_shapes not_met_answer
worked-not-met before l =
    smallest-allowed unmet_bookings 0 unmet-listed (omega arith) before no_shapes not_met_answer l
    (not-met-found (one-just 0 0 0))

pub worked-none : (before : List ℕ) → length before ≡ 6
    → SmallestSays template script met_bookings 1 before no_shapes none_answer
worked-none before l =
    smallest-allowed met_bookings 1 met-listed (omega arith) before no_shapes none_answer l
    (none_found (one-other 0 2 1 1 (λ e. absurd (omega (arith, e)))))

-- ---- both
both-asked : (bookings : List ℕ) (desk : ℕ) (before : Grids) → length before.large ≡ 6
    → smallest_reading template script bookings desk before.small ≡ accepted worked
    → both_reading template script bookings desk before ≡ accepted worked
both-asked bookings desk before l e = rw (e, l) refl

-- The bookings of a list that is read are in the sheet.
pub all-inside : (bookings : List ℕ) → listed_reading template script bookings ≡ accepted worked
    → (desk : ℕ) → BookedIn worked (Booked bookings desk)
all-inside bookings listed = (list-asked bookings (read_sheet template script) worked listed).1

-- The right answers of "Both" are allowed: each grid and each answer is that of its own call.
pub worked-both : (before : Grids) → length before.small ≡ 6 → length before.large ≡ 6
    → BothSays template script met_bookings 0 before (record { small = last_shape; large = last_shape })
    (record { largest = largest_answer; smallest = smallest_answer })
worked-both before small large =
    rw (both-asked met_bookings 0 before large
    (listed-asked met_bookings 0 met-listed (omega arith) before.small small))
    (both_found stands (just-inside (one-just 0 2 1) (omega arith) (omega arith)) largest-found
    (smallest-found (one-just 0 2 1)))

pub worked-both-none : (before : Grids) → length before.small ≡ 6 → length before.large ≡ 6
    → BothSays template script met_bookings 1 before (record { small = no_shapes; large = last_shape })
    (record { largest = largest_answer; smallest = none_answer })
worked-both-none before small large =
    rw (both-asked met_bookings 1 before large
    (listed-asked met_bookings 1 met-listed (omega arith) before.small small))
    (both_found stands (all-inside met_bookings met-listed 1) largest-found
    (none_found (one-other 0 2 1 1 (λ e. absurd (omega (arith, e))))))

pub worked-both-not-met : (before : Grids) → length before.small ≡ 6 → length before.large ≡ 6
    → BothSays template script unmet_bookings 0 before (record { small = no_shapes; large = last_shape })
    (record { largest = largest_answer; smallest = not_met_answer })
worked-both-not-met before small large =
    rw (both-asked unmet_bookings 0 before large
    (listed-asked unmet_bookings 0 unmet-listed (omega arith) before.small small))
    (both_found stands (just-inside (one-just 0 0 0) (omega arith) (omega arith)) largest-found
    (not-met-found (one-just 0 0 0)))

-- ---- both desks
-- What follows from each desk's bookings is found together with the largest.
pub together : {bookings : List ℕ} {radio television : List ℕ} {a b : Said}
    → ((desk : ℕ) → BookedIn worked (Booked bookings desk))
    → SmallestFound worked (Booked bookings 0) radio a → SmallestFound worked (Booked bookings 1) television b
    → DesksFound worked bookings (record { radio = radio; television = television; large = last_shape })
    (record { largest = largest_answer; radio = a; television = b })
together inside r t = record {
  radio = both_found stands (inside 0) largest-found r;
  television = both_found stands (inside 1) largest-found t;
}

-- The right answer of the call for both desks is allowed.
pub worked-desks : (before : DeskGrids) → length before.radio ≡ 6 → length before.television ≡ 6
    → length before.large ≡ 6 → DesksSays template script met_bookings before
    (record { radio = last_shape; television = no_shapes; large = last_shape })
    (record { largest = largest_answer; radio = smallest_answer; television = none_answer })
worked-desks before radio television large =
    rw (met-listed, radio, television, large)
    (together (all-inside met_bookings met-listed) (smallest-found (one-just 0 2 1))
    (none_found (one-other 0 2 1 1 (λ e. absurd (omega (arith, e))))))
