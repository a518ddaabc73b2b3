-- A grid tested as it is: whether it has what a link makes good; whether a pair is met; whether a booking is held.
--   link-nothing, link-named, link-both   by the entry that is read for the link: 0, or the pair that it names
--   pair-in, card-here     a pair is one of the sheet, and so is its card
--   unfit-unmet            a pair whose counts do not fit is not met
--   met-by-needs           one whose counts fit is met if the grid has what it needs
--   leaving-asked, arriving-asked   what testing the links from its card, and those to it, asks
--   unmet-from, met-from, met-both  one whose counts fit, by what these tests find
--   booking-asked          what looking for one of the bookings asks
--   first-found            what a search through the numbers below an end finds
-- Assumes nothing.
use mathlib.Core.Path.{◌≡◌, refl, sym, ap, subst}
use mathlib.Core.Logic.{◌↔◌}
use mathlib.Core.List.{List}
use mathlib.Core.Bool.{Bool, true, false}
use Prim.Native.Nat.{ℕ, suc, ◌+◌, ◌-◌, ◌*◌, ◌/◌, ◌%◌, ◌≤◌, ◌<◌}
use native.Mathlib.Omega.{arith}
use lib.ListN.{length, get_or, take, drop}
use Rattle.std.specs.Prelude.{Option, Some, None, MatchOption}
use Rattle.words.specs.First.{FirstFound}
use Rattle.words.specs.Limits.{max_kinds, max_labels}
use Rattle.words.proofs.Bools.{false-true, never_both, is_false, bools-equal}
use Rattle.words.proofs.Places.{place_in, card-in, shape-in}
use Rattle.bags.specs.Label.{Way, outgoing, incoming}
use Rattle.script.specs.Link.{kind_at, far_at}
use Rattle.board.specs.Grid.{on}
use Rattle.bookings.specs.Bookings.{card_at, shape_at}
use Rattle.bookings.proofs.Accepted.{words-in}
use Rattle.typing.specs.Needs.{Needs, Ready}
use Rattle.typing.proofs.Boards.{board-lawful}
use Rattle.walks.specs.Walks.{Leaving, Arriving, HasAll}
use Rattle.walks.proofs.Entries.{one-named, had-nothing, had-named}
use Rattle.walks.proofs.Needs.{Half, half-row, row-asked, range-rising, range-in, arrivals-at}
use Rattle.walks.proofs.Following.{had-first, had-out, had-both}
use Rattle.judging.specs.Judging.{LinkGood, LeavingTested, ArrivingTested, met, MetAsked, PairAsked, HeldAsked}
use Rattle.judging.specs.declared.Judged.{Judged}

-- ---- a link, by its kind and the card at its end as they are read
module _ (way : Way) (j : Judged) (row : List ℕ) (i : ℕ) {kind card : ℕ} (same : kind ≡ kind_at j.walk.script.now i)
    (leads : card ≡ far_at way j.walk.script.now i) where
  entry-is : get_or row kind 0 ≡ get_or row (kind_at j.walk.script.now i) 0
  entry-is = ap (λ (k : ℕ). get_or row k 0) same

  base-is : card * j.walk.shapes ≡ far_at way j.walk.script.now i * j.walk.shapes
  base-is = ap (λ (n : ℕ). n * j.walk.shapes) leads

  pub link-nothing : get_or row kind 0 ≡ 0 → HasAll (on j.grid.now) (LinkGood way j row i)
  link-nothing z = had-nothing entry-is (on j.grid.now) z

  module _ {shape : ℕ} (e : get_or row kind 0 ≡ suc shape) where
    pub link-named : LinkGood way j row i (card * j.walk.shapes + shape)
    link-named = subst (LinkGood way j row i) (omega (arith, base-is, e)) (one-named entry-is (omega (arith, e)))

    pub link-both : (on j.grid.now (card * j.walk.shapes + shape) ≡ true) ↔ HasAll (on j.grid.now) (LinkGood way j row
        i)
    link-both =
        subst (λ (p : ℕ). (on j.grid.now p ≡ true) ↔ HasAll (on j.grid.now) (LinkGood way j row i))
        (omega (arith, base-is, e)) (had-named entry-is (on j.grid.now) (omega (arith, e)))

-- ---- a pair
module _ {j : Judged} {p : ℕ} (asked : MetAsked j p) where
  -- its script and its table of names fit together
  ready : Ready j.walk.script.now j.walk.names.now j.walk.shapes
  ready = asked.lent.links.ready

  -- it is one of the sheet, and so is its card
  pub pair-in : p < get_or j.walk.script.now 0 0 * j.walk.shapes
  pair-in = omega (arith, asked.on-board, asked.lent.full)

  pub card-here : p / j.walk.shapes < get_or j.walk.script.now 0 0
  card-here = card-in j.walk.shapes ready.one-shape (get_or j.walk.script.now 0 0) p pair-in

  -- its shape has a row in the table, of two halves
  shape-here : p % j.walk.shapes < j.walk.shapes
  shape-here = shape-in j.walk.shapes ready.one-shape p

  row-here : p % j.walk.shapes * max_labels + max_labels ≤ length j.walk.names.now
  row-here = omega (arith, shape-here, ready.table)

  abbrev half : ℕ → List ℕ
  half base = take (base + max_kinds - base) (drop base j.walk.names.now)

  abbrev out : List ℕ
  out = half (p % j.walk.shapes * max_labels)

  abbrev back : List ℕ
  back = half (p % j.walk.shapes * max_labels + max_kinds)

  out-half : Half j.walk.names.now (p % j.walk.shapes) outgoing out
  out-half = half-row j.walk.names.now (p % j.walk.shapes) outgoing _ _ (omega arith) (omega arith) (omega (
    arith,
    row-here,
  ))

  back-half : Half j.walk.names.now (p % j.walk.shapes) incoming back
  back-half = half-row j.walk.names.now (p % j.walk.shapes) incoming _ _ (omega arith) (omega arith) (omega (
    arith,
    row-here,
  ))

  pub arriving-asked : j.walk.incoming ≡ true → ArrivingTested j back (p / j.walk.shapes)
  arriving-asked some = record {
    row_in = row-asked ready shape-here back-half asked.lent.full;
    arrivals = arrivals-at (asked.lent.links.arriving some) card-here;
  }

  -- it is not met if its counts do not fit
  pub unfit-unmet : on j.fitting.now p ≡ false → false ≡ met j p
  unfit-unmet off =
      sym (is_false (λ e. never_both ((board-lawful ready j.fitting.now).met-ok (on j.grid.now) p e) off))

  -- its counts fit, so it is met exactly if the grid has what it needs
  pub met-by-needs : on j.fitting.now p ≡ true → {r : Bool} → (r ≡ true) ↔ HasAll (on j.grid.now)
      (Needs j.walk.script.now j.walk.names.now j.walk.shapes p) → r ≡ met j p
  met-by-needs fit exact =
      let lawful = board-lawful ready j.fitting.now in
      bools-equal
      (λ e. lawful.met_of (on j.grid.now) p fit (exact.0 e))
      (λ e. is_false (λ m. never_both (exact.1 (λ q d. lawful.met-dep (on j.grid.now) p q m d)) e))

  module _ {lo hi : ℕ} (low : lo ≡ get_or j.walk.starts.now (p / j.walk.shapes) 0)
      (high : hi ≡ get_or j.walk.starts.now (p / j.walk.shapes + 1) 0) where
    pub leaving-asked : LeavingTested j out lo hi
    leaving-asked = record {
      row_in = row-asked ready shape-here out-half asked.lent.full;
      rising = range-rising asked.lent.links.leaving card-here low high;
      links-in = range-in asked.lent.links.leaving card-here low high;
    }

    module _ (fit : on j.fitting.now p ≡ true) where
      module _ {r : Bool}
          (exact : (r ≡ true) ↔ HasAll (on j.grid.now) (Leaving (LinkGood outgoing j out) lo hi)) where
        pub unmet-from : r ≡ false → false ≡ met j p
        unmet-from off = met-by-needs fit (
          false-true,
          λ had. never_both
              (exact.1 (had-first ready asked.lent.links.leaving pair-in low high out-half had)) off,
        )

        pub met-from : r ≡ true → j.walk.incoming ≡ false → true ≡ met j p
        met-from all none =
            let only = had-out ready asked.lent.links.leaving pair-in low high out-half (asked.lent.links.ways none) in
            met-by-needs fit (λ _. only.0 (exact.0 all), λ _. refl)

        pub met-both : r ≡ true → {b : Bool}
            → (b ≡ true) ↔ HasAll (on j.grid.now) (Arriving j.walk.script.now (p / j.walk.shapes) (LinkGood incoming j
            back))
            → b ≡ met j p
        met-both all other =
            let both = had-both ready asked.lent.links.leaving pair-in low high out-half back-half in
            met-by-needs fit (λ e. both.0 (exact.0 all, other.0 e), λ had. other.1 (both.1 had).1)

-- ---- the bookings
-- What looking for booking i asks.
pub booking-asked : {bookings : List ℕ} {count shapes i : ℕ} {grid : List ℕ} → HeldAsked bookings count shapes grid
    → i < count → PairAsked bookings i shapes grid
booking-asked {bookings} {count} {shapes} {i} asked below =
    let (card-in, shape-in) = asked.booked-in i below in
    record {
      words = words-in asked.sized below;
      few-shapes = asked.few-shapes;
      inside = omega (
        arith,
        place_in asked.cards shapes (card_at bookings i) (shape_at bookings i) card-in shape-in,
        asked.full,
      );
    }

-- ---- the first of the numbers below an end with a fault, as a search through them finds it
pub first-found : (Fault : ℕ → Type 0) (end : ℕ) (found : Option ℕ)
    → MatchOption found ((q : ℕ) → 0 ≤ q → q < end → Fault q → ⊥)
    (λ p. (0 ≤ p) × (p < end) × Fault p × ((q : ℕ) → 0 ≤ q → q < p → Fault q → ⊥))
    → FirstFound Fault end found
first-found Fault end None none =
    record { within = omega arith; before = λ q l f. none q (omega arith) l f; here = λ l. absurd (omega arith) }
first-found Fault end (Some p) (z, below, here, before) =
    (below, record { within = omega arith; before = λ q l f. before q (omega arith) l f; here = λ _. here })
