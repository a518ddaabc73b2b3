-- What follows from a desk's bookings is its smallest typing, or 50.
--   closure-full                  what follows has the sheet's size
--   met-found, unmet-found        the answer where each pair that follows fits, and where one does not
--   both-of-found                 the two answers together are that of the call for both
-- Assumes nothing.
use Prim.Native.Nat.{ℕ, ◌+◌, ◌*◌, ◌<◌}
use mathlib.Core.Path.{◌≡◌, refl, sym, ap, ap₂, ◌∙◌, subst}
use mathlib.Core.List.{List, [], ◌∷◌}
use native.Mathlib.Omega.{arith}
use lib.ListN.{length, replicate}
use Rattle.std.proofs.Common.{Option, Some, None}
use Rattle.words.specs.Said.{values, refusal}
use Rattle.words.specs.Reading.{accepted}
use Rattle.words.specs.declared.Shape.{Shape}
use Rattle.words.specs.declared.Card.{Card}
use Rattle.board.specs.Grid.{on}
use Rattle.board.specs.Machine.{FirstMissing}
use Rattle.board.specs.Board.{Flooded}
use Rattle.board.proofs.Closure.{flooded-books}
use Rattle.sheet.specs.Sheet.{Sheet, size}
use Rattle.sheet.specs.declared.Extent.{Extent}
use Rattle.bookings.specs.Bookings.{read_bookings, card_at, shape_at, Booked}
use Rattle.bookings.proofs.Accepted.{bookings-in, bookings-count}
use Rattle.typing.specs.Needs.{board_of}
use Rattle.typing.specs.Answer.{BothSaid}
use Rattle.typing.specs.Calls.{LargestFound, SmallestFound, BothFound}
use Rattle.typing.proofs.Smallest.{PlaceOf, BookedIn, pairs-found, not-met-found}
use Rattle.typing.proofs.Demand.{both_found}
use Rattle.closure.specs.Closing.{BookedAt, Closes, UnfitFound}
use Rattle.pairs.specs.Pairs.{SheetTested}
use Rattle.lent.proofs.KnownSheet.{read}
use Rattle.pairs.proofs.Tested.{cards-same, shapes-same, stands}

module _ {s : Sheet} {script names : List ℕ} {e : Extent} {grid : List ℕ} (t : SheetTested s script names e grid)
    (bookings : List ℕ) (desk : ℕ) {count : ℕ}
    (list : read_bookings e.cards e.shapes bookings ≡ accepted count) where
  listed : read_bookings s.cards s.shapes bookings ≡ accepted count
  listed = rw (cards-same t, shapes-same t) list

  booked-in : BookedIn s (Booked bookings desk)
  booked-in n u b = bookings-in s.cards s.shapes bookings count listed n u b

  -- the places of the bookings
  booked-place : (p : ℕ) → BookedAt bookings desk e.shapes count p → PlaceOf s (Booked bookings desk) p
  booked-place p b = record {
    card = card_at bookings b.booking;
    shape = shape_at bookings b.booking;
    pair = record {
      booking = b.booking;
      listed = omega (arith, b.listed, bookings-count e.cards e.shapes bookings count list);
      ours = b.ours;
      card = refl;
      shape = refl;
    };
    at = rw (shapes-same t) b.at;
  }

  place-booked : (p : ℕ) → PlaceOf s (Booked bookings desk) p → BookedAt bookings desk e.shapes count p
  place-booked p b = record {
    booking = b.pair.booking;
    listed = omega (arith, b.pair.listed, bookings-count e.cards e.shapes bookings count list);
    ours = b.pair.ours;
    at =
        rw (shapes-same t) at b.at
        ∙ sym (ap₂ (λ (n u : ℕ). n * e.shapes + u) b.pair.card b.pair.shape);
  }

  -- both answers
  pub both-of-found : {small large : List ℕ} {said : BothSaid}
      → LargestFound s large said.largest → SmallestFound s (Booked bookings desk) small said.smallest
      → BothFound s (Booked bookings desk) small large said
  both-of-found l m = both_found (stands t) booked-in l m

  module _ {closure : List ℕ} {found : ℕ}
      (closes : Closes script names e.shapes bookings desk count closure found) where
    flooded : Flooded (board_of script names e.shapes grid) (PlaceOf s (Booked bookings desk)) (on closure) found
    flooded = flooded-books booked-place place-booked (closes.closure grid)

    pub closure-full : length closure ≡ e.cards * e.shapes
    closure-full = closes.full ∙ ap (λ (n : ℕ). n * e.shapes) (sym (read t.known).links.cards)

    sized : length closure ≡ size s
    sized = rw (cards-same t, shapes-same t) closure-full

    -- every pair of the closure fits: it is the smallest typing
    pairs-by : FirstMissing closure grid (length closure)
        → SmallestFound s (Booked bookings desk) closure (values (found ∷ []))
    pairs-by none =
        pairs-found (stands t) booked-in flooded closure
        (record { full = sized; bytes = λ p l. closes.marks p (omega (arith, sized)) })
        (λ p l. refl) (λ p l h. none.before p (omega (arith, sized)) h)

    -- the lowest that does not fit is 50's
    not-met-by : (n u : ℕ) → u < s.shapes → n * s.shapes + u < length closure
        → FirstMissing closure grid (n * s.shapes + u)
        → SmallestFound s (Booked bookings desk) (replicate (length closure) 0) (refusal 50 (n ∷ u ∷ []))
    not-met-by n u lu l first =
        let (here, off) = first.missing l in
        rw sized (not-met-found (stands t) booked-in flooded n u lu (omega (arith, sized)) here off
        (λ r lr h. first.before r lr h))

    -- the answer by the verdict on the closure's pairs
    module _ {after : List ℕ} {v : Option (Card × Shape)} (judged : UnfitFound closure grid e.shapes after v) where
      pub met-found : v ≡ None → SmallestFound s (Booked bookings desk) after (values (found ∷ []))
      met-found h =
          let (same, none) = subst (UnfitFound closure grid e.shapes after) h judged in
          subst (λ (g : List ℕ). SmallestFound s (Booked bookings desk) g (values (found ∷ []))) (sym same)
          (pairs-by none)

      pub unmet-found : {card : Card} {shape : Shape} → v ≡ Some (card, shape)
          → SmallestFound s (Booked bookings desk) after (refusal 50 (card.0 ∷ shape.0 ∷ []))
      unmet-found {card} {shape} h =
          let (same, first, inside, small) =
          rw (sym (shapes-same t)) at (subst (UnfitFound closure grid e.shapes after) h judged) in
          subst (λ (g : List ℕ). SmallestFound s (Booked bookings desk) g (refusal 50 (card.0 ∷ shape.0 ∷ [])))
          (sym same)
          (not-met-by card.0 shape.0 small inside first)
