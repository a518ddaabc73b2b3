-- What one desk books changes nothing for the other.
--   asked, both-asked   what is lent is accepted for a desk and grids of the sheet's size, where the list is
--   desks-apart-set   two lists that are accepted and book the same pairs for a desk: whatever the grids held, the desk
--                     has one smallest typing, or one 50, in answer and grid
--   desks-apart       so it is where the words of the desk's bookings are the same, in the same order
--   desks-apart-both-set, desks-apart-both   the same of the call for both typings
-- Assumes nothing.
use Prim.Native.Nat.{ℕ, ◌≤◌}
use mathlib.Core.Path.{◌≡◌}
use mathlib.Core.Logic.{◌↔◌}
use mathlib.Core.List.{List}
use lib.ListN.{length}
use Rattle.words.specs.Said.{Said}
use Rattle.words.specs.Reading.{accepted}
use Rattle.sheet.specs.Sheet.{Sheet, size, read_sheet}
use Rattle.bookings.specs.Bookings.{Booked, desk_words}
use Rattle.bookings.proofs.Desks.{desk-words-booked}
use Rattle.typing.specs.Answer.{BothSaid}
use Rattle.typing.specs.Calls.{listed_reading, booked_reading, smallest_reading, both_reading, SmallestFound}
use Rattle.typing.specs.Calls.{SmallestSays, Grids, BothFound, BothSays}
use Rattle.typing.proofs.Booked.{list-asked, desk-taken, grid-taken}
use Rattle.typing.proofs.Existence.{represented}
use Rattle.typing.proofs.SamePairs.{smallest-found-same}
use Rattle.typing.proofs.Unique.{smallest-found-unique, largest-found-unique, saids-unique, grids-unique}

-- A list that is accepted, for a desk and with grids of the sheet's size.
module _ (template script list : List ℕ) (s : Sheet) (taken : listed_reading template script list ≡ accepted s)
    (desk : ℕ) (ours : desk ≤ 1) where
  pub asked : (grid : List ℕ) → length grid ≡ size s → smallest_reading template script list desk grid ≡ accepted s
  asked grid full =
      grid-taken grid (booked_reading template script list desk) s
      (desk-taken desk (listed_reading template script list) s taken ours) full

  pub both-asked : (grids : Grids) → length grids.small ≡ size s → length grids.large ≡ size s
      → both_reading template script list desk grids ≡ accepted s
  both-asked grids small large =
      grid-taken grids.large (smallest_reading template script list desk grids.small) s
      (asked grids.small small) large

module _ (template script : List ℕ) (desk : ℕ) (ours : desk ≤ 1) (one other : List ℕ) (s : Sheet)
    (one-taken : listed_reading template script one ≡ accepted s)
    (other-taken : listed_reading template script other ≡ accepted s) where
  -- the sheet, and what was found of it by each list
  read : read_sheet template script ≡ accepted s
  read = (list-asked one (read_sheet template script) s one-taken).0

  module _ (same : (n t : ℕ) → Booked one desk n t ↔ Booked other desk n t) where
    found-one : {g h : List ℕ} {a b : Said} → SmallestFound s (Booked one desk) g a
        → SmallestFound s (Booked other desk) h b → (a ≡ b) × (g ≡ h)
    found-one {g} {h} {a} {b} x y =
        smallest-found-unique (represented template script s read).1
        ((list-asked other (read_sheet template script) s other-taken).1 desk)
        (smallest-found-same s (λ n t. (same n t).0) (λ n t. (same n t).1) g a x) y

    pub desks-apart-set : (before begun g h : List ℕ) (a b : Said) → length before ≡ size s → length begun ≡ size s
        → SmallestSays template script one desk before g a → SmallestSays template script other desk begun h b
        → (a ≡ b) × (g ≡ h)
    desks-apart-set before begun g h a b full filled x y =
        let first : SmallestFound s (Booked one desk) g a =
        rw (asked template script one s one-taken desk ours before full) at x in
        let second : SmallestFound s (Booked other desk) h b =
        rw (asked template script other s other-taken desk ours begun filled) at y in
        found-one first second

    pub desks-apart-both-set : (before begun g h : Grids) (a b : BothSaid)
        → length before.small ≡ size s → length before.large ≡ size s
        → length begun.small ≡ size s → length begun.large ≡ size s
        → BothSays template script one desk before g a → BothSays template script other desk begun h b
        → (a ≡ b) × (g ≡ h)
    desks-apart-both-set before begun g h a b small large small' large' x y =
        let first : BothFound s (Booked one desk) g.small g.large a =
        rw (both-asked template script one s one-taken desk ours before small large) at x in
        let second : BothFound s (Booked other desk) h.small h.large b =
        rw (both-asked template script other s other-taken desk ours begun small' large') at y in
        let (l, el) = largest-found-unique (represented template script s read).1 first.largest second.largest in
        let (m, em) = found-one first.smallest second.smallest in
        (saids-unique l m, grids-unique em el)

  module _ (words : desk_words one desk ≡ desk_words other desk) where
    pub desks-apart : (before begun g h : List ℕ) (a b : Said) → length before ≡ size s → length begun ≡ size s
        → SmallestSays template script one desk before g a → SmallestSays template script other desk begun h b
        → (a ≡ b) × (g ≡ h)
    desks-apart = desks-apart-set (desk-words-booked one other desk words)

    pub desks-apart-both : (before begun g h : Grids) (a b : BothSaid)
        → length before.small ≡ size s → length before.large ≡ size s
        → length begun.small ≡ size s → length begun.large ≡ size s
        → BothSays template script one desk before g a → BothSays template script other desk begun h b
        → (a ≡ b) × (g ≡ h)
    desks-apart-both = desks-apart-both-set (desk-words-booked one other desk words)
