-- Two desks: what one of them books changes nothing for the other.
-- ApartDesks     two lists give a desk one smallest typing, or one 50
-- ApartDemand    so it is where the lists book the same for the desk; proofs/ApartDesks proves it
-- From the crate of bookings, desk_words: the cards and the shapes of a desk's bookings, in their order.
-- Assumes nothing.
use Rattle.std.specs.Prelude.{ℕ, ◌≤◌, ◌≡◌, ◌↔◌, List, length}
use Rattle.words.specs.Said.{Said}
use Rattle.sheet.specs.Sheet.{Sheet, size}
use Rattle.bookings.specs.Bookings.{Booked, desk_words}
use Rattle.typing.specs.Answer.{BothSaid}
use Rattle.typing.specs.Calls.{Grids, SmallestSays, BothSays}
use Rattle.demands.specs.Formed.{Formed, BookingsFormed}

-- For every well-formed template and script, either desk, and two well-formed lists, whatever the grids held: the desk
-- has one smallest typing, or one 50, in answer and grid.
pub record ApartDesks (template script : List ℕ) (s : Sheet) (desk : ℕ) (one other : List ℕ) : Type 0 where
  -- by the call for the smallest,
  pub smallest : (before begun g h : List ℕ) (a b : Said) → length before ≡ size s → length begun ≡ size s
      → SmallestSays template script one desk before g a → SmallestSays template script other desk begun h b
      → (a ≡ b) × (g ≡ h)
  -- and by that for both
  pub both : (before begun g h : Grids) (a b : BothSaid)
      → length before.small ≡ size s → length before.large ≡ size s
      → length begun.small ≡ size s → length begun.large ≡ size s
      → BothSays template script one desk before g a → BothSays template script other desk begun h b
      → (a ≡ b) × (g ≡ h)

-- So it is where the desk's bookings are the same, in the same order; and also where they are of the same pairs in any
-- order. What the other desk books does not matter.
abbrev pub ApartDemand : Type 0
ApartDemand = (template script : List ℕ) (s : Sheet) → Formed template script s → (desk : ℕ) → desk ≤ 1
    → (one other : List ℕ) → BookingsFormed s.cards s.shapes one → BookingsFormed s.cards s.shapes other
    → (desk_words one desk ≡ desk_words other desk → ApartDesks template script s desk one other)
    × (((n t : ℕ) → Booked one desk n t ↔ Booked other desk n t) → ApartDesks template script s desk one other)
