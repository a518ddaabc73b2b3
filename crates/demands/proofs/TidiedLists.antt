-- What specs/TidiedLists promises of lists that are tidied holds.
--   tidy-demand
-- Assumes nothing.
use Prim.Native.Nat.{ℕ, ◌+◌, ◌*◌, ◌<◌}
use mathlib.Core.Path.{◌≡◌, refl, sym, ap, subst, ◌∙◌}
use mathlib.Core.Logic.{◌↔◌}
use mathlib.Core.List.{List, [], ◌∷◌, ◌++◌, append-nil}
use native.Mathlib.Omega.{arith}
use lib.ListN.{length, get_or, take, drop, replicate}
use lib.Seq.{drop_at, drop-length}
use Rattle.words.specs.Said.{Said, values}
use Rattle.words.specs.Writes.{Writes}
use Rattle.words.proofs.Bools.{is_false}
use Rattle.words.proofs.Readings.{accepted-same}
use Rattle.board.specs.Grid.{tally}
use Rattle.sheet.specs.Sheet.{Sheet, size}
use Rattle.bookings.specs.Bookings.{Booking, card_at, shape_at}
use Rattle.stored.specs.Stored.{stored_card_at, stored_shape_at, stored_at, StoredBooked}
use Rattle.stored.specs.Tidied.{tidied}
use Rattle.bookings.proofs.Repeats.{repeated-exact}
use Rattle.stored.proofs.Tidied.{tidied-booked, tidied-desk, tidied-length, tidied-whole}
use Rattle.typing.specs.Typing.{Pairs, Has}
use Rattle.typing.specs.Tidy.{TidySays}
use Rattle.typing.proofs.DifferentPairs.{different-pairs}
use Rattle.typing.proofs.Tidying.{tidy-values, tidied-taken, tidied-alike, tidied-other}
use Rattle.demands.specs.Formed.{Formed, StoredFormed, BookingsFormed}
use Rattle.demands.specs.TidiedLists.{TidiedLists, TidyDemand}
use Rattle.demands.proofs.Formed.{formed-sheet, formed-read, stored-are, bookings-are, tidy-taken}

module _ (template script bookings : List ℕ) (s : Sheet) (f : Formed template script s)
    (b : StoredFormed s.cards s.shapes bookings) (before after : List ℕ)
    (long : length before ≡ 1 + 3 * get_or bookings 0 0) where
  module _ (said : Said) (x : TidySays template script bookings before after said) where
    found : Writes (tidied bookings) before after said
    found = rw ((tidy-taken template script bookings before s).1 (f, b, long)) at x

    abbrev words : ℕ
    words = length (tidied bookings)

    says : TidySays template script bookings before after (values (words ∷ []))
    says = subst (TidySays template script bookings before after) found.says x

    front : take words after ≡ tidied bookings
    front = (tidy-values template script bookings before after words says).front

    -- every call takes what is written
    taken : BookingsFormed s.cards s.shapes (take words after)
    taken =
        let (count, stored) = (stored-are s.cards s.shapes bookings).1 b in
        (bookings-are s.cards s.shapes (take words after)).0
        (_, tidied-taken template script bookings before after words says s.cards s.shapes count stored)

    -- there are three words for each pair that is booked
    words-counted : (X : Pairs) → ((n t : ℕ) → n < s.cards → t < s.shapes → Has s X n t ↔ StoredBooked bookings n t)
        → words ≡ 1 + 3 * tally X (size s)
    words-counted X just =
        let one-shape = (formed-read template script s f).shapes.shapes-low in
        omega (
          arith,
          tidied-length bookings,
          different-pairs s bookings one-shape (λ i l. (b.card-in i l, b.shape-in i l)) X just,
        )

    -- of a list without repeats all bookings are kept
    kept : ((j i : ℕ) → j < i → i < get_or bookings 0 0 → stored_card_at bookings j ≡ stored_card_at bookings i
        → stored_shape_at bookings j ≡ stored_shape_at bookings i → ⊥)
        → (words ≡ length before) × ((i : ℕ) → i < get_or bookings 0 0
        → (card_at after i ≡ stored_card_at bookings i) × (shape_at after i ≡ stored_shape_at bookings i))
    kept once =
        let (count, each) = tidied-whole bookings (λ i l. is_false (λ e.
        let (j, lj, same) = (repeated-exact (stored_at bookings) i).0 e in
        once j i lj l (ap (λ (x : Booking). x.card) same) (ap (λ (x : Booking). x.shape) same))) in
        let all : words ≡ length before = omega (arith, tidied-length bookings, count, long) in
        let whole : after ≡ tidied bookings =
        found.writes
        ∙ ap (λ (l : List ℕ). tidied bookings ++ l) (ap (λ (n : ℕ). drop n before) all ∙ drop-length before)
        ∙ append-nil (tidied bookings) in (
          all,
          λ i l. rw whole
              (ap (λ (x : Booking). x.card) (each i l), ap (λ (x : Booking). x.shape) (each i l)),
        )

    -- the sheet that is read is the one
    same-sheet : (tidy-values template script bookings before after words says).sheet ≡ s
    same-sheet = accepted-same
        (sym (tidy-values template script bookings before after words says).read ∙ formed-sheet template script s f)

    tidied-lists : TidiedLists template script bookings s before after words
    tidied-lists = record {
      formed = taken;
      firsts = front;
      rest = ap (drop words) found.writes ∙ drop_at (tidied bookings) (drop words before) words refl;
      booked = λ n t. rw front (tidied-booked bookings n t);
      none = λ n t h. let e : ◌≡◌ {A = ℕ} 1 0 = tidied-desk bookings (rw front at h) in absurd (omega (arith, e));
      counted = words-counted;
      whole = kept;
      alike = tidied-alike template script bookings before after words says;
      other = λ grid left told full y.
          let (e, zeros) = tidied-other template script bookings before after words says grid left told y
          (full ∙ sym (ap size same-sheet)) in
          (e, zeros ∙ ap (λ (q : Sheet). replicate (size q) 0) same-sheet);
    }

pub tidy-demand : TidyDemand
tidy-demand template script bookings s f b before after long said x = (
  _,
  (found template script bookings s f b before after long said x).says,
  tidied-lists template script bookings s f b before after long said x,
)
