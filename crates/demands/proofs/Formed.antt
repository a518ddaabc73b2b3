-- What is well-formed is just what is read (docs/FORMAT.md, "Templates", "Scripts", "Bookings").
--   sheets-are     a template and a script; stored-are, bookings-are: a stored list, and one of both desks
--   formed-template, formed-with, formed-sheet, formed-read   what reading such words finds
--   largest-taken, listed-taken, smallest-taken, both-taken, desks-taken   what the calls take: these, one of the two
--                  desks, and grids with a byte for each pair
--   tidy-taken     what the tidying pass takes: these, and a buffer with a word and three for each booking
-- Assumes nothing.
use Prim.Native.Nat.{ℕ, ◌+◌, ◌*◌, ◌≤◌}
use mathlib.Core.Path.{◌≡◌, refl, sym, ap, ap₂, ◌∙◌, subst}
use mathlib.Core.Logic.{◌↔◌}
use mathlib.Core.List.{List}
use lib.ListN.{length, get_or}
use Rattle.words.specs.Reading.{Reading, accepted, then, mapped}
use Rattle.words.proofs.Bools.{never_both, is_false}
use Rattle.words.proofs.Readings.{then-accepted}
use Rattle.template.specs.Template.{Template, read_template}
use Rattle.template.proofs.RoundTrip.{templates-are}
use Rattle.script.specs.Script.{ScriptCounts, counts_of, read_script, read_with}
use Rattle.script.proofs.RoundTrip.{scripts-are}
use Rattle.sheet.specs.Sheet.{Sheet, size, sheet_of, read_sheet}
use Rattle.sheet.specs.Opened.{template_as}
use Rattle.sheet.proofs.Accepted.{SheetAccepted, mapped-accepted, sheet-asked, sheet-made}
use Rattle.bookings.specs.Bookings.{Booking, booking_at, read_bookings}
use Rattle.stored.specs.Stored.{read_stored}
use Rattle.bookings.proofs.Repeats.{booking-same, repeated-exact}
use Rattle.bookings.proofs.Accepted.{listed-exact}
use Rattle.stored.proofs.StoredLists.{stored_exact}
use Rattle.typing.specs.Calls.{with_list, with_stored, with_grid, listed_reading, booked_reading, largest_reading}
use Rattle.typing.specs.Calls.{smallest_reading, Grids, both_reading}
use Rattle.typing.specs.Desks.{DeskGrids, desks_reading}
use Rattle.typing.specs.Tidy.{tidy_reading}
use Rattle.typing.proofs.Booked.{grid-asked, grid-taken, desk-asked, desk-taken, buffer-asked, buffer-taken}
use Rattle.demands.specs.Formed.{Formed, StoredFormed, BookingsFormed}

module _ (words list : List ℕ) (s : Sheet) where
  sheet-formed : read_sheet words list ≡ accepted s → Formed words list s
  unfolding read_sheet
  sheet-formed e =
      let (t, first, rest) = then-accepted (read_template words)
      (λ t. mapped (λ c. sheet_of words t c list) (read_script t.kinds list)) s e in
      let (c, second, same) = mapped-accepted (λ c. sheet_of words t c list) (read_script t.kinds list) s rest in
      let (formed, written) = (templates-are words t).0 first in
      let (links, rising, count, script-written) = (scripts-are t.kinds list c).0 second in
      subst (Formed words list) same (record {
        kinds = t.kinds;
        links = links;
        template-formed = formed;
        template-written = written;
        script-formed = rising;
        script-written = script-written;
        count = count;
        template-words = refl;
        script-words = refl;
      })

  module _ (f : Formed words list s) where
    abbrev shaped : Template
    shaped = template_as f.kinds s.shapes s.parts

    abbrev counts : ScriptCounts
    counts = counts_of s.cards s.links

    pub formed-template : read_template words ≡ accepted shaped
    formed-template = (templates-are words shaped).1 (f.template-formed, f.template-written)

    formed-script : read_script f.kinds list ≡ accepted counts
    formed-script = (scripts-are f.kinds list counts).1 (f.links, f.script-formed, f.count, f.script-written)

    pub formed-with : read_with words list ≡ accepted counts
    formed-with = rw (formed-template, formed-script) refl

    -- the sheet is the one that is read
    same-sheet : sheet_of words shaped counts list ≡ s
    same-sheet =
        ap₂ (λ (xs ys : List ℕ). sheet_of xs shaped counts ys) (sym f.template-words) (sym f.script-words)

    pub formed-sheet : read_sheet words list ≡ accepted s
    formed-sheet = sheet-asked words list shaped counts formed-template formed-script ∙ ap accepted same-sheet

    pub formed-read : SheetAccepted words f.kinds s
    formed-read =
        subst (SheetAccepted words f.kinds) same-sheet
        (sheet-made words list shaped counts formed-template formed-script)

  pub sheets-are : (read_sheet words list ≡ accepted s) ↔ Formed words list s
  sheets-are = (sheet-formed, formed-sheet)

module _ (cards shapes : ℕ) (list : List ℕ) where
  pub stored-are : ((n : ℕ) × (read_stored cards shapes list ≡ accepted n)) ↔ StoredFormed cards shapes list
  stored-are = (
    λ (n, e).
        let fine = ((stored_exact cards shapes list n).0 e).0 in
        record {
          few = fine.sized.few;
          size = fine.sized.size;
          card-in = fine.card-in;
          shape-in = fine.shape-in;
        },
    λ f. (
      get_or list 0 0,
      (stored_exact cards shapes list (get_or list 0 0)).1 (
        record {
          sized = record { few = f.few; size = f.size };
          card-in = f.card-in;
          shape-in = f.shape-in;
        },
        refl,
      ),
    ),
  )

  bookings-formed : (n : ℕ) → read_bookings cards shapes list ≡ accepted n → BookingsFormed cards shapes list
  bookings-formed n e =
      let fine = ((listed-exact cards shapes list n).0 e).0 in
      record {
        few = fine.sized.few;
        size = fine.sized.size;
        desk-in = fine.desk-in;
        card-in = fine.card-in;
        shape-in = fine.shape-in;
        once = λ j i l li desk card shape. never_both
            ((repeated-exact (booking_at list) i).1 (j, l, booking-same desk card shape)) (fine.once i li);
      }

  formed-bookings : BookingsFormed cards shapes list → read_bookings cards shapes list ≡ accepted (get_or list 0 0)
  formed-bookings f = (listed-exact cards shapes list (get_or list 0 0)).1 (
    record {
      sized = record { few = f.few; size = f.size };
      desk-in = f.desk-in;
      card-in = f.card-in;
      shape-in = f.shape-in;
      once = λ i li. is_false (λ e.
          let (j, l, same) = (repeated-exact (booking_at list) i).0 e in
          f.once j i l li (ap (λ (b : Booking). b.desk) same) (ap (λ (b : Booking). b.card) same)
          (ap (λ (b : Booking). b.shape) same));
    },
    refl,
  )

  pub bookings-are : ((n : ℕ) × (read_bookings cards shapes list ≡ accepted n)) ↔ BookingsFormed cards shapes list
  bookings-are = (λ h. bookings-formed h.0 h.1, λ f. (get_or list 0 0, formed-bookings f))

-- ---- what the calls take
grid-takes : (grid : List ℕ) (r : Reading Sheet) (s : Sheet)
    → (then r (with_grid grid) ≡ accepted s) ↔ ((r ≡ accepted s) × (length grid ≡ size s))
grid-takes grid r s = (grid-asked grid r s, λ h. grid-taken grid r s h.0 h.1)

-- a list by a reading of it, from which lists that takes
list-takes : (reading : ℕ → ℕ → Reading ℕ) (ListFormed : ℕ → ℕ → Type 0) (words list : List ℕ)
    → ((cards shapes : ℕ) → ((n : ℕ) × (reading cards shapes ≡ accepted n)) ↔ ListFormed cards shapes)
    → (s : Sheet) → (then (read_sheet words list) (with_list reading) ≡ accepted s)
    ↔ (Formed words list s × ListFormed s.cards s.shapes)
list-takes reading ListFormed words list are s = (
  λ e.
      let (q, read, rest) = then-accepted (read_sheet words list) (with_list reading) s e in
      let (n, listed, same) = mapped-accepted (λ n. q) (reading q.cards q.shapes) s rest in
      subst (λ (x : Sheet). Formed words list x × ListFormed x.cards x.shapes) same
      (sheet-formed words list q read, (are q.cards q.shapes).0 (n, listed)),
  λ h.
      let (n, listed) = (are s.cards s.shapes).1 h.1 in
      rw (formed-sheet words list s h.0, listed) refl,
)

module _ (words list : List ℕ) where
  pub largest-taken : (grid : List ℕ) (s : Sheet)
      → (largest_reading words list grid ≡ accepted s) ↔ (Formed words list s × (length grid ≡ size s))
  largest-taken grid s =
      let g = grid-takes grid (read_sheet words list) s in (
        λ e. (sheet-formed words list s (g.0 e).0, (g.0 e).1),
        λ h. g.1 (formed-sheet words list s h.0, h.1),
      )

  module _ (booked : List ℕ) where
    pub listed-taken : (s : Sheet) → (listed_reading words list booked ≡ accepted s)
        ↔ (Formed words list s × BookingsFormed s.cards s.shapes booked)
    listed-taken =
        list-takes (λ cards shapes. read_bookings cards shapes booked)
        (λ cards shapes. BookingsFormed cards shapes booked) words list
        (λ cards shapes. bookings-are cards shapes booked)

    pub smallest-taken : (desk : ℕ) (grid : List ℕ) (s : Sheet)
        → (smallest_reading words list booked desk grid ≡ accepted s)
        ↔ (Formed words list s × BookingsFormed s.cards s.shapes booked × (desk ≤ 1) × (length grid ≡ size s))
    smallest-taken desk grid s =
        let listed = listed_reading words list booked in
        let g = grid-takes grid (booked_reading words list booked desk) s in (
          λ e.
              let (read, full) = g.0 e in
              let (taken, ours) = desk-asked desk listed s read in
              let (f, l) = (listed-taken s).0 taken in
              (f, l, ours, full),
          λ (f, l, ours, full). g.1 (desk-taken desk listed s ((listed-taken s).1 (f, l)) ours, full),
        )

    pub both-taken : (desk : ℕ) (grids : Grids) (s : Sheet) → (both_reading words list booked desk grids ≡ accepted s)
        ↔ (Formed words list s × BookingsFormed s.cards s.shapes booked × (desk ≤ 1)
        × (length grids.small ≡ size s) × (length grids.large ≡ size s))
    both-taken desk grids s =
        let g = grid-takes grids.large (smallest_reading words list booked desk grids.small) s in
        let b = smallest-taken desk grids.small s in (
          λ e. let (f, l, ours, m) = b.0 (g.0 e).0 in (f, l, ours, m, (g.0 e).1),
          λ (f, l, ours, m, full). g.1 (b.1 (f, l, ours, m), full),
        )

    pub desks-taken : (grids : DeskGrids) (s : Sheet) → (desks_reading words list booked grids ≡ accepted s)
        ↔ (Formed words list s × BookingsFormed s.cards s.shapes booked
        × (length grids.radio ≡ size s) × (length grids.television ≡ size s)
        × (length grids.large ≡ size s))
    desks-taken grids s =
        let listed = listed_reading words list booked in
        let radio = then listed (with_grid grids.radio) in
        let r = grid-takes grids.radio listed s in
        let t = grid-takes grids.television radio s in
        let g = grid-takes grids.large (then radio (with_grid grids.television)) s in (
          λ e.
              let (two, large) = g.0 e in
              let (one, television) = t.0 two in
              let (taken, first) = r.0 one in
              let (f, l) = (listed-taken s).0 taken in
              (f, l, first, television, large),
          λ (f, l, first, television, large).
              g.1 (t.1 (r.1 ((listed-taken s).1 (f, l), first), television), large),
        )

    pub tidy-taken : (out : List ℕ) (s : Sheet) → (tidy_reading words list booked out ≡ accepted s)
        ↔ (Formed words list s × StoredFormed s.cards s.shapes booked
        × (length out ≡ 1 + 3 * get_or booked 0 0))
    tidy-taken out s =
        let listed = then (read_sheet words list) (with_stored booked) in
        let b = list-takes (λ cards shapes. read_stored cards shapes booked)
        (λ cards shapes. StoredFormed cards shapes booked) words list
        (λ cards shapes. stored-are cards shapes booked) s in (
          λ e.
              let (read, long) = buffer-asked booked out listed s e in
              let (f, l) = b.0 read in
              (f, l, long),
          λ h. buffer-taken booked out listed s (b.1 (h.0, h.1)) h.2,
        )
