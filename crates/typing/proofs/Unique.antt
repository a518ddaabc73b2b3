-- The contracts of the calls for the typings leave no choice: two answers to one call are the same.
--   typing-unique           a typing is its pairs
--   largest-found-unique, smallest-found-unique, both-found-unique   of one sheet there is one answer
--   card_unique, shape-unique   a card, and a shape, is its number
--   pair-unique, pair-plain   a card and a shape are what is said of them, which is no refusal at one place
--   struck-unique, settled-unique, both-unique                       of one saying one thing found
--   largest-said-unique, smallest-said-unique, both-said-unique      of one saying one answer
--   largest-says-unique, smallest-says-unique, both-says-unique      of one input one answer and one grid
-- Assumes nothing.
use Prim.Native.Nat.{ℕ, ◌<◌}
use mathlib.Core.Path.{◌≡◌, sym, ap, ◌∙◌}
use mathlib.Core.Logic.{◌⊎◌, inl, inr}
use mathlib.Core.List.{List}
use native.Mathlib.Omega.{arith}
use Rattle.std.specs.Prelude.{Result, Ok, Err}
use lib.ListN.{get_or}
use lib.Seq.{ext_get_or}
use Rattle.board.specs.Grid.{on}
use Rattle.board.specs.Board.{Board}
use Rattle.words.proofs.Bools.{neither-below}
use Rattle.board.proofs.Grids.{on-yes, on-byte}
use Rattle.board.proofs.Tally.{tally-ext}
use Rattle.words.specs.Said.{Said}
use Rattle.words.specs.declared.Shape.{Shape}
use Rattle.words.specs.declared.Card.{Card}
use Rattle.typing.specs.declared.Struck.{Struck}
use Rattle.typing.specs.declared.Both.{Both}
use Rattle.words.specs.Refused.{refused}
use Rattle.words.specs.declared.refusal.Refusal.{Refusal}
use Rattle.words.specs.Reading.{Reading, accepted, then}
use Rattle.sheet.specs.Sheet.{Sheet, place, size, read_sheet}
use Rattle.typing.specs.Typing.{Typing}
use Rattle.bookings.specs.Bookings.{Booked}
use Rattle.typing.specs.Smallest.{Accepted, TurnedDown}
use Rattle.typing.specs.Demand3.{Outcome, pairs, not_met}
use Rattle.typing.specs.Answer.{struck_said, pair_said, settled_said, largest_said, smallest_said}
use Rattle.typing.specs.Answer.{BothSaid, both_refused, both_said}
use Rattle.typing.specs.Calls.{booked_reading, with_grid, largest_reading, smallest_reading, both_reading, Leaves}
use Rattle.typing.specs.Calls.{outcome_said, Grids, LargestFound, LargestSays, SmallestFound, SmallestSays}
use Rattle.typing.specs.Calls.{BothFound, BothSays}
use Rattle.words.proofs.Places.{place-unique}
use Rattle.words.proofs.Said.{values-refusal}
use Rattle.words.proofs.Refused.{refused-unique, said-by-unique}
use Rattle.words.proofs.Answered.{answered-unique}
use Rattle.typing.proofs.Represents.{Represents, Alike}
use Rattle.typing.proofs.Largest.{largest-unique, bare_alike}
use Rattle.typing.proofs.Smallest.{BookedIn, closure-in, closure-unique, met-again}
use Rattle.typing.proofs.Booked.{grid-asked, bookings-asked}

typing-unique : {s : Sheet} {g h : List ℕ} → Typing s g → Typing s h → Alike s (on g) (on h) → g ≡ h
typing-unique {s} {g} {h} x y e = ext_get_or 0 g h (x.full ∙ sym y.full) (λ p l.
    let here : p < size s = omega (arith, x.full) in
    same_byte p (x.bytes p here) (y.bytes p here) (e p here))
  where
    same_byte : (p : ℕ) → (get_or g p 0 ≡ 0) ⊎ (get_or g p 0 ≡ 1) → (get_or h p 0 ≡ 0) ⊎ (get_or h p 0 ≡ 1) → on g
        p ≡ on h p
        → get_or g p 0 ≡ get_or h p 0
    same_byte p (inl a) (inl b) f = a ∙ sym b
    same_byte p (inl a) (inr b) f = on-byte g p (f ∙ on-yes h p b) ∙ sym b
    same_byte p (inr a) (inl b) f = a ∙ sym (on-byte h p (sym f ∙ on-yes g p a))
    same_byte p (inr a) (inr b) f = a ∙ sym b

module _ {s : Sheet} {B : Board} (rep : Represents s B) where
  pub largest-found-unique : {g h : List ℕ} {a b : Said} → LargestFound s g a → LargestFound s h b → (a ≡ b) × (g ≡ h)
  largest-found-unique {g} {h} {a} {b} x y =
      let (rounds, struck, alike) = largest-unique rep x.largest y.largest in
      let bares : x.bare ≡ y.bare = x.counted ∙ bare_alike rep (on g) (on h) alike ∙ sym y.counted in
      (x.says ∙ rw (rounds, struck, bares) (sym y.says), typing-unique x.typing y.typing alike)

  module _ {Wanted : ℕ → ℕ → Type 0} (inside : BookedIn s Wanted) where
    -- bookings that are accepted are not turned down
    not-both : {g h : List ℕ} {m n t : ℕ} → Accepted s Wanted g m → TurnedDown s Wanted h n t → ⊥
    not-both {g} {h} {m} {n} {t} x y =
        y.unmet (met-again rep inside y.set y.closure y.inside (on g) (x.met n t y.inside))

    -- the pair of one 50 is not below that of another
    not-below : {g h : List ℕ} {n t m u : ℕ} → TurnedDown s Wanted g n t → TurnedDown s Wanted h m u
        → place s n t < place s m u → ⊥
    not-below {g} {h} {n} {t} x y l =
        x.unmet (met-again rep inside x.set x.closure x.inside y.set (y.lowest n t x.inside l))

    turned-down-unique : {g h : List ℕ} {n t m u : ℕ} → TurnedDown s Wanted g n t → TurnedDown s Wanted h m u
        → (n ≡ m) × (t ≡ u)
    turned-down-unique {g} {h} {n} {t} {m} {u} x y =
        let (ln, lt) = closure-in rep inside x.inside in
        let (lm, lu) = closure-in rep inside y.inside in
        place-unique s.shapes rep.one-shape n t m u lt lu
        (neither-below (place s n t) (place s m u) (not-below x y) (not-below y x))

    outcome-unique : {g h : List ℕ} (o q : Outcome) → Leaves s Wanted g o → Leaves s Wanted h q → (o ≡ q) × (g ≡ h)
    outcome-unique {g} {h} (pairs m) (pairs k) x y =
        let alike = closure-unique rep inside (on g) (on h) x.closure y.closure in (
          ap pairs (x.counted ∙ tally-ext (on g) (on h) (size s) alike ∙ sym y.counted),
          typing-unique x.typing y.typing alike,
        )
    outcome-unique (pairs m) (not_met n t) x y = absurd (not-both x y)
    outcome-unique (not_met n t) (pairs m) x y = absurd (not-both y x)
    outcome-unique (not_met n t) (not_met m u) x y =
        let (card, shape) = turned-down-unique x y in
        (rw (card, shape), x.zeros ∙ sym y.zeros)

    pub smallest-found-unique : {g h : List ℕ} {a b : Said}
        → SmallestFound s Wanted g a → SmallestFound s Wanted h b → (a ≡ b) × (g ≡ h)
    smallest-found-unique {g} {h} {a} {b} x y =
        let (o, e) = outcome-unique x.outcome y.outcome x.leaves y.leaves in
        (x.says ∙ ap outcome_said o ∙ sym y.says, e)

    pub both-found-unique : {g h k m : List ℕ} {a b : BothSaid}
        → BothFound s Wanted g h a → BothFound s Wanted k m b
        → (a.largest ≡ b.largest) × (a.smallest ≡ b.smallest) × (g ≡ k) × (h ≡ m)
    both-found-unique x y =
        let (l, el) = largest-found-unique x.largest y.largest in
        let (m, em) = smallest-found-unique x.smallest y.smallest in
        (l, m, em, el)

-- ---- of one saying one answer
pub card_unique : {n m : Card} → n.0 ≡ m.0 → n ≡ m
card_unique e = ap (λ (x : ℕ). record { 0 = x }) e

pub shape-unique : {t u : Shape} → t.0 ≡ u.0 → t ≡ u
shape-unique e = ap (λ (x : ℕ). record { 0 = x }) e

pub pair-unique : (number : ℕ) (p q : Card × Shape) → pair_said number p ≡ pair_said number q → p ≡ q
pair-unique number (n, t) (m, u) e =
    let card : n ≡ m = card_unique (cc) in
    let shape : t ≡ u = shape-unique (cc) in
    cc

pub pair-plain : (number : ℕ) (p : Card × Shape) (r : Refusal) → pair_said number p ≡ refused r → ⊥
pair-plain number (n, t) r e = let z : ◌≡◌ {A = ℕ} 0 1 = cc in absurd (omega arith)

pub struck-unique : (a b : Struck) → struck_said a ≡ struck_said b → a ≡ b
struck-unique a b e =
    let rounds : a.rounds ≡ b.rounds = cc in
    let struck : a.struck ≡ b.struck = cc in
    let bare : a.bare ≡ b.bare = cc in
    ap (λ (x : ℕ). record { rounds = x; struck = a.struck; bare = a.bare }) rounds
    ∙ ap (λ (x : ℕ). record { rounds = b.rounds; struck = x; bare = a.bare }) struck
    ∙ ap (λ (x : ℕ). record { rounds = b.rounds; struck = b.struck; bare = x }) bare

pub settled-unique : (a b : Result ℕ (Card × Shape)) → settled_said a ≡ settled_said b → a ≡ b
settled-unique (Ok m) (Ok k) e = cc
settled-unique (Ok m) (Err q) e = values-refusal e
settled-unique (Err p) (Ok m) e = values-refusal (sym e)
settled-unique (Err p) (Err q) e = ap Err (pair-unique 50 p q e)

both-unique : (a b : Both) → struck_said a.largest ≡ struck_said b.largest
    → settled_said a.smallest ≡ settled_said b.smallest → a ≡ b
both-unique a b e f =
    ap (λ (x : Struck). record { largest = x; smallest = a.smallest }) (struck-unique a.largest b.largest e)
    ∙ ap (λ (x : Result ℕ (Card × Shape)). record { largest = b.largest; smallest = x })
    (settled-unique a.smallest b.smallest f)

-- how the bookings fared is no refusal at one place
settled_plain : (a : Result ℕ (Card × Shape)) (r : Refusal) → settled_said a ≡ refused r → ⊥
settled_plain (Ok m) r e = values-refusal e
settled_plain (Err p) r e = pair-plain 50 p r e

pub largest-said-unique : (a b : Result Struck Refusal) → largest_said a ≡ largest_said b → a ≡ b
largest-said-unique = said-by-unique struck_said struck-unique (λ a r e. values-refusal e)

pub smallest-said-unique : (a b : Result (Result ℕ (Card × Shape)) Refusal) → smallest_said a ≡ smallest_said b
    → a ≡ b
smallest-said-unique = said-by-unique settled_said settled-unique settled_plain

pub both-said-unique : (a b : Result Both Refusal) → (both_said a).largest ≡ (both_said b).largest
    → (both_said a).smallest ≡ (both_said b).smallest → a ≡ b
both-said-unique (Ok x) (Ok y) e f = ap Ok (both-unique x y e f)
both-said-unique (Ok x) (Err q) e f = values-refusal e
both-said-unique (Err p) (Ok x) e f = values-refusal (sym e)
both-said-unique (Err p) (Err q) e f = ap Err (refused-unique p q e)

-- ---- of one input one answer and one grid
-- A board stands for each sheet that a reading finds.
abbrev pub Represented : Reading Sheet → Type 1
Represented r = (s : Sheet) → r ≡ accepted s → (B : Board) × Represents s B

pub grids-unique : {g h : Grids} → g.small ≡ h.small → g.large ≡ h.large → g ≡ h
grids-unique {g} {h} e f =
    ap (λ (z : List ℕ). record { small = z; large = g.large }) e
    ∙ ap (λ (z : List ℕ). record { small = h.small; large = z }) f

pub saids-unique : {a b : BothSaid} → a.largest ≡ b.largest → a.smallest ≡ b.smallest → a ≡ b
saids-unique {a} {b} e f =
    ap (λ (x : Said). record { largest = x; smallest = a.smallest }) e
    ∙ ap (λ (x : Said). record { largest = b.largest; smallest = x }) f

module _ (template script : List ℕ) (sheets : Represented (read_sheet template script)) where
  pub largest-says-unique : (before g h : List ℕ) (a b : Said)
      → LargestSays template script before g a → LargestSays template script before h b → (a ≡ b) × (g ≡ h)
  largest-says-unique before g h a b x y =
      answered-unique (λ refused. refused) (largest_reading template script before) before g h a b
      (λ s r. largest-found-unique (sheets s (grid-asked before (read_sheet template script) s r).0).1) x y

  module _ (bookings : List ℕ) (desk : ℕ) where
    -- template, script and bookings are read for the desk
    abbrev listed : Reading Sheet
    listed = booked_reading template script bookings desk

    listed-sheets : Represented listed
    listed-sheets s r = sheets s (bookings-asked bookings desk (read_sheet template script) s r).0

    -- the bookings are in the sheet
    listed_in : (s : Sheet) → listed ≡ accepted s → BookedIn s (Booked bookings desk)
    listed_in s r = (bookings-asked bookings desk (read_sheet template script) s r).1

    pub smallest-says-unique : (before g h : List ℕ) (a b : Said)
        → SmallestSays template script bookings desk before g a → SmallestSays template script bookings desk before h b
        → (a ≡ b) × (g ≡ h)
    smallest-says-unique before g h a b x y =
        answered-unique (λ refused. refused) (smallest_reading template script bookings desk before) before g h a b
        (λ s r.
        let read = (grid-asked before listed s r).0 in
        smallest-found-unique (listed-sheets s read).1 (listed_in s read)) x y

    pub both-says-unique : (before g h : Grids) (a b : BothSaid)
        → BothSays template script bookings desk before g a → BothSays template script bookings desk before h b
        → (a ≡ b) × (g ≡ h)
    both-says-unique before g h a b x y =
        answered-unique both_refused (both_reading template script bookings desk before) before g h a b (λ s r p q.
        let asked = (grid-asked before.large (then listed (with_grid before.small)) s r).0 in
        let read = (grid-asked before.small listed s asked).0 in
        let (l, m, e, f) = both-found-unique (listed-sheets s read).1 (listed_in s read) p q in
        (saids-unique l m, grids-unique e f)) x y
