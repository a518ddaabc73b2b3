-- The typings of both desks in one call, over what its contract allows.
--   desks-as-both        for each desk it says and leaves what the call for both does
--   desks-one-answer, desks-no-choice   two answers that are allowed for one input are equal, and so are the grids
-- Assumes nothing.
use Prim.Native.Nat.{ℕ}
use mathlib.Core.Path.{◌≡◌, sym, ap, ◌∙◌}
use mathlib.Core.List.{List}
use native.Mathlib.Omega.{arith}
use lib.ListN.{length}
use Rattle.words.specs.Said.{Said}
use Rattle.words.specs.Reading.{accepted, then}
use Rattle.words.proofs.Said.{values-refusal}
use Rattle.words.proofs.Answered.{answered-unique}
use Rattle.sheet.specs.Sheet.{Sheet, size, read_sheet}
use Rattle.std.specs.Prelude.{Result, Ok, Err}
use Rattle.words.specs.declared.Card.{Card}
use Rattle.words.specs.declared.Shape.{Shape}
use Rattle.words.specs.declared.refusal.Refusal.{Refusal}
use Rattle.words.proofs.Refused.{refused-unique}
use Rattle.typing.specs.declared.Struck.{Struck}
use Rattle.typing.specs.declared.Desks.{Desks}
use Rattle.typing.specs.Answer.{struck_said, settled_said, DesksSaid, desks_refused, desks_said}
use Rattle.typing.specs.Calls.{listed_reading, with_grid, BothSays}
use Rattle.typing.specs.Desks.{DeskGrids, desks_reading, DesksFound, DesksSays}
use Rattle.typing.proofs.Booked.{grid-asked, list-asked}
use Rattle.typing.proofs.Existence.{represented}
use Rattle.typing.proofs.DesksApart.{both-asked}
use Rattle.typing.proofs.Unique.{struck-unique, settled-unique, both-found-unique}

-- ---- of one saying one answer
desks-unique : (a b : Desks) → struck_said a.largest ≡ struck_said b.largest
    → settled_said a.radio ≡ settled_said b.radio → settled_said a.television ≡ settled_said b.television
    → a ≡ b
desks-unique a b e f g =
    ap (λ (x : Struck). record { largest = x; radio = a.radio; television = a.television })
    (struck-unique a.largest b.largest e)
    ∙ ap (λ (x : Result ℕ (Card × Shape)). record { largest = b.largest; radio = x; television = a.television })
    (settled-unique a.radio b.radio f)
    ∙ ap (λ (x : Result ℕ (Card × Shape)). record { largest = b.largest; radio = b.radio; television = x })
    (settled-unique a.television b.television g)

desks-said-unique : (a b : Result Desks Refusal) → desks_said a ≡ desks_said b → a ≡ b
desks-said-unique (Ok x) (Ok y) e =
    ap Ok (desks-unique x y (ap (λ (z : DesksSaid). z.largest) e) (ap (λ (z : DesksSaid). z.radio) e)
    (ap (λ (z : DesksSaid). z.television) e))
desks-said-unique (Ok x) (Err q) e = values-refusal (ap (λ (z : DesksSaid). z.largest) e)
desks-said-unique (Err p) (Ok x) e = values-refusal (sym (ap (λ (z : DesksSaid). z.largest) e))
desks-said-unique (Err p) (Err q) e = ap Err (refused-unique p q (ap (λ (z : DesksSaid). z.largest) e))

-- ---- of one sheet one answer
saids-unique : {a b : DesksSaid} → a.largest ≡ b.largest → a.radio ≡ b.radio → a.television ≡ b.television
    → a ≡ b
saids-unique {a} {b} e f g =
    ap (λ (x : Said). record { largest = x; radio = a.radio; television = a.television }) e
    ∙ ap (λ (x : Said). record { largest = b.largest; radio = x; television = a.television }) f
    ∙ ap (λ (x : Said). record { largest = b.largest; radio = b.radio; television = x }) g

grids-unique : {g h : DeskGrids} → g.radio ≡ h.radio → g.television ≡ h.television → g.large ≡ h.large → g ≡ h
grids-unique {g} {h} e f k =
    ap (λ (x : List ℕ). record { radio = x; television = g.television; large = g.large }) e
    ∙ ap (λ (x : List ℕ). record { radio = h.radio; television = x; large = g.large }) f
    ∙ ap (λ (x : List ℕ). record { radio = h.radio; television = h.television; large = x }) k

module _ (template script bookings : List ℕ) where
  -- what is lent is read to a sheet, and each grid has its size
  lent : (grids : DeskGrids) (s : Sheet) → desks_reading template script bookings grids ≡ accepted s
      → (listed_reading template script bookings ≡ accepted s) × (length grids.radio ≡ size s)
      × (length grids.television ≡ size s) × (length grids.large ≡ size s)
  lent grids s r =
      let listed = listed_reading template script bookings in
      let one = then listed (with_grid grids.radio) in
      let (two, large) = grid-asked grids.large (then one (with_grid grids.television)) s r in
      let (three, television) = grid-asked grids.television one s two in
      let (taken, radio) = grid-asked grids.radio listed s three in
      (taken, radio, television, large)

  found-unique : (s : Sheet) → listed_reading template script bookings ≡ accepted s
      → {g h : DeskGrids} {a b : DesksSaid} → DesksFound s bookings g a → DesksFound s bookings h b
      → (a ≡ b) × (g ≡ h)
  found-unique s taken x y =
      let (read, inside) = list-asked bookings (read_sheet template script) s taken in
      let rep = (represented template script s read).1 in
      let (l, r, er, el) = both-found-unique rep (inside 0) x.radio y.radio in
      let (_, t, et, _) = both-found-unique rep (inside 1) x.television y.television in
      (saids-unique l r t, grids-unique er et el)

  pub desks-one-answer : (before g h : DeskGrids) (a b : DesksSaid) → DesksSays template script bookings before g a
      → DesksSays template script bookings before h b → (a ≡ b) × (g ≡ h)
  desks-one-answer before g h a b x y =
      answered-unique desks_refused (desks_reading template script bookings before) before g h a b
      (λ s r. found-unique s (lent before s r).0) x y

  pub desks-no-choice : (before g h : DeskGrids) (a b : Result Desks Refusal)
      → DesksSays template script bookings before g (desks_said a)
      → DesksSays template script bookings before h (desks_said b) → (a ≡ b) × (g ≡ h)
  desks-no-choice before g h a b x y =
      let (e, f) = desks-one-answer before g h (desks_said a) (desks_said b) x y in
      (desks-said-unique a b e, f)

  -- ---- each desk's typings are those of the call for both
  pub desks-as-both : (before after : DeskGrids) (said : DesksSaid) (s : Sheet)
      → desks_reading template script bookings before ≡ accepted s
      → DesksSays template script bookings before after said
      → BothSays template script bookings 0 (record { small = before.radio; large = before.large })
      (record { small = after.radio; large = after.large })
      (record { largest = said.largest; smallest = said.radio })
      × BothSays template script bookings 1 (record { small = before.television; large = before.large })
      (record { small = after.television; large = after.large })
      (record { largest = said.largest; smallest = said.television })
  desks-as-both before after said s r x =
      let (taken, radio, television, large) = lent before s r in
      let found : DesksFound s bookings after said = rw r at x in (
        rw (both-asked template script bookings s taken 0 (omega arith)
            (record { small = before.radio; large = before.large }) radio large) found.radio,
        rw (both-asked template script bookings s taken 1 (omega arith)
            (record { small = before.television; large = before.large }) television large) found.television,
      )
