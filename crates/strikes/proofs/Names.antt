-- The chains of the places of one half of the table, by kind and shape named.
--   ready-table            the table of a script that is ready; names-asked: what indexing one half of it asks
--   half_place             the entry that is read at a place of the half
--   half-bound             an entry of a half is a shape plus one, or 0
--   key-none, key_of       the key of a place that names no shape, and of one that does
--   key-own                no other place has the key of one that names no shape
--   key-names, names_key   a place has the key of a kind and a shape if it stands at the kind and names the shape
--   row_in                 such pairs are on the board
--   named-exact            the numbers of such a chain make good just the pairs of NamedGood
-- Assumes nothing.
use mathlib.Core.Path.{◌≡◌, refl, sym, ap, ap₂, ◌∙◌}
use mathlib.Core.Logic.{⊎_elim}
use mathlib.Core.List.{List}
use Prim.Native.Nat.{ℕ, suc, ◌+◌, ◌-◌, ◌*◌, ◌/◌, ◌%◌, ◌≤◌, ◌<◌}
use native.Mathlib.Omega.{arith}
use lib.ListN.{length, get_or, replicate, length-replicate, get_or-replicate}
use borrow.Author.Tests.{eq-eqb, ne_eqb}
use Rattle.board.specs.Work.{Work, Swept}
use Rattle.words.proofs.Bools.{eq-or-ne}
use Rattle.board.proofs.Worklist.{swept_same}
use Rattle.words.specs.Limits.{max_kinds, max_labels, max_shapes}
use Rattle.template.specs.Machine.{entry_at}
use Rattle.typing.specs.Needs.{Ready}
use Rattle.typing.proofs.Boards.{entries-bound}
use Rattle.strikes.specs.Indexes.{half_entry, entry_key, name_keys, Table, NamesAsked}
use Rattle.strikes.specs.Strikes.{NamedGood}
use Rattle.words.proofs.Places.{place_in, card-in, card-of, shape-in, shape_of}
use Rattle.walks.proofs.Walks.{Later}

pub ready-table : {script names : List ℕ} {shapes : ℕ} → Ready script names shapes → Table names shapes
ready-table ready = record { few-shapes = ready.few-shapes; rows = ready.table; entries = entries-bound ready }

pub names-asked : {names : List ℕ} {shapes start : ℕ} → Table names shapes → start ≤ max_kinds
    → NamesAsked names start shapes (replicate name_keys 0) (replicate name_keys 0)
names-asked table half =
    let zero-at : (i : ℕ) → i < length {A = ℕ} (replicate name_keys 0) → get_or {A = ℕ} (replicate name_keys 0) i 0
    ≡ 0 =
    λ i l. get_or-replicate {A = ℕ} name_keys i 0 0 (omega (arith, length-replicate {A = ℕ} name_keys 0)) in
    record {
      table = table;
      half = half;
      keys = length-replicate {A = ℕ} name_keys 0;
      blank = record {
        zeros = zero-at;
        room = omega (arith, length-replicate {A = ℕ} name_keys 0, table.few-shapes);
      };
      zeros = zero-at;
    }

module _ (names : List ℕ) (start p : ℕ) where
  -- the entry at a place of the half is read at its shape's row and its kind's label
  pub half_place : get_or names (p / max_kinds * max_labels + start + p % max_kinds) 0 ≡ half_entry names start p
  half_place = ap (λ (x : ℕ). get_or names x 0) (omega arith)

  pub half_in : (shapes : ℕ) → start ≤ max_kinds → p < shapes * max_kinds
      → p / max_kinds * max_labels + (start + p % max_kinds) < shapes * max_labels
  half_in shapes half l = place_in shapes max_labels (p / max_kinds) (start + p % max_kinds)
      (card-in max_kinds (omega arith) shapes p l) (omega (arith, shape-in max_kinds (omega arith) p))

  pub half-bound : {shapes : ℕ} → Table names shapes → start ≤ max_kinds → p < shapes * max_kinds
      → half_entry names start p ≤ max_shapes
  half-bound {shapes} table half l =
      table.entries (p / max_kinds * max_labels + (start + p % max_kinds)) (half_in shapes half l)

  pub key-none : half_entry names start p ≡ 0 → entry_key names start p ≡ name_keys + p
  unfolding entry_key
  key-none e = rw (eq-eqb (half_entry names start p) 0 e) refl

  pub key_of : (half_entry names start p ≡ 0 → ⊥)
      → entry_key names start p ≡ p % max_kinds * max_shapes + (half_entry names start p - 1)
  unfolding entry_key
  key_of ne = rw (ne_eqb (half_entry names start p) 0 ne) refl

  module _ (kind u : ℕ) (lk : kind < max_kinds) (lu : u < max_shapes) where
    key-names : half_entry names start p ≤ max_shapes → entry_key names start p ≡ kind * max_shapes + u
        → (p % max_kinds ≡ kind) × (half_entry names start p ≡ suc u)
    key-names few e = ⊎_elim
        (λ z. absurd (omega (arith, key-none z, e, lk, lu)))
        (λ ne. (omega (arith, key_of ne, e, few, lu), omega (arith, key_of ne, e, few, lu)))
        (eq-or-ne (half_entry names start p) 0)

    names_key : p % max_kinds ≡ kind → half_entry names start p ≡ suc u
        → entry_key names start p ≡ kind * max_shapes + u
    names_key ek eu = omega (arith, key_of (λ z. absurd (omega (arith, z, eu))), ek, eu)

-- A place that names no shape has a key of its own.
pub key-own : (names : List ℕ) (start p q : ℕ) → half_entry names start p ≡ 0 → half_entry names start q ≤ max_shapes
    → q < p → entry_key names start q ≡ entry_key names start p → ⊥
key-own names start p q none few l e = ⊎_elim
    (λ z. omega (arith, key-none names start p none, key-none names start q z, e, l))
    (λ ne. omega (
      arith,
      key-none names start p none,
      key_of names start q ne,
      shape-in max_kinds (omega arith) q,
      few,
      e,
    ))
    (eq-or-ne (half_entry names start q) 0)

-- The place i of the half makes good the pair at `base` of the shape whose row it is in.
abbrev pub RowGood : ℕ → ℕ → ℕ → Type 0
RowGood base i p = p ≡ base + i / max_kinds

-- The pairs of the first rows are those of the card's shapes.
pub row_in : (shapes base : ℕ) {key : ℕ → ℕ} {m n lo p : ℕ} → base + shapes ≤ n
    → Later key m (shapes * max_kinds) (RowGood base) lo p → p < n
row_in shapes base l g = omega (arith, g.good, card-in max_kinds (omega arith) shapes g.number g.below)

module _ (names : List ℕ) (start shapes kind base u : ℕ)
    (table : Table names shapes) (half : start ≤ max_kinds) (lk : kind < max_kinds) (lu : u < max_shapes)
    {key : ℕ} (is : key ≡ kind * max_shapes + u) where
  abbrev Chain : ℕ → Type 0
  Chain p = Later (entry_key names start) key (shapes * max_kinds) (RowGood base) 0 p

  later-named : (p : ℕ) → Chain p → NamedGood names shapes (start + kind) base u p
  later-named p g =
      let few = half-bound names start g.number table half g.below in
      let here = key-names names start g.number kind u lk lu few (g.has_key ∙ is) in
      record {
        by = g.number / max_kinds;
        below = card-in max_kinds (omega arith) shapes g.number g.below;
        names-it = ap (λ (x : ℕ). entry_at names (g.number / max_kinds) (start + x)) (sym here.0) ∙ here.1;
        at = g.good;
      }

  named-later : (p : ℕ) → NamedGood names shapes (start + kind) base u p → Chain p
  named-later p g =
      let row = card-of max_kinds (omega arith) g.by kind lk in
      let column = shape_of max_kinds (omega arith) g.by kind lk in
      record {
        number = g.by * max_kinds + kind;
        low = omega arith;
        below = omega (arith, g.below, lk);
        has_key = names_key names start (g.by * max_kinds + kind) kind u lk lu column
            (ap₂ (λ (t k : ℕ). entry_at names t (start + k)) row column ∙ g.names-it)
            ∙ sym is;
        good = g.at ∙ ap (λ (x : ℕ). base + x) (sym row);
      }

  pub named-exact : {w v : Work} → Swept Chain w v → Swept (NamedGood names shapes (start + kind) base u) w v
  named-exact s = swept_same later-named named-later s
