-- `strikes::index_names` chains the places of a half of the table. The invariant: those below p are chained, and from p
-- on the links of the chains are 0. Assumes nothing.
use mathlib.Core.Path.{subst, ◌≡◌, refl, sym, ap, ◌∙◌}
use mathlib.Core.List.{List}
use Prim.Native.Nat.{ℕ, ◌≤◌, ◌<◌, ◌+◌, ◌*◌, ◌-◌, ◌%◌}
use native.Mathlib.Omega.{arith}
use lib.ListN.{length-set, length, get_or, set}
use lib.Seq.{get_or-set_other}
use Rattle.words.specs.Limits.{max_kinds, max_shapes}
use Rattle.words.proofs.Places.{shape-in}
use Rattle.words.specs.Chain.{Chained}
use Rattle.words.proofs.Chains.{chained-none, chained_more, chained-skip}
use Rattle.strikes.specs.Indexes.{entry_key, half_entry}
use Rattle.strikes.proofs.Names.{half_place, half-bound, key-none, key_of, key-own}
use Rattle.strikes.proofs.index.index_names.Invariants.{IndexedTo}
use Rattle.strikes.proofs.index.index_names.Goals as goal
use Rattle.strikes.proofs.index.index_names.Goals.{After-from-entry, After-entry_place, After-name_key-key}
use Rattle.strikes.proofs.index.index_names.Goals.{then-entry-gt0, else-entry-gt0}

pub loop-p-init : goal.loop-p-init
loop-p-init c =
    record {
      keys = refl;
      places = refl;
      chained = chained-none (entry_key c.args.names.now c.args.start) c.args.first.now c.args.next.now
          c.requires.blank.zeros;
      zeros = λ i _ l. c.requires.zeros i l;
    }

-- its entry
entry-is : (a : After-from-entry) → a.from-entry.result ≡ half_entry a.args.names.now a.args.start a.loop-p.p
entry-is a =
    let names = a.args.names.now in
    a.from-entry.ensures
    ∙ ap (λ (x : ℕ). get_or names x 0) a.entry_place.ensures
    ∙ half_place names a.args.start a.loop-p.p

-- an entry is a shape plus one at most, so its key has a head
entry-low : (a : After-from-entry) → a.from-entry.result ≤ max_shapes
entry-low a =
    omega (
      arith,
      entry-is a,
      half-bound a.args.names.now a.args.start a.loop-p.p a.requires.table a.requires.half
          a.loop-p-test.true,
    )

-- after a turn: the chains that the next one starts from
abbrev After : After-from-entry → List ℕ → List ℕ → Type 0
After a first next =
    IndexedTo a.args.names.now a.args.start (length a.args.first.now)
    (length a.args.next.now) first next (a.loop-p.p + 1)

-- the place names a shape, and is chained
one_more : (k : After-from-entry) (key : ℕ) → 0 < k.from-entry.result
    → key ≡ k.loop-p.p % max_kinds * max_shapes + (k.from-entry.result - 1)
    → After k (set k.loop-p.first key (k.loop-p.p + 1))
    (set k.loop-p.next k.loop-p.p (get_or k.loop-p.first key 0))
one_more k key some named =
    let names = k.args.names.now in
    let first = k.loop-p.first in
    let next = k.loop-p.next in
    let p = k.loop-p.p in
    let head = get_or first key 0 in
    let so_far = k.loop-p.invariant in
    let low : key < length first =
    omega (arith, named, entry-low k, shape-in max_kinds (omega arith) p, so_far.keys, k.requires.keys) in
    let is = named
    ∙ ap (λ (x : ℕ). p % max_kinds * max_shapes + (x - 1)) (entry-is k)
    ∙ sym (key_of names k.args.start p (λ z. omega (arith, entry-is k, z, some))) in
    record {
      keys = length-set first key (p + 1) ∙ so_far.keys;
      places = length-set next p head ∙ so_far.places;
      chained = chained_more (entry_key names k.args.start) first next p key so_far.chained is low (omega (
        arith,
        k.loop-p-test.true,
        k.requires.blank.room,
        so_far.places,
      ));
      zeros = λ j past small. get_or-set_other next p j head 0 (λ e. omega (arith, e, past))
          ∙ so_far.zeros j (omega arith) (omega (arith, length-set next p head));
    }

-- it names none, and is passed over
none_here : (a : After-from-entry) → a.from-entry.result ≤ 0 → After a a.loop-p.first a.loop-p.next
none_here a none =
    let names = a.args.names.now in
    let start = a.args.start in
    let p = a.loop-p.p in
    let so_far = a.loop-p.invariant in
    let empty : half_entry names start p ≡ 0 = omega (arith, entry-is a, none) in
    record {
      keys = so_far.keys;
      places = so_far.places;
      chained = chained-skip (entry_key names start) a.loop-p.first a.loop-p.next p so_far.chained
          (omega (arith, key-none names start p empty, so_far.keys, a.requires.keys))
          (λ q lq. key-own names start p q empty
          (half-bound names start q a.requires.table a.requires.half (omega (arith, lq, a.loop-p-test.true))) lq)
          (so_far.zeros p (omega arith) (omega (arith, a.loop-p-test.true, a.requires.blank.room, so_far.places)));
      zeros = λ j past. so_far.zeros j (omega arith);
    }

pub loop-p-preserved : goal.loop-p-preserved
loop-p-preserved c =
    let b = (goal.at.loop-p-preserved c).After-from-entry in
    elim c.if-entry-gt0.branch [
      | then-entry-gt0 w ↦ rw (w.first-is, w.next-is)
          (one_more b w.name_key-key.result w.if-entry-gt0.true w.name_key-key.ensures)
      | else-entry-gt0 w ↦ rw (w.first-is, w.next-is) (none_here b w.if-entry-gt0.false)
    ]

pub returns : goal.returns
returns c =
    let filled = c.loop-p.invariant in
    let all-places : c.loop-p.p ≡ c.args.shapes * max_kinds = omega arith in
    record {
      keys = filled.keys ∙ c.requires.keys;
      places = omega (arith, filled.places, c.requires.blank.room);
      chained = subst (Chained (entry_key c.args.names.now c.args.start) c.loop-p.first c.loop-p.next) all-places
          filled.chained;
    }
