-- What a part that was read obeys, and what the reading leaves in the row.
-- PartRead        what is known of a part that was read: its tree, and the row before and after
-- reads-part      a part that was read is so
-- reads-names     read from a row that has no names, it leaves the names of the part
-- Assumes nothing.
use mathlib.Core.Path.{◌≡◌, refl, ap, sym, ◌∙◌}
use mathlib.Core.Bool.{not}
use mathlib.Core.List.{List}
use mathlib.Core.Logic.{⊎_elim}
use Prim.Native.Nat.{ℕ, zero, suc, ◌+◌, ◌-◌, ◌≤◌, ◌<◌, max}
use native.Mathlib.Omega.{arith}
use native.Mathlib.Nat.{max-le}
use native.Mathlib.Numerals.{add-one}
use borrow.Author.Tests.{leb-false, eqb-true, eqb-false}
use lib.ListN.{length, get_or, set, length-set, replicate}
use lib.Seq.{get_or-set_same, get_or-set_other}
use lib.Dec.{ltb, leb, eqb}
use Rattle.bags.specs.Label.{Way, outgoing, incoming, first_label, label_of}
use Rattle.bags.specs.Part.{Part, Parts, Names, Single, ShapesBelow, KindsBelow, depth, run_depth, limit_of}
use Rattle.bags.specs.Named.{entry, first_entry, named, run_named}
use Rattle.bags.proofs.Naming.{named_none}
use Rattle.parts.specs.declared.Sizes.{Sizes}
use Rattle.parts.specs.Reading.{Code, wrapped, gathered, code_of, Found, found, into, after, no_names, limits_ok}
use Rattle.parts.specs.Reading.{read_link, read_run, read_group, read_code, read_part}
use Rattle.words.specs.Limits.{max_kinds, max_labels, min_group, max_group}
use Rattle.words.specs.Reading.{Reading, accepted, turned_down, then, mapped}
use Rattle.words.proofs.Bools.{cond-case, bool_case, true_of_not}
use Rattle.words.proofs.Readings.{refuse-case}
use Rattle.parts.proofs.Codes.{code-case}

-- The entries of a table.
first-none : (n : ℕ) → first_entry n 0 ≡ n
first-none zero = refl
first-none (suc n) = refl

first-assoc : (a b c : ℕ) → first_entry (first_entry a b) c ≡ first_entry a (first_entry b c)
first-assoc zero b c = refl
first-assoc (suc a) b c = refl

first-zero : (a b : ℕ) → first_entry a b ≡ 0 → (a ≡ 0) × (b ≡ 0)
first-zero zero b e = (refl, e)
first-zero (suc a) b e = absurd (omega arith)

pub no-entry : (n k : ℕ) → ◌≡◌ {A = ℕ} (get_or (replicate n 0) k 0) 0
no-entry zero k = refl
no-entry (suc n) zero = refl
no-entry (suc n) (suc k) = no-entry n k

-- What is known of a part that was read with so many levels left, and of the row after it.
pub record PartRead (sizes : Sizes) (left : ℕ) (row : List ℕ) (p : Part) (after : List ℕ) : Type 0 where
  -- no label stands twice
  pub single : Single p
  -- its shapes, kinds and depth are allowed
  pub shapes : ShapesBelow sizes.shapes p
  pub kinds : KindsBelow sizes.kinds p
  pub deep : depth p ≤ left
  -- the labels that it names were not named before
  pub fresh : (k : ℕ) → Names p k → get_or row k 0 ≡ 0
  -- the row has its names for the labels that were not named before, and is else unchanged
  pub entries : (k : ℕ) → get_or after k 0 ≡ first_entry (get_or row k 0) (named p k)
  pub size : length after ≡ length row

-- What was found has a property with the row that is left.
abbrev Finds : {A : Type 0} → (A → List ℕ → Type 0) → Reading (Found A) → Type 0
Finds P (accepted (found a next row)) = P a row
Finds P (turned_down number place) = Unit {0}

finds-mapped :
    {A B : Type 0} (P : A → List ℕ → Type 0) (Q : B → List ℕ → Type 0) (f : A → B) →
    ((a : A) (row : List ℕ) → P a row → Q (f a) row) → (r : Reading (Found A)) → Finds P r →
    Finds Q (mapped (into f) r)
finds-mapped P Q f h (accepted (found a next row)) w = h a row w
finds-mapped P Q f h (turned_down number place) w = tt

finds-then :
    {A B : Type 0} (P : A → List ℕ → Type 0) (Q : B → List ℕ → Type 0) (r : Reading (Found A))
    (rest : A → ℕ → List ℕ → Reading (Found B)) → Finds P r →
    ((a : A) (next : ℕ) (row : List ℕ) → P a row → Finds Q (rest a next row)) → Finds Q (then r (after rest))
finds-then P Q (accepted (found a next row)) rest w h = h a next row w
finds-then P Q (turned_down number place) rest w h = tt

-- The row after a link whose label had no entry.
link-entry :
    (row : List ℕ) (label shape k : ℕ) → label < length row → get_or row label 0 ≡ 0 →
    get_or (set row label (shape + 1)) k 0 ≡ first_entry (get_or row k 0) (entry (eqb k label) shape)
link-entry row label shape k b e =
    bool_case (eqb k label)
    (λ q. rw (q, eqb-true k label q, e) (get_or-set_same row label (shape + 1) 0 b ∙ add-one shape))
    (λ q. rw (q, first-none) (get_or-set_other row label k (shape + 1) 0 (eqb-false k label q)))

-- The labels of a way start at the count of kinds at the latest.
first-high : (way : Way) → first_label way ≤ max_kinds
first-high outgoing = omega arith
first-high incoming = omega arith

-- The row has an entry for each label of so many kinds.
abbrev Room : ℕ → List ℕ → Type 0
Room kinds row = max_kinds + kinds ≤ length row

module _ (sizes : Sizes) where
  -- A part inside star, plus or optional.
  wrapped-read :
      (n left : ℕ) (row : List ℕ) (p : Part) (after : List ℕ) → PartRead sizes left row p after →
      PartRead sizes (suc left) row (wrapped n p) after
  wrapped-read n left row p after w =
      let P : Part → Type 0 = λ q. PartRead sizes (suc left) row q after in
      let deep : suc (depth p) ≤ suc left = omega (arith, w.deep) in
      cond-case P (eqb n 1) _ _
      (λ e. record {
        single = w.single;
        shapes = w.shapes;
        kinds = w.kinds;
        deep = deep;
        fresh = w.fresh;
        entries = w.entries;
        size = w.size;
      })
      (λ e. cond-case P (eqb n 2) _ _
      (λ e₂. record {
        single = w.single;
        shapes = w.shapes;
        kinds = w.kinds;
        deep = deep;
        fresh = w.fresh;
        entries = w.entries;
        size = w.size;
      })
      (λ e₂. record {
        single = w.single;
        shapes = w.shapes;
        kinds = w.kinds;
        deep = deep;
        fresh = w.fresh;
        entries = w.entries;
        size = w.size;
      }))

  -- The parts of a choice are those of an all.
  gathered-read :
      (n left : ℕ) (row : List ℕ) (ps : Parts) (after : List ℕ) → PartRead sizes left row (Part.choice ps) after →
      PartRead sizes left row (gathered n ps) after
  gathered-read n left row ps after w =
      cond-case (λ q. PartRead sizes left row q after) (eqb n 16) _ _ (λ e. w)
      (λ e. record {
        single = w.single;
        shapes = w.shapes;
        kinds = w.kinds;
        deep = w.deep;
        fresh = w.fresh;
        entries = w.entries;
        size = w.size;
      })

  nothing_read : (left : ℕ) (row : List ℕ) → PartRead sizes (suc left) row Part.nothing row
  nothing_read left row =
      record {
        single = tt;
        shapes = tt;
        kinds = tt;
        deep = omega arith;
        fresh = λ k n. absurd n;
        entries = λ k. sym (first-none _);
        size = refl;
      }

  none_read : (left : ℕ) (row : List ℕ) → PartRead sizes (suc left) row (Part.choice Parts.none) row
  none_read left row =
      record {
        single = tt;
        shapes = tt;
        kinds = tt;
        deep = omega arith;
        fresh = λ k n. absurd n;
        entries = λ k. sym (first-none _);
        size = refl;
      }

  -- A part, and then the rest of its run.
  more-read :
      (left : ℕ) (row : List ℕ) (p : Part) (mid : List ℕ) (ps : Parts) (after : List ℕ) →
      PartRead sizes left row p mid → PartRead sizes (suc left) mid (Part.choice ps) after →
      PartRead sizes (suc left) row (Part.choice (Parts.more p ps)) after
  more-read left row p mid ps after a b =
      let rest : run_depth ps ≤ left = omega (arith, b.deep) in
      let m : max (depth p) (run_depth ps) ≤ left = max-le a.deep rest in
      record {
        single = (
          a.single,
          b.single,
          λ k n o. named_none p k (first-zero (get_or row k 0) (named p k) (sym (a.entries k) ∙ b.fresh k o)).1 n,
        );
        shapes = (a.shapes, b.shapes);
        kinds = (a.kinds, b.kinds);
        deep = omega arith;
        fresh =
            λ k n.
            ⊎_elim (a.fresh k)
            (λ o. (first-zero (get_or row k 0) (named p k) (sym (a.entries k) ∙ b.fresh k o)).0) n;
        entries =
            λ k. b.entries k ∙ ap (λ (x : ℕ). first_entry x (run_named ps k)) (a.entries k)
            ∙ first-assoc (get_or row k 0) (named p k) (run_named ps k);
        size = b.size ∙ a.size;
      }

  -- A link whose label had no entry.
  link-read :
      (left : ℕ) (row : List ℕ) (way : Way) (kind shape low high : ℕ) → kind < sizes.kinds → Room sizes.kinds row →
      get_or row (label_of way kind) 0 ≡ 0 → shape < sizes.shapes →
      PartRead sizes (suc left) row (Part.link (label_of way kind) shape low (limit_of high))
      (set row (label_of way kind) (shape + 1))
  link-read left row way kind shape low high a b e c =
      record {
        single = tt;
        shapes = c;
        kinds = (way, kind, a, refl);
        deep = omega arith;
        fresh = λ k n. rw n e;
        entries = λ k. link-entry row (label_of way kind) shape k (omega (arith, first-high way)) e;
        size = length-set row (label_of way kind) (shape + 1);
      }

  -- A run of parts, each of which is read so.
  run-reads :
      (inner : ℕ → List ℕ → Reading (Found Part)) (left : ℕ) →
      ((at : ℕ) (row : List ℕ) → Room sizes.kinds row → Finds (PartRead sizes left row) (inner at row)) →
      (n at : ℕ) (row : List ℕ) → Room sizes.kinds row →
      Finds (λ ps after. PartRead sizes (suc left) row (Part.choice ps) after) (read_run inner n at row)
  unfolding read_run
  run-reads inner left h zero at row b = none_read left row
  run-reads inner left h (suc n) at row b =
      finds-then (PartRead sizes left row) (λ ps after. PartRead sizes (suc left) row (Part.choice ps) after)
      (inner at row) (λ p next mid. mapped (into (Parts.more p)) (read_run inner n next mid)) (h at row b)
      (λ p next mid w.
      finds-mapped (λ ps after. PartRead sizes (suc left) mid (Part.choice ps) after)
      (λ ps after. PartRead sizes (suc left) row (Part.choice ps) after) (Parts.more p)
      (λ ps after v. more-read left row p mid ps after w v) (read_run inner n next mid)
      (run-reads inner left h n next mid (omega (arith, w.size))))

  module _ (words : List ℕ) (end : ℕ) where
    link-reads :
        (left at : ℕ) (row : List ℕ) (way : Way) (kind : ℕ) → Room sizes.kinds row →
        Finds (PartRead sizes (suc left) row) (read_link words end sizes at row (first_label way) kind)
    unfolding read_link
    link-reads left at row way kind b =
        let P : Reading (Found Part) → Type 0 = Finds (PartRead sizes (suc left) row) in
        refuse-case 4 end P (ltb (end - at) 4) _ (λ e. tt)
        (λ e. refuse-case 7 at P (leb sizes.kinds kind) _ (λ e₂. tt)
        (λ e₂. refuse-case 8 at P (not (eqb (get_or row (label_of way kind) 0) 0)) _ (λ e₃. tt)
        (λ e₃. refuse-case 9 (at + 1) P (leb sizes.shapes (get_or words (at + 1) 0)) _ (λ e₄. tt)
        (λ e₄. refuse-case 10 (at + 2) P (not (limits_ok (get_or words (at + 2) 0) (get_or words (at + 3) 0))) _ (λ
        e₅. tt)
        (λ e₅. link-read left row way kind (get_or words (at + 1) 0) (get_or words (at + 2) 0) (get_or words (at +
        3) 0)
        (leb-false _ _ e₂) b (eqb-true _ _ (true_of_not e₃)) (leb-false _ _ e₄))))))

    group_reads :
        (left at : ℕ) (row : List ℕ) → Room sizes.kinds row →
        ((m : ℕ) (l : List ℕ) → Room sizes.kinds l →
        Finds (PartRead sizes left l) (read_part left words end sizes m l)) →
        Finds (λ ps after. PartRead sizes (suc left) row (Part.choice ps) after)
        (read_group (read_part left words end sizes) words end at row)
    group_reads left at row b h =
        let P : Reading (Found Parts) → Type 0 =
        Finds (λ ps after. PartRead sizes (suc left) row (Part.choice ps) after) in
        refuse-case 4 end P (ltb (end - at) 2) _ (λ e. tt)
        (λ e. refuse-case 11 (at + 1) P (ltb (get_or words (at + 1) 0) min_group) _ (λ e₂. tt)
        (λ e₂. refuse-case 11 (at + 1) P (ltb max_group (get_or words (at + 1) 0)) _ (λ e₃. tt)
        (λ e₃. run-reads (read_part left words end sizes) left h (get_or words (at + 1) 0) (at + 2) row b)))

    code_reads :
        (n left at : ℕ) (row : List ℕ) → Room sizes.kinds row →
        ((m : ℕ) (l : List ℕ) → Room sizes.kinds l →
        Finds (PartRead sizes left l) (read_part left words end sizes m l)) →
        Finds (PartRead sizes (suc left) row)
        (read_code (code_of n) (read_part left words end sizes) words end sizes at row)
    code_reads n left at row b h =
        let P : Code → Type 0 =
        λ code. Finds (PartRead sizes (suc left) row)
        (read_code code (read_part left words end sizes) words end sizes at row) in
        code-case P n (λ e. nothing_read left row)
        (λ a c. finds-mapped (PartRead sizes left row) (PartRead sizes (suc left) row) (wrapped n)
        (λ p after w. wrapped-read n left row p after w) (read_part left words end sizes (at + 1) row)
        (h (at + 1) row b))
        (λ a c. finds-mapped (λ ps after. PartRead sizes (suc left) row (Part.choice ps) after)
        (PartRead sizes (suc left) row) (gathered n)
        (λ ps after w. gathered-read n (suc left) row ps after w)
        (read_group (read_part left words end sizes) words end at row) (group_reads left at row b h))
        (λ way kind e. link-reads left at row way kind b)
        tt
        tt

    part-reads :
        (left at : ℕ) (row : List ℕ) → Room sizes.kinds row →
        Finds (PartRead sizes left row) (read_part left words end sizes at row)
    unfolding read_part
    part-reads zero at row b = refuse-case 4 end (Finds (PartRead sizes zero row)) (leb end at) _ (λ e. tt) (λ e. tt)
    part-reads (suc left) at row b =
        refuse-case 4 end (Finds (PartRead sizes (suc left) row)) (leb end at) _ (λ e. tt)
        (λ e. code_reads (get_or words at 0) left at row b (part-reads left))

    -- A part that was read is allowed, and the row has its names.
    pub reads-part :
        (left at : ℕ) (row : List ℕ) (p : Part) (next : ℕ) (after : List ℕ) → Room sizes.kinds row →
        read_part left words end sizes at row ≡ accepted (found p next after) → PartRead sizes left row p after
    reads-part left at row p next after b e = rw e at (part-reads left at row b)

    -- Read from a row that has no names, a part leaves its names there.
    pub reads-names :
        (left at : ℕ) (p : Part) (next : ℕ) (after : List ℕ) → sizes.kinds ≤ max_kinds →
        read_part left words end sizes at no_names ≡ accepted (found p next after) → (k : ℕ) → get_or after k 0 ≡
        named p k
    reads-names left at p next after b e k =
        let w = reads-part left at no_names p next after (omega arith) e in
        w.entries k ∙ ap (λ (n : ℕ). first_entry n (named p k)) (no-entry max_labels k)
