-- What is written is read: the words of a part are read as the part.
-- PartReady, RunReady   what a part, and a run, must be where it is read: with so many levels left, and with a row
-- limit-read            the word for a high is read as that high
-- part-written          the words of a part are read as the part, up to the place after them; run-written: of a run
-- not-opening           they do not start with the word of an open shape
-- Assumes nothing.
use Prim.Native.Nat.{ℕ, zero, suc, ◌+◌, ◌-◌, ◌≤◌, ◌<◌}
use mathlib.Core.Path.{◌≡◌, refl, sym, ap, ◌∙◌}
use mathlib.Core.Logic.{inl, inr}
use mathlib.Core.Bool.{true}
use mathlib.Core.List.{List, [], ◌∷◌, ◌++◌}
use native.Mathlib.Omega.{arith}
use borrow.Author.Tests.{le-ltb, le-leb, lt-leb, eq-eqb, ne_eqb}
use lib.ListN.{length, get_or, set, length-append}
use Rattle.words.specs.Limits.{max_kinds, min_group, max_group, no_limit}
use Rattle.words.specs.Reading.{Reading, accepted}
use Rattle.bags.specs.Part.{Limit, at_most, no-limit, Part, Parts, Names, RunNames, Single, RunSingle, depth}
use Rattle.bags.specs.Part.{run_depth, ShapesBelow, RunShapesBelow, KindsBelow, RunKindsBelow, limit_of}
use Rattle.parts.specs.declared.Sizes.{Sizes}
use Rattle.parts.specs.Reading.{single, group, code_of, Found, found, limits_ok, read_link, read_run}
use Rattle.parts.specs.Reading.{read_group, read_code, read_part}
use Rattle.parts.specs.Writer.{write_limit, run_length, write_part, write_run}
use Rattle.parts.specs.Writer.{LimitsIn, WithinLimits, RunWithinLimits}
use Rattle.parts.proofs.Codes.{code-link}
use Rattle.parts.proofs.Stands.{Stands, stands_here, stands_after, stands-left, stands-right}
use Rattle.parts.proofs.Rows.{row_after, run_row_after, row_kept}

-- The test lets such limits pass, and the word for a high is read as that high.
limits-pass : (low : ℕ) (high : Limit) → LimitsIn low high → limits_ok low (write_limit high) ≡ true
limits-pass low (at_most high) h =
    let (a, b, c) = h in
    let d : high ≡ no_limit → ⊥ = omega arith in
    simp (le-ltb _ _ a, ne_eqb _ _ d, le-ltb _ _ b, le-leb _ _ c)
limits-pass low no-limit h = simp (le-ltb _ _ h)

pub limit-read : (low : ℕ) (high : Limit) → LimitsIn low high → limit_of (write_limit high) ≡ high
limit-read low (at_most high) h =
    let (a, b, c) = h in
    let d : high ≡ no_limit → ⊥ = omega arith in
    simp (ne_eqb _ _ d)
limit-read low no-limit h = refl

-- What a part must be to be read with so many levels left, where the row has an entry for each label named before.
pub record PartReady (sizes : Sizes) (left : ℕ) (row : List ℕ) (p : Part) : Type 0 where
  pub once : Single p
  pub labels : KindsBelow sizes.kinds p
  pub targets : ShapesBelow sizes.shapes p
  pub deep : depth p ≤ left
  pub limits : WithinLimits p
  pub fresh : (k : ℕ) → Names p k → get_or row k 0 ≡ 0

-- The same of a run of parts.
record RunReady (sizes : Sizes) (left : ℕ) (row : List ℕ) (ps : Parts) : Type 0 where
  pub once : RunSingle ps
  pub labels : RunKindsBelow sizes.kinds ps
  pub targets : RunShapesBelow sizes.shapes ps
  pub deep : run_depth ps ≤ left
  pub limits : RunWithinLimits ps
  pub fresh : (k : ℕ) → RunNames ps k → get_or row k 0 ≡ 0

module _ {sizes : Sizes} (left : ℕ) (row : List ℕ) where
  -- a part one level further in
  ready : (p : Part) → Single p → KindsBelow sizes.kinds p → ShapesBelow sizes.shapes p → depth p ≤ left
      → WithinLimits p → ((k : ℕ) → Names p k → get_or row k 0 ≡ 0) → PartReady sizes left row p
  ready p a b c d e f =
      record { once = a; labels = b; targets = c; deep = d; limits = e; fresh = f }

  run-ready : (ps : Parts) → RunSingle ps → RunKindsBelow sizes.kinds ps → RunShapesBelow sizes.shapes ps
      → run_depth ps ≤ left → RunWithinLimits ps → ((k : ℕ) → RunNames ps k → get_or row k 0 ≡ 0)
      → RunReady sizes left row ps
  run-ready ps a b c d e f =
      record { once = a; labels = b; targets = c; deep = d; limits = e; fresh = f }

module _ (words : List ℕ) (end : ℕ) (sizes : Sizes) (few : sizes.kinds ≤ max_kinds) where
  -- A part starts with its code.
  part-at : (left at code : ℕ) (row : List ℕ) → 1 ≤ left → at < end → get_or words at 0 ≡ code
      → read_part left words end sizes at row
      ≡ read_code (code_of code) (read_part (left - 1) words end sizes) words end sizes at row
  unfolding read_part
  part-at zero at code row d l e = absurd (omega arith)
  part-at (suc left) at code row d l e = let n : suc left - 1 ≡ left = omega arith in simp (lt-leb _ _ l, e, n)

  link_at : (at : ℕ) (row : List ℕ) (first kind label shape low : ℕ) (high : Limit) → label ≡ first + kind
      → kind < sizes.kinds → get_or row label 0 ≡ 0 → shape < sizes.shapes → LimitsIn low high
      → Stands words at (write_part (Part.link label shape low high)) → at + 4 ≤ end
      → read_link words end sizes at row first kind
      ≡ accepted (found (Part.link label shape low high) (at + 4) (set row label (shape + 1)))
  unfolding read_link
  link_at at row first kind label shape low high q k u t limits s e =
      let a : 4 ≤ end - at = omega arith in
      let f : get_or words (at + 1) 0 ≡ shape = s 1 (omega arith) in
      let g : get_or words (at + 2) 0 ≡ low = s 2 (omega arith) in
      let h : get_or words (at + 3) 0 ≡ write_limit high = s 3 (omega arith) in
      simp (
        sym q,
        le-ltb _ _ a,
        lt-leb _ _ k,
        eq-eqb _ _ u,
        f,
        g,
        h,
        lt-leb _ _ t,
        limits-pass low high limits,
        limit-read low high limits,
      )

  -- A group starts with its code and the count of its parts.
  group_at : (inner : ℕ → List ℕ → Reading (Found Part)) (at count : ℕ) (row : List ℕ)
      → at + 2 ≤ end → get_or words (at + 1) 0 ≡ count → min_group ≤ count → count ≤ max_group
      → read_group inner words end at row ≡ read_run inner count (at + 2) row
  group_at inner at count row l e a b =
      let c : 2 ≤ end - at = omega arith in
      simp (le-ltb _ _ c, e, le-ltb _ _ a, le-ltb _ _ b)

  -- A part inside star, plus or optional.
  single-at : (left at code : ℕ) (row : List ℕ) (f : Part → Part) (p : Part) (after : List ℕ)
      → suc (depth p) ≤ left → code_of code ≡ single f → at + suc (length (write_part p)) ≤ end
      → Stands words at (code ∷ write_part p)
      → read_part (left - 1) words end sizes (at + 1) row ≡ accepted (found p (at + 1 + length (write_part p)) after)
      → read_part left words end sizes at row ≡ accepted (found (f p) (at + suc (length (write_part p))) after)
  single-at left at code row f p after d c e s inside =
      let place : at + 1 + length (write_part p) ≡ at + suc (length (write_part p)) = omega arith in
      part-at left at code row (omega arith) (omega arith) (stands_here words at code (write_part p) s)
      ∙ simp (c, inside, place)

  -- A choice or an all.
  group-read : (left at code : ℕ) (row : List ℕ) (f : Parts → Part) (ps : Parts) (after : List ℕ)
      → suc (run_depth ps) ≤ left → code_of code ≡ group f → at + suc (suc (length (write_run ps))) ≤ end
      → Stands words at (code ∷ run_length ps ∷ write_run ps) → min_group ≤ run_length ps → run_length ps ≤ max_group
      → read_run (read_part (left - 1) words end sizes) (run_length ps) (at + 2) row
      ≡ accepted (found ps (at + 2 + length (write_run ps)) after)
      → read_part left words end sizes at row
      ≡ accepted (found (f ps) (at + suc (suc (length (write_run ps)))) after)
  group-read left at code row f ps after d c e s a b inside =
      let place : at + 2 + length (write_run ps) ≡ at + suc (suc (length (write_run ps))) = omega arith in
      part-at left at code row (omega arith) (omega arith) (stands_here words at code (run_length ps ∷ write_run ps) s)
      ∙ simp (
        c,
        group_at (read_part (left - 1) words end sizes) at (run_length ps) row (omega arith)
            (s 1 (omega arith)) a b,
        inside,
        place,
      )

  -- The parts of a group stand two places on.
  inside-group : (at code count : ℕ) (xs : List ℕ) → Stands words at (code ∷ count ∷ xs) → Stands words (at + 2) xs
  inside-group at code count xs s =
      let e : at + 1 + 1 ≡ at + 2 = omega arith in
      rw e at (stands_after words (at + 1) count xs (stands_after words at code (count ∷ xs) s))

  mutual
    unfolding read_run

    pub part-written : (p : Part) (left at : ℕ) (row : List ℕ) → PartReady sizes left row p
        → Stands words at (write_part p) → at + length (write_part p) ≤ end
        → read_part left words end sizes at row
        ≡ accepted (found p (at + length (write_part p)) (row_after p row))
    part-written Part.nothing left at row r s e =
        part-at left at 0 row r.deep (omega arith) (stands_here words at 0 [] s)
    part-written (Part.star p) left at row r s e =
        single-at left at 1 row Part.star p (row_after p row) r.deep refl e s
        (part-written p (left - 1) (at + 1) row
        (ready (left - 1) row p r.once r.labels r.targets (omega (arith, r.deep)) r.limits r.fresh)
        (stands_after words at 1 (write_part p) s) (omega arith))
    part-written (Part.plus p) left at row r s e =
        single-at left at 2 row Part.plus p (row_after p row) r.deep refl e s
        (part-written p (left - 1) (at + 1) row
        (ready (left - 1) row p r.once r.labels r.targets (omega (arith, r.deep)) r.limits r.fresh)
        (stands_after words at 2 (write_part p) s) (omega arith))
    part-written (Part.optional p) left at row r s e =
        single-at left at 3 row Part.optional p (row_after p row) r.deep refl e s
        (part-written p (left - 1) (at + 1) row
        (ready (left - 1) row p r.once r.labels r.targets (omega (arith, r.deep)) r.limits r.fresh)
        (stands_after words at 3 (write_part p) s) (omega arith))
    part-written (Part.choice ps) left at row r s e =
        let (a, b, limits) = r.limits in
        group-read left at 16 row Part.choice ps (run_row_after ps row) r.deep refl e s a b
        (run-written ps (left - 1) (at + 2) row
        (run-ready (left - 1) row ps r.once r.labels r.targets (omega (arith, r.deep)) limits r.fresh)
        (inside-group at 16 (run_length ps) (write_run ps) s) (omega arith))
    part-written (Part.all ps) left at row r s e =
        let (a, b, limits) = r.limits in
        group-read left at 17 row Part.all ps (run_row_after ps row) r.deep refl e s a b
        (run-written ps (left - 1) (at + 2) row
        (run-ready (left - 1) row ps r.once r.labels r.targets (omega (arith, r.deep)) limits r.fresh)
        (inside-group at 17 (run_length ps) (write_run ps) s) (omega arith))
    part-written (Part.link label shape low high) left at row r s e =
        let (way, kind, l, q) = r.labels in
        part-at left at (256 + label) row r.deep (omega arith)
        (stands_here words at (256 + label) (shape ∷ low ∷ write_limit high ∷ []) s)
        ∙ simp (
          code-link way kind (256 + label) (omega arith) (ap (◌+◌ 256) q),
          link_at at row _ kind label shape low high q l (r.fresh label refl) r.targets r.limits s e,
        )

    run-written : (ps : Parts) (left at : ℕ) (row : List ℕ) → RunReady sizes left row ps
        → Stands words at (write_run ps) → at + length (write_run ps) ≤ end
        → read_run (read_part left words end sizes) (run_length ps) at row
        ≡ accepted (found ps (at + length (write_run ps)) (run_row_after ps row))
    run-written Parts.none left at row r s e = let place : at + 0 ≡ at = omega arith in rw place refl
    run-written (Parts.more p ps) left at row r s e =
        let n : length (write_part p ++ write_run ps) ≡ length (write_part p) + length (write_run ps) =
        length-append (write_part p) (write_run ps) in
        let (one, rest, apart) = r.once in
        let first = part-written p left at row
        (ready left row p one r.labels.0 r.targets.0 (omega (arith, r.deep)) r.limits.0
        (λ k named. r.fresh k (inl named)))
        (stands-left words at (write_part p) (write_run ps) s) (omega arith) in
        let others = run-written ps left (at + length (write_part p)) (row_after p row)
        (run-ready left (row_after p row) ps rest r.labels.1 r.targets.1 (omega (arith, r.deep)) r.limits.1
        (λ k named. row_kept p row k (λ m. apart k m named) ∙ r.fresh k (inr named)))
        (stands-right words at (write_part p) (write_run ps) s) (omega arith) in
        let place : at + length (write_part p) + length (write_run ps) ≡ at + length (write_part p ++ write_run ps) =
        omega arith in
        simp (first, others, place)

module _ (words : List ℕ) where
  -- The first word of a part is not 18.
  pub not-opening : (p : Part) (at : ℕ) → Stands words at (write_part p) → get_or words at 0 ≡ 18 → ⊥
  not-opening Part.nothing at s e = omega (arith, stands_here words at 0 [] s)
  not-opening (Part.star p) at s e = omega (arith, stands_here words at 1 (write_part p) s)
  not-opening (Part.plus p) at s e = omega (arith, stands_here words at 2 (write_part p) s)
  not-opening (Part.optional p) at s e = omega (arith, stands_here words at 3 (write_part p) s)
  not-opening (Part.choice ps) at s e = omega (arith, stands_here words at 16 (run_length ps ∷ write_run ps) s)
  not-opening (Part.all ps) at s e = omega (arith, stands_here words at 17 (run_length ps ∷ write_run ps) s)
  not-opening (Part.link label shape low high) at s e =
      omega (arith, stands_here words at (256 + label) (shape ∷ low ∷ write_limit high ∷ []) s)
