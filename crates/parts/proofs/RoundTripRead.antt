-- What is read is written: the words of a part that is read are those of the part.
-- Holds                 what is accepted has a property; then-holds, mapped-holds: step by step
-- PartBack, RunBack     a part's words stand there, up to the next place; and those of a run of parts
-- part-back             so it is of every part that is read
-- Assumes nothing.
use Prim.Native.Nat.{ℕ, zero, suc, ◌+◌, ◌-◌, ◌≤◌, ◌<◌}
use mathlib.Core.Path.{◌≡◌, refl, sym, ap, subst, ◌∙◌}
use mathlib.Core.Bool.{Bool, true, false, not}
use mathlib.Core.List.{List, [], ◌∷◌}
use native.Mathlib.Omega.{arith}
use borrow.Author.Tests.{leb-true, leb-false, ltb-false, eqb-true, eqb-false}
use lib.ListN.{length, get_or, length-append}
use lib.Dec.{ltb, leb, eqb}
use Rattle.words.specs.Limits.{min_group, max_group, max_count, no_limit}
use Rattle.words.specs.Reading.{Reading, accepted, turned_down, then, mapped}
use Rattle.words.proofs.Bools.{cond-case, never_both, true_of_not}
use Rattle.words.proofs.Readings.{refuse-case}
use Rattle.bags.specs.Label.{first_label}
use Rattle.bags.specs.Part.{Part, Parts, limit_unless, limit_of}
use Rattle.parts.specs.declared.Sizes.{Sizes}
use Rattle.parts.specs.Reading.{Code, wrapped, gathered, code_of, Found, found, into, after, limits_ok}
use Rattle.parts.specs.Reading.{read_link, read_run, read_group, read_code, read_part}
use Rattle.parts.specs.Writer.{write_limit, run_length, write_part, write_run}
use Rattle.parts.specs.Writer.{LimitsIn, WithinLimits, RunWithinLimits}
use Rattle.parts.proofs.Codes.{code-case}
use Rattle.parts.proofs.Stands.{Stands, stands-nil, stands-cons, stands-four, stands-append}

-- What is accepted has the property.
abbrev pub Holds : {A : Type 0} → (A → Type 0) → Reading A → Type 0
Holds P (accepted a) = P a
Holds P (turned_down number place) = Unit {0}

pub then-holds : {A B : Type 0} (P : A → Type 0) (Q : B → Type 0) (r : Reading A) (rest : A → Reading B) → Holds P r
    → ((a : A) → P a → Holds Q (rest a)) → Holds Q (then r rest)
then-holds P Q (accepted a) rest h f = f a h
then-holds P Q (turned_down number place) rest h f = tt

pub mapped-holds : {A B : Type 0} (P : A → Type 0) (Q : B → Type 0) (g : A → B) (r : Reading A) → Holds P r
    → ((a : A) → P a → Q (g a)) → Holds Q (mapped g r)
mapped-holds P Q g (accepted a) h f = f a h
mapped-holds P Q g (turned_down number place) h f = tt

-- The limits that the test lets pass, and the word of the high that was read.
limits-in : (low high : ℕ) → limits_ok low high ≡ true → LimitsIn low (limit_of high)
limits-in low high =
    let P : Bool → Type 0 = λ b. b ≡ true → LimitsIn low (limit_of high) in
    cond-case P (ltb max_count low) _ _ (λ e o. never_both o refl)
    (λ e. cond-case P (eqb high no_limit) _ _ (λ e₂ o. rw e₂ (ltb-false _ _ e))
    (λ e₂. cond-case P (ltb high low) _ _ (λ e₃ o. never_both o refl)
    (λ e₃ o. rw e₂ (ltb-false _ _ e, ltb-false _ _ e₃, leb-true _ _ o))))

limit-word : (high : ℕ) → write_limit (limit_of high) ≡ high
limit-word high = by-test (eqb high no_limit) refl
  where
    by-test : (b : Bool) → eqb high no_limit ≡ b → write_limit (limit_unless b high) ≡ high
    by-test true e = sym (eqb-true high no_limit e)
    by-test false e = refl

wrapped-words : (n : ℕ) (p : Part) → 1 ≤ n → n < 4 → write_part (wrapped n p) ≡ n ∷ write_part p
wrapped-words n p d l =
    cond-case (λ q. write_part q ≡ n ∷ write_part p) (eqb n 1) _ _
    (λ e. ap (λ (k : ℕ). k ∷ write_part p) (sym (eqb-true n 1 e)))
    (λ e. cond-case (λ q. write_part q ≡ n ∷ write_part p) (eqb n 2) _ _
    (λ e₂. ap (λ (k : ℕ). k ∷ write_part p) (sym (eqb-true n 2 e₂)))
    (λ e₂.
    let three : 3 ≡ n = omega (arith, d, eqb-false n 1 e, eqb-false n 2 e₂) in
    ap (λ (k : ℕ). k ∷ write_part p) three))

wrapped-limits : (n : ℕ) (p : Part) → WithinLimits p → WithinLimits (wrapped n p)
wrapped-limits n p h =
    cond-case (λ q. WithinLimits q) (eqb n 1) _ _ (λ e. h)
    (λ e. cond-case (λ q. WithinLimits q) (eqb n 2) _ _ (λ f. h) (λ f. h))

gathered-words : (n : ℕ) (ps : Parts) → 16 ≤ n → n < 18 → write_part (gathered n ps) ≡ n ∷ run_length ps ∷ write_run ps
gathered-words n ps a b =
    cond-case (λ q. write_part q ≡ n ∷ run_length ps ∷ write_run ps) (eqb n 16) _ _
    (λ e. ap (λ (k : ℕ). k ∷ run_length ps ∷ write_run ps) (sym (eqb-true n 16 e)))
    (λ e.
    let other : 17 ≡ n = omega (arith, eqb-false n 16 e) in
    ap (λ (k : ℕ). k ∷ run_length ps ∷ write_run ps) other)

gathered-limits : (n : ℕ) (ps : Parts) → WithinLimits (Part.choice ps) → WithinLimits (gathered n ps)
gathered-limits n ps h = cond-case (λ q. WithinLimits q) (eqb n 16) _ _ (λ e. h) (λ e. h)

module _ (words : List ℕ) (end : ℕ) where
  -- The part's words stand there, up to the next place, which is not past the end; its numbers are within the limits.
  abbrev pub PartBack : ℕ → Found Part → Type 0
  PartBack at (found p next row) =
      Stands words at (write_part p) × (next ≡ at + length (write_part p)) × (next ≤ end) × WithinLimits p

  -- The same of a run of so many parts.
  abbrev RunBack : ℕ → ℕ → Found Parts → Type 0
  RunBack count at (found ps next row) =
      Stands words at (write_run ps) × (next ≡ at + length (write_run ps)) × (next ≤ end) × RunWithinLimits ps
      × (run_length ps ≡ count)

  -- A part, and then a run.
  more-back : (n at next : ℕ) (p : Part) → Stands words at (write_part p) → next ≡ at + length (write_part p)
      → WithinLimits p → (g : Found Parts) → RunBack n next g → RunBack (suc n) at (into (Parts.more p) g)
  more-back n at next p s e limits (found ps last row) w =
      let (r, f, b, others, c) = w in (
        stands-append words at (write_part p) (write_run ps) s (subst (λ (k : ℕ). Stands words k (write_run ps)) e r),
        omega (arith, length-append (write_part p) (write_run ps)),
        b,
        (limits, others),
        ap suc c,
      )

  rest_back : (inner : ℕ → List ℕ → Reading (Found Part)) (n at : ℕ) (f : Found Part) → PartBack at f
      → ((next : ℕ) (row : List ℕ) → next ≤ end → Holds (RunBack n next) (read_run inner n next row))
      → Holds (RunBack (suc n) at) (after (λ p next left. mapped (into (Parts.more p)) (read_run inner n next left)) f)
  rest_back inner n at (found p next row) w rest =
      let (s, e, b, limits) = w in
      mapped-holds (RunBack n next) (RunBack (suc n) at) (into (Parts.more p)) (read_run inner n next row)
      (rest next row b) (more-back n at next p s e limits)

  run-back : (inner : ℕ → List ℕ → Reading (Found Part))
      → ((at : ℕ) (row : List ℕ) → Holds (PartBack at) (inner at row))
      → (n at : ℕ) (row : List ℕ) → at ≤ end → Holds (RunBack n at) (read_run inner n at row)
  unfolding read_run
  run-back inner h zero at row l = (stands-nil words at, omega arith, l, tt, refl)
  run-back inner h (suc n) at row l =
      then-holds (PartBack at) (RunBack (suc n) at) (inner at row)
      (after (λ p next left. mapped (into (Parts.more p)) (read_run inner n next left))) (h at row)
      (λ f w. rest_back inner n at f w (λ next left b. run-back inner h n next left b))

  wrapped-back : (n at : ℕ) → get_or words at 0 ≡ n → 1 ≤ n → n < 4 → (f : Found Part)
      → PartBack (at + 1) f → PartBack at (into (wrapped n) f)
  wrapped-back n at here d l (found p next row) w =
      let (s, e, b, limits) = w in
      let same : write_part (wrapped n p) ≡ n ∷ write_part p = wrapped-words n p d l in (
        subst (Stands words at) (sym same) (stands-cons words at n (write_part p) here s),
        omega (arith, ap (λ (xs : List ℕ). length xs) same),
        b,
        wrapped-limits n p limits,
      )

  gathered-back : (n at : ℕ) → get_or words at 0 ≡ n → 16 ≤ n → n < 18 → min_group ≤ get_or words (at + 1) 0
      → get_or words (at + 1) 0 ≤ max_group → (f : Found Parts)
      → RunBack (get_or words (at + 1) 0) (at + 2) f → PartBack at (into (gathered n) f)
  gathered-back n at here a b low high (found ps next row) w =
      let (s, e, c, limits, count) = w in
      let same : write_part (gathered n ps) ≡ n ∷ run_length ps ∷ write_run ps = gathered-words n ps a b in
      let place : at + 2 ≡ at + 1 + 1 = omega arith in (
        subst (Stands words at) (sym same)
            (stands-cons words at n (run_length ps ∷ write_run ps) here
            (stands-cons words (at + 1) (run_length ps) (write_run ps) (sym count)
            (subst (λ (k : ℕ). Stands words k (write_run ps)) place s))),
        omega (arith, ap (λ (xs : List ℕ). length xs) same),
        c,
        gathered-limits n ps (omega arith, omega arith, limits),
      )

  link-back : (sizes : Sizes) (at : ℕ) (row : List ℕ) (first kind : ℕ) → get_or words at 0 ≡ 256 + (first + kind)
      → Holds (PartBack at) (read_link words end sizes at row first kind)
  unfolding read_link
  link-back sizes at row first kind here =
      let P : Reading (Found Part) → Type 0 = Holds (PartBack at) in
      refuse-case 4 end P (ltb (end - at) 4) _ (λ e. tt)
      (λ e. refuse-case 7 at P (leb sizes.kinds kind) _ (λ f. tt)
      (λ f. refuse-case 8 at P (not (eqb (get_or row (first + kind) 0) 0)) _ (λ g. tt)
      (λ g. refuse-case 9 (at + 1) P (leb sizes.shapes (get_or words (at + 1) 0)) _ (λ i. tt)
      (λ i. refuse-case 10 (at + 2) P (not (limits_ok (get_or words (at + 2) 0) (get_or words (at + 3) 0))) _ (λ j. tt)
      (λ j.
      let room : 4 ≤ end - at = ltb-false _ _ e in (
        stands-four words at (256 + (first + kind)) (get_or words (at + 1) 0) (get_or words (at + 2) 0)
            (write_limit (limit_of (get_or words (at + 3) 0))) here refl refl (sym (limit-word (get_or words (at +
            3) 0))),
        refl,
        omega arith,
        limits-in (get_or words (at + 2) 0) (get_or words (at + 3) 0) (true_of_not j),
      ))))))

  group-back : (inner : ℕ → List ℕ → Reading (Found Part))
      → ((at : ℕ) (row : List ℕ) → Holds (PartBack at) (inner at row))
      → (n at : ℕ) (row : List ℕ) → get_or words at 0 ≡ n → 16 ≤ n → n < 18
      → Holds (PartBack at) (mapped (into (gathered n)) (read_group inner words end at row))
  group-back inner h n at row here a b =
      let count : ℕ = get_or words (at + 1) 0 in
      let P : Reading (Found Parts) → Type 0 = λ r. Holds (PartBack at) (mapped (into (gathered n)) r) in
      refuse-case 4 end P (ltb (end - at) 2) _ (λ e. tt)
      (λ e. refuse-case 11 (at + 1) P (ltb count min_group) _ (λ f. tt)
      (λ f. refuse-case 11 (at + 1) P (ltb max_group count) _ (λ g. tt)
      (λ g.
      let room : 2 ≤ end - at = ltb-false _ _ e in
      mapped-holds (RunBack count (at + 2)) (PartBack at) (into (gathered n)) (read_run inner count (at + 2) row)
      (run-back inner h count (at + 2) row (omega arith))
      (gathered-back n at here a b (ltb-false _ _ f) (ltb-false _ _ g)))))

  -- A part that a code starts, where the parts in it are read so.
  code-back : (inner : ℕ → List ℕ → Reading (Found Part)) (sizes : Sizes)
      → ((at : ℕ) (row : List ℕ) → Holds (PartBack at) (inner at row))
      → (n at : ℕ) (row : List ℕ) → get_or words at 0 ≡ n → at < end
      → Holds (PartBack at) (read_code (code_of n) inner words end sizes at row)
  code-back inner sizes h n at row here l =
      let P : Code → Type 0 = λ code. Holds (PartBack at) (read_code code inner words end sizes at row) in
      code-case P n
      (λ e. (stands-cons words at 0 [] (here ∙ e) (stands-nil words (at + 1)), refl, omega arith, tt))
      (λ a b. mapped-holds (PartBack (at + 1)) (PartBack at) (into (wrapped n)) (inner (at + 1) row) (h (at + 1) row)
      (wrapped-back n at here a b))
      (λ a b. group-back inner h n at row here a b)
      (λ way kind e. link-back sizes at row (first_label way) kind (here ∙ e))
      tt
      tt

  pub part-back : (sizes : Sizes) (left at : ℕ) (row : List ℕ)
      → Holds (PartBack at) (read_part left words end sizes at row)
  unfolding read_part
  part-back sizes zero at row = refuse-case 4 end (Holds (PartBack at)) (leb end at) _ (λ e. tt) (λ e. tt)
  part-back sizes (suc left) at row =
      refuse-case 4 end (Holds (PartBack at)) (leb end at) _ (λ e. tt)
      (λ e. code-back (read_part left words end sizes) sizes (λ place l. part-back sizes left place l)
      (get_or words at 0) at row refl (leb-false end at e))
