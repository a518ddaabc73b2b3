-- What the tests of a card's links say of fitting a shape.
-- NamedTo                            the kinds of so many links have entries
-- named-all, named-not               whether the kinds that a part does not name count 0, from the entries
-- flat-named, flat-met               a flat core: a kind is not named, or its interval is known
-- other-passed, other-not            any other part: by its interval, and by the kinds that it does not name
-- Assumes nothing.
use Prim.Native.Nat.{ℕ, zero, suc, ◌+◌, ◌-◌, ◌≤◌, ◌<◌}
use mathlib.Core.Path.{◌≡◌, refl, sym, ap, ap₂, ◌∙◌}
use mathlib.Core.Logic.{⊎_elim}
use mathlib.Core.Bool.{Bool, true, false, ◌&&◌, ◌||◌}
use mathlib.Core.List.{List}
use native.Mathlib.Omega.{arith}
use lib.ListN.{length, get_or}
use lib.Dec.{eqb}
use Rattle.words.specs.Limits.{max_kinds, max_depth}
use Rattle.words.proofs.Bools.{eq-or-ne, or_left, or_right}
use Rattle.bags.specs.Part.{Part, names}
use Rattle.bags.specs.Interval.{interval, inside, others_zero, fits}
use Rattle.bags.specs.declared.Span.{Span}
use Rattle.bags.proofs.Decide.{others-all}
use Rattle.links.specs.Runs.{kind_in, kinds_in, amount, KindsRise}
use Rattle.links.proofs.Runs.{kinds-none, kinds-some, amount-counted}
use Rattle.flat.specs.Meeting.{KindsUnder, MetAs}
use Rattle.std.specs.Prelude.{Some, None}
use Rattle.trees.specs.Trees.{tree_at}
use Rattle.evaluator.specs.Rows.{RowOf}
use Rattle.evaluator.proofs.Testing.{others-named, others-zero, others-not, fits-passed, fits-failed}
use Rattle.trees.proofs.Wrapping.{core-names}
use Rattle.fits.specs.declared.Plan.{Plan}
use Rattle.fits.specs.Plans.{FlatPlan}

-- The kinds of so many links have entries in the row.
abbrev pub NamedTo : List ℕ → List ℕ → ℕ → Type 0
NamedTo row links many = (i : ℕ) → i < many → get_or row (kind_in links i) 0 ≡ 0 → ⊥

module _ (row links : List ℕ) (r : KindsRise links) (link : ℕ) (n : NamedTo row links link) where
  module _ (p : Part) (kinds : ℕ) (names : RowOf row kinds p) (u : KindsUnder links kinds) where
    -- a link's kind has no entry
    pub named-not : link < r.many → get_or row (kind_in links link) 0 ≡ 0 →
        false ≡ others_zero kinds p (kinds_in links)
    named-not l none =
        let k = kind_in links link in
        let below : k < kinds = u.below link (omega (arith, r.size)) in
        others-not p (kinds_in links) k (get_or row k 0) (names k below)
        (λ z. omega (arith, kinds-some links r link l)) none kinds below

    -- all have entries
    pub named-all : r.many ≤ link → true ≡ others_zero kinds p (kinds_in links)
    named-all l = sym (others-all p (kinds_in links) kinds (λ k below. ⊎_elim
        (λ (none : get_or row k 0 ≡ 0). others-zero p (kinds_in links) k (get_or row k 0) (names k below)
        (kinds-none links r k (λ i b e. n i (omega arith) (ap (λ (j : ℕ). get_or row j 0) e ∙ none))))
        (λ some. others-named p (kinds_in links) k (get_or row k 0) (names k below) some)
        (eq-or-ne (get_or row k 0) 0)))

-- Parts that name the same, and counts that are the same below a number.
others_same : (kinds : ℕ) (p q : Part) (v w : ℕ → ℕ) → ((k : ℕ) → names p k ≡ names q k)
    → ((k : ℕ) → k < kinds → v k ≡ w k) → others_zero kinds p v ≡ others_zero kinds q w
others_same zero p q v w n c = refl
others_same (suc kinds) p q v w n c =
    ap₂ ◌&&◌ (others_same kinds p q v w n (λ k l. c k (omega arith)))
    (ap₂ (λ (a b : Bool). a || b) (n kinds) (ap (λ (m : ℕ). eqb m 0) (c kinds (omega arith))))

-- ---- a flat core
module _ (words places : List ℕ) (plan : Plan) (needed : ℕ) (f : FlatPlan words places plan needed) (kinds : ℕ) (w : ℕ
    → ℕ) where
  -- the core, and the whole part
  abbrev core : Part
  core = (tree_at f.left words plan.core).value

  abbrev whole : Part
  whole = (tree_at max_depth words plan.start).value

  whole-names : (k : ℕ) → names whole k ≡ names core k
  whole-names k =
      ap (λ (n : ℕ). names (tree_at n words plan.start).value k) (sym f.level)
      ∙ core-names words plan.core f.left k plan.start f.wrap

  whole-others : others_zero kinds core w ≡ others_zero kinds whole w
  whole-others = others_same kinds core whole w w (λ k. sym (whole-names k)) (λ k l. refl)

  pub flat-named : MetAs plan.opened kinds core w None → false ≡ fits plan.opened kinds whole w
  flat-named (o, n) = fits-failed plan.opened kinds whole w o (sym whole-others ∙ n)

  module _ (span : Span) (m : MetAs plan.opened kinds core w (Some span)) where
    pub flat-met : (one : Bool)
        → one ≡ inside 1 (interval (tree_at (f.left + (plan.core - plan.start)) words plan.start).value w)
        → one ≡ fits plan.opened kinds whole w
    flat-met one h =
        fits-passed plan.opened kinds whole w one
        (h ∙ ap (λ (n : ℕ). inside 1 (interval (tree_at n words plan.start).value w)) f.level)
        (ap (λ (b : Bool). plan.opened || b) (sym whole-others) ∙ m.1)

-- ---- any other part
module _ (is_open : Bool) (kinds : ℕ) (p : Part) (links arriving : List ℕ) (few : length arriving ≤ max_kinds)
    (u : KindsUnder links kinds) where
  -- the kinds below a number are counted off the links
  counted-off : others_zero kinds p (kinds_in links) ≡ others_zero kinds p (amount links arriving)
  counted-off = others_same kinds p p (kinds_in links) (amount links arriving) (λ k. refl)
      (λ k l. sym (amount-counted links arriving k (omega (arith, u.few))))

  pub other-open : is_open ≡ true → (one : Bool) → one ≡ inside 1 (interval p (amount links arriving))
      → one ≡ fits is_open kinds p (amount links arriving)
  other-open o one h = fits-passed is_open kinds p (amount links arriving) one h (or_left is_open _ o)

  module _ (all : Bool) (named : all ≡ others_zero kinds p (kinds_in links)) where
    pub other-named : all ≡ true → (one : Bool) → one ≡ inside 1 (interval p (amount links arriving))
        → one ≡ fits is_open kinds p (amount links arriving)
    other-named y one h =
        fits-passed is_open kinds p (amount links arriving) one h
        (or_right is_open (others_zero kinds p (amount links arriving)) (sym counted-off ∙ sym named ∙ y))

    pub other-not : is_open ≡ false → all ≡ false → false ≡ fits is_open kinds p (amount links arriving)
    other-not o n = fits-failed is_open kinds p (amount links arriving) o (sym counted-off ∙ sym named ∙ n)
