-- Where the core of a shape's part stands, below the wrappers that the part starts with.
-- Core          a part stands at a place, where so many levels are left
-- shape-core    the part of a shape that is read does
-- peel          and so does what is below some wrappers of it
-- survey-asked, flat-plan   what looking the core over asks, and the plan of a shape whose core is flat
-- shape-in      where the words of a shape lie
-- Assumes nothing.
use Prim.Native.Nat.{ℕ, zero, suc, ◌+◌, ◌-◌, ◌≤◌, ◌<◌}
use mathlib.Core.Path.{◌≡◌, refl, sym, ap, subst}
use mathlib.Core.Logic.{⊎_elim}
use mathlib.Core.List.{List, [], ◌∷◌}
use native.Mathlib.Omega.{arith}
use lib.ListN.{length, get_or, replicate}
use lib.Dec.{eqb}
use Rattle.words.specs.Limits.{max_kinds, max_labels, max_template, max_depth}
use Rattle.words.specs.Reading.{accepted}
use Rattle.words.proofs.Bools.{cond-case, le-or-lt}
use Rattle.bags.specs.Label.{outgoing, incoming}
use Rattle.bags.specs.Part.{Part, star, plus, optional, Names, Single}
use Rattle.bags.proofs.Naming.{OfKindBelow, names-kind}
use Rattle.parts.specs.Reading.{Code, wrapped, no_names}
use Rattle.parts.specs.Placed.{Placed, placed}
use Rattle.template.specs.Template.{part_at, shape_place, sizes_of, Template, read_template}
use Rattle.parts.specs.Writer.{write_part, WithinLimits}
use Rattle.template.proofs.Accepted.{template-accepted}
use Rattle.parts.proofs.Codes.{code-single}
use Rattle.parts.proofs.RoundTripRead.{part-back}
use Rattle.parts.proofs.Stands.{stands_here, stands_after}
use Rattle.flat.specs.Places.{Standing, SurveyAsked, Surveyed}
use Rattle.flat.proofs.Appending.{part-words}
use Rattle.trees.specs.Trees.{tree_at}
use Rattle.trees.specs.Wrappers.{CoreAt}
use Rattle.trees.proofs.Places.{tree-deep, tree-by}
use Rattle.trees.proofs.Agreement.{tree-read}
use Rattle.fits.specs.declared.Plan.{Plan}
use Rattle.fits.specs.Plans.{FlatPlan}

-- The part at a place, where so many levels are left, stands there up to a place.
pub record Core (words : List ℕ) (left at end : ℕ) : Type 0 where
  pub standing : Standing words at end (tree_at left words at).value

-- Where the words of a shape lie whose count of words stands at a place.
pub record ShapeIn (words : List ℕ) (at : ℕ) : Type 0 where
  pub short : length words ≤ max_template
  pub start : at + 1 < length words
  pub stop : at + 1 + get_or words at 0 ≤ length words

-- A label of a kind of the template has an entry.
label-below : (kinds k : ℕ) → kinds ≤ max_kinds → OfKindBelow kinds k → k < max_labels
label-below kinds k few (outgoing, kind, l, q) = omega arith
label-below kinds k few (incoming, kind, l, q) = omega arith

module _ (words : List ℕ) (t : Template) (e : read_template words ≡ accepted t) (s : ℕ) (l : s < t.shapes) (at : ℕ)
    (q : at ≡ shape_place words s 2) where
  pub shape-in : ShapeIn words at
  shape-in =
      let a = template-accepted words t e in
      let shape = a.shape s l in
      subst (ShapeIn words) (sym q) (record {
        short = a.words-high;
        start = shape.start;
        stop = omega (arith, shape.stop, shape.inside);
      })

  -- The part of a shape that is read stands where it starts, up to the shape's end.
  pub shape-core : Core words max_depth (part_at words at) (at + 1 + get_or words at 0)
  shape-core =
      let a = template-accepted words t e in
      let p = get_or t.parts s Part.nothing in
      let place = shape_place words s 2 in
      let shape = a.shape s l in
      let sizes = sizes_of t.kinds t.shapes in
      let end = shape_place words (suc s) 2 in
      let (stands, ends, inside, limits) =
      rw shape.whole at (part-back words end sizes max_depth (part_at words place) no_names) in
      let tree : placed p end ≡ tree_at max_depth words (part_at words place) =
      tree-read words _ sizes max_depth _ no_names _ _ _ shape.inside shape.whole in
      let standing : Standing words (part_at words place) end p = record {
        stands = stands;
        ends = ends;
        once = a.single s l;
        labels = λ k named. label-below t.kinds k a.kinds-high
            (names-kind t.kinds p (a.kinds-below s l) k named);
        limits = limits;
      } in
      let core : Core words max_depth (part_at words place) end = record {
        standing = subst (λ (r : Placed Part). Standing words (part_at words place) end r.value) tree standing;
      } in
      subst (λ (n : ℕ). Core words max_depth (part_at words n) (n + 1 + get_or words n 0)) (sym q)
      (subst (Core words max_depth (part_at words place)) shape.stop core)

-- ---- wrappers
module _ (words : List ℕ) (at end : ℕ) (p : Part) where
  -- what a wrapper is around stands after its code
  unwrap : (r : Part) (code : ℕ) → write_part r ≡ code ∷ write_part p → (Single r → Single p)
      → ((k : ℕ) → Names p k → Names r k) → (WithinLimits r → WithinLimits p) → Standing words at end r
      → Standing words (at + 1) end p
  unwrap r code words_of once names limits s = record {
    stands = stands_after words at code (write_part p) (rw words_of at s.stands);
    ends = omega (arith, s.ends, ap length words_of);
    once = once s.once;
    labels = λ k n. s.labels k (names k n);
    limits = limits s.limits;
  }

  unwrapped : (code : ℕ) → Standing words at end (wrapped code p) → Standing words (at + 1) end p
  unwrapped code =
      cond-case (λ r. Standing words at end r → Standing words (at + 1) end p) (eqb code 1) _ _
      (λ e. unwrap (star p) 1 refl (λ o. o) (λ k n. n) (λ i. i))
      (λ e. cond-case (λ r. Standing words at end r → Standing words (at + 1) end p) (eqb code 2) _ _
      (λ f. unwrap (plus p) 2 refl (λ o. o) (λ k n. n) (λ i. i))
      (λ f. unwrap (optional p) 3 refl (λ o. o) (λ k n. n) (λ i. i)))

module _ (words : List ℕ) (end : ℕ) (inside : end ≤ length words) where
  -- where a wrapper stands, a level is left
  level-left : (left at : ℕ) → Core words left at end → 1 ≤ get_or words at 0 → 0 < left
  level-left left at c low = ⊎_elim (λ h. h)
      (λ h.
      let none : left ≡ 0 = omega arith in
      let nothing-here = subst (λ (r : Placed Part). Standing words at end r.value)
      (sym (tree-deep words at left none)) c.standing in
      absurd (omega (arith, stands_here words at 0 [] nothing-here.stands)))
      (le-or-lt 1 left)

  peel-one : (left at : ℕ) → Core words left at end → 1 ≤ get_or words at 0 → get_or words at 0 ≤ 3
      → Core words (left - 1) (at + 1) end
  peel-one left at c low high =
      let some = level-left left at c low in
      let code = get_or words at 0 in
      let within : at < length words = omega (arith, c.standing.ends, part-words (tree_at left words at).value) in
      let tree = tree-by words at left some within (Code.single (wrapped code)) (code-single code low high) in
      let around = subst (λ (r : Placed Part). Standing words at end r.value) (sym tree) c.standing in
      record {
        standing = unwrapped words at end (tree_at (left - 1) words (at + 1)).value code around;
      }

  -- Below so many wrappers.
  peel : (d left at : ℕ) → Core words left at end
      → ((i : ℕ) → at ≤ i → i < at + d → (1 ≤ get_or words i 0) × (get_or words i 0 ≤ 3))
      → (rest : ℕ) × (rest + d ≡ left) × Core words rest (at + d) end
  peel zero left at c codes =
      let here : at ≡ at + 0 = omega arith in
      (left, omega arith, subst (λ (n : ℕ). Core words left n end) here c)
  peel (suc d) left at c codes =
      let (low, high) = codes at (omega arith) (omega arith) in
      let some = level-left left at c low in
      let (rest, sum, core) = peel d (left - 1) (at + 1) (peel-one left at c low high)
      (λ i a b. codes i (omega arith) (omega arith)) in
      let here : at + 1 + d ≡ at + suc d = omega arith in
      (rest, omega arith, subst (λ (n : ℕ). Core words rest n end) here core)

  -- The core that is found below a part's wrappers.
  pub core-below : (start core : ℕ) → Core words max_depth start end → CoreAt words start end core
      → (left : ℕ) × (left + (core - start) ≡ max_depth) × Core words left core end
  core-below start core c found =
      let wrap = found.wrap in
      let here : start + (core - start) ≡ core = omega (arith, wrap.order) in
      let (left, sum, below) = peel (core - start) max_depth start c
      (λ i a b. wrap.codes i a (omega (arith, wrap.order))) in
      (left, sum, subst (λ (n : ℕ). Core words left n end) here below)

  -- What looking a core over asks.
  pub survey-asked :
      (left core : ℕ) (places : List ℕ) → Core words left core end → 0 < core → length words ≤ max_template
      → places ≡ replicate max_labels 0 → SurveyAsked words core end places
  survey-asked left core places c start short blank = record {
    part = (tree_at left words core).value;
    standing = c.standing;
    start = start;
    end-in = inside;
    short = short;
    blank = blank;
  }

  -- The plan of a shape whose core is flat.
  pub flat-plan : (places : List ℕ) (plan : Plan) (needed : ℕ) → Core words max_depth plan.start end
      → CoreAt words plan.start end plan.core
      → ((p : Part) → Standing words plan.core end p → Surveyed words p places needed)
      → FlatPlan words places plan needed
  flat-plan places plan needed c found surveyed =
      let (left, level, core) = core-below plan.start plan.core c found in
      record {
        wrap = found.wrap;
        left = left;
        level = level;
        surveyed = surveyed (tree_at left words plan.core).value core.standing;
      }
