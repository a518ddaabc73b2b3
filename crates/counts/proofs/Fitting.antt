-- What "Fit counts" answers, by its returns, and that it has no choice.
-- question                            what is asked of a template that is read, where nothing is refused
-- shape-fits                          what the test of `fits` decides, for a shape of an accepted template
-- fits-asks                           what `fits` asks, for a shape of an accepted template and its row of names
-- fit-…                               the answer at each return, with what leads there as premises
-- fit-asked                           nothing is refused
-- fit-said-unique                     what an answer says tells the answer
-- yes-exact, no-exact                 yes is said exactly where the counts fit, and no where they do not
-- answers-alike                       questions that fit alike have one answer
-- fit-one-answer, fit-answer-unique   two answers that the contract allows are equal
-- Assumes nothing.
use mathlib.Core.Path.{◌≡◌, refl, sym, ◌∙◌, ap, fun_ext}
use mathlib.Core.Bool.{Bool, true, false}
use mathlib.Core.Logic.{inl, inr, ◌↔◌}
use mathlib.Core.List.{List, [], ◌∷◌}
use Prim.Native.Nat.{ℕ, ◌+◌, ◌*◌, ◌≤◌, ◌<◌}
use native.Mathlib.Omega.{arith}
use borrow.Author.Tests.{le-leb, lt-leb, le-ltb, lt-ltb, eq-eqb, ne_eqb}
use lib.ListN.{length, get_or, take, drop, length-drop}
use lib.Seq.{length-take-le, get_or-take, get_or-drop}
use Rattle.words.specs.Said.{Said, values, refusal}
use Rattle.words.specs.Limits.{max_labels, max_depth}
use Rattle.words.specs.Sizes.{table_size}
use Rattle.words.specs.Reading.{accepted}
use Rattle.words.proofs.Bools.{never_both, bool_case}
use Rattle.words.proofs.Answered.{told-unique}
use Rattle.bags.specs.Part.{Part}
use Rattle.bags.specs.Named.{named}
use Rattle.bags.specs.Bag.{count}
use Rattle.bags.specs.Interval.{fits}
use Rattle.bags.proofs.Decide.{list-decided}
use Rattle.template.specs.Template.{open_at, part_at, shape_place, Template, opens, read_template, template_says}
use Rattle.template.specs.Machine.{Tabled}
use Rattle.template.proofs.Answers.{template-turned}
use Rattle.template.proofs.Accepted.{template-accepted}
use Rattle.std.specs.Prelude.{Result, Ok}
use Rattle.words.specs.declared.refusal.Refusal.{Refusal}
use Rattle.words.proofs.Refused.{said-by-unique}
use Rattle.words.proofs.Said.{one_value, values-refusal}
use Rattle.counts.specs.Answer.{fit_value, fit_said}
use Rattle.counts.specs.Fit.{Question, first_over, fit_question, Fitting, FitFound, FitSays}
use Rattle.trees.specs.Trees.{tree_at}
use Rattle.counts.specs.Machine.{Testable, Spread}
use Rattle.trees.proofs.Agreement.{shape-tree}

-- What is asked of a template that is read, where nothing is refused.
abbrev pub question : List ℕ → Template → ℕ → List ℕ → Question
question words t shape counts =
    record {
      kinds = t.kinds;
      shapes = t.shapes;
      is_open = opens words shape;
      part = get_or t.parts shape Part.nothing;
      counts = counts;
    }

module _ (words : List ℕ) (t : Template) (e : read_template words ≡ accepted t) (s : ℕ) (below : s < t.shapes) where
  -- Whether counts fit a shape of an accepted template is what `list_fits` tests of the part at its place, once they
  -- are spread over all labels.
  shape-fits :
      (counts labels : List ℕ) (kinds at : ℕ) → kinds ≡ t.kinds → kinds ≤ length counts → Spread counts kinds labels →
      at ≡ shape_place words s 2 →
      Fitting (question words t s counts)
      ↔ (fits (open_at words at) kinds (tree_at max_depth words (part_at words at)).value (count labels) ≡ true)
  shape-fits counts labels kinds at same room spread q =
      let a = template-accepted words t e in
      rw (q, shape-tree words t s e below, fun_ext spread.exact, same)
      (list-decided t.shapes (opens words s) (get_or t.parts s Part.nothing) t.kinds counts a.kinds-high
      (omega arith) (a.single s below) (a.shapes-below s below))

  -- What `list_fits` asks, with the shape's row of the table of names.
  pub fits-asks :
      (names labels : List ℕ) (kinds at base n : ℕ) → Tabled t.parts names → length names ≡ table_size →
      length labels ≡ max_labels → kinds ≤ max_labels → at ≡ shape_place words s 2 → base ≡ s * max_labels →
      n ≡ max_labels → Testable words at (take n (drop base names)) labels kinds
  fits-asks names labels kinds at base n table all full few q b w =
      let a = template-accepted words t e in
      let row : length (take n (drop base names)) ≡ n =
      length-take-le n (drop base names) (simp length-drop (omega (arith, a.shapes-high))) in
      record {
        words-high = a.words-high;
        at_in = rw q (a.shape s below).start;
        kinds-in = omega arith;
        few = few;
        counted = full;
        row_of =
            λ k h.
            let i : k < n = omega arith in
            let j : k < max_labels = omega arith in
            let l : s < length t.parts = omega (arith, a.trees-length) in
            get_or-take n (drop base names) k 0 i ∙ get_or-drop base names k 0
            ∙ ap (λ (m : ℕ). get_or names (m + k) 0) b ∙ table s k l j
            ∙ ap (λ (p : Part). named p k) (sym (shape-tree words t s e below))
            ∙ ap (λ (m : ℕ). named (tree_at max_depth words (part_at words m)).value k) (sym q);
      }

module _ (words : List ℕ) (shape : ℕ) (counts : List ℕ) where
  -- The template's refusals come first.
  pub fit-template :
      (number place : ℕ) → refusal number (place ∷ []) ≡ template_says words →
      FitSays words shape counts (refusal number (place ∷ []))
  unfolding fit_question
  fit-template number place e = rw (template-turned words number place e)

  module _ (t : Template) (e : read_template words ≡ accepted t) where
    -- 42: the shape is not below the count of shapes.
    pub fit-shape : t.shapes ≤ shape → FitSays words shape counts (refusal 42 (0 ∷ []))
    unfolding fit_question
    fit-shape h = rw (e, le-leb t.shapes shape h)

    -- 41: there is not a count for each kind each way.
    pub fit_length :
        shape < t.shapes → (length counts ≡ 2 * t.kinds → ⊥) → FitSays words shape counts (refusal 41 (0 ∷ []))
    unfolding fit_question
    fit_length h d = rw (e, lt-leb t.shapes shape h, ne_eqb (length counts) (2 * t.kinds) d)

    module _ (below : shape < t.shapes) (all : length counts ≡ 2 * t.kinds) where
      -- 43: a count is over 8,192, at the first.
      pub fit-over :
          (place : ℕ) → place ≡ first_over counts → place < length counts →
          FitSays words shape counts (refusal 43 (place ∷ []))
      unfolding fit_question
      fit-over place first h =
          let over : first_over counts < length counts = rw first at h in
          rw (
            e,
            lt-leb t.shapes shape below,
            eq-eqb (length counts) (2 * t.kinds) all,
            lt-ltb (first_over counts) (length counts) over,
            first,
          )
          refl

      -- Else nothing is refused.
      pub fit-asked :
          length counts ≤ first_over counts → fit_question words shape counts ≡ accepted (question words t shape
          counts)
      unfolding fit_question
      fit-asked none =
          rw (
            e,
            lt-leb t.shapes shape below,
            eq-eqb (length counts) (2 * t.kinds) all,
            le-ltb (first_over counts) (length counts) none,
          )

      -- Then yes or no: by the test that the intervals give.
      module _
          (place : ℕ) (first : place ≡ first_over counts) (small : length counts ≤ place) (labels : List ℕ)
          (kinds at : ℕ) (same : kinds ≡ t.kinds) (spread : Spread counts kinds labels)
          (where-at : at ≡ shape_place words shape 2) (r : Bool)
          (test : r ≡ fits (open_at words at) kinds (tree_at max_depth words (part_at words at)).value (count labels))
        where
          by-test : Fitting (question words t shape counts) ↔ (r ≡ true)
          by-test =
              rw test
              (shape-fits words t e shape below counts labels kinds at same (omega arith) spread where-at)

          answered :
              (said : Said) → FitFound (question words t shape counts) said → FitSays words shape counts said
          answered said a = rw (fit-asked (omega arith)) a

          pub fit-tested : FitSays words shape counts (fit_said (Ok r))
          fit-tested =
              answered (fit_said (Ok r))
              (bool_case r (λ h. inl (by-test.1 h, ap said h)) (λ h. inr (λ f. never_both (by-test.0 f) h, ap said h)))
            where
              said : Bool → Said
              said b = values (fit_value b ∷ [])

-- What an answer says tells the answer.
value-unique : (a b : Bool) → values (fit_value a ∷ []) ≡ values (fit_value b ∷ []) → a ≡ b
value-unique true true e = refl
value-unique true false e = absurd (let z : ◌≡◌ {A = ℕ} 1 0 = one_value e in omega arith)
value-unique false true e = absurd (let z : ◌≡◌ {A = ℕ} 0 1 = one_value e in omega arith)
value-unique false false e = refl

fit-said-unique : (a b : Result Bool Refusal) → fit_said a ≡ fit_said b → a ≡ b
fit-said-unique = said-by-unique _ value-unique (λ b r e. values-refusal e)

-- Yes is said exactly where the counts fit, and no where they do not.
module _ (a : Question) (said : Said) where
  -- one is not both
  one_word : {A : Type 0} → said ≡ values (1 ∷ []) → said ≡ values (0 ∷ []) → A
  one_word e f = let z : ◌≡◌ {A = ℕ} 1 0 = cc in absurd (omega arith)

  pub yes-exact : FitFound a said → (said ≡ values (1 ∷ [])) ↔ Fitting a
  yes-exact (inl p) = (λ e. p.0, λ f. p.1)
  yes-exact (inr p) = (λ e. one_word e p.1, λ f. absurd (p.0 f))

  pub no-exact : FitFound a said → (said ≡ values (0 ∷ [])) ↔ (Fitting a → ⊥)
  no-exact (inl p) = (λ e. one_word p.1 e, λ n. absurd (n p.0))
  no-exact (inr p) = (λ e. p.0, λ n. p.1)

-- Questions that fit alike have one answer.
pub answers-alike :
    (a b : Question) (x y : Said) → Fitting a ↔ Fitting b → FitFound a x → FitFound b y → x ≡ y
answers-alike a b x y h (inl p) (inl q) = p.1 ∙ sym q.1
answers-alike a b x y h (inl p) (inr q) = absurd (q.0 (h.0 p.0))
answers-alike a b x y h (inr p) (inl q) = absurd (p.0 (h.1 q.0))
answers-alike a b x y h (inr p) (inr q) = p.1 ∙ sym q.1

-- The contract leaves no choice, of what is said and of the answers.
pub fit-one-answer :
    (words : List ℕ) (shape : ℕ) (counts : List ℕ) (x y : Said) → FitSays words shape counts x →
    FitSays words shape counts y → x ≡ y
fit-one-answer words shape counts x y p q =
    told-unique (fit_question words shape counts) x y (λ a r. answers-alike a a x y (λ f. f, λ f. f)) p q

pub fit-answer-unique :
    (words : List ℕ) (shape : ℕ) (counts : List ℕ) (a b : Result Bool Refusal) → FitSays words shape counts (fit_said
    a) →
    FitSays words shape counts (fit_said b) → a ≡ b
fit-answer-unique words shape counts a b p q =
    fit-said-unique a b (fit-one-answer words shape counts (fit_said a) (fit_said b) p q)
