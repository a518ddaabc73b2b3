-- What "Fit counts" answers (docs/FORMAT.md, "Operations"): the first refusal, else whether the counts fit by bags.
-- Question               what is asked of a template, a shape and counts once nothing is refused
-- first_over              where the first count over 8,192 stands
-- asked, fit_question     the question, or the first refusal: a line each, with number, place and test
-- Fitting                the counts that the shape looks at fit it
-- FitFound               which answer a question has: yes exactly where they fit, no exactly where they do not
-- FitSays                what "Fit counts" says
-- Assumes nothing.
use Rattle.std.specs.Prelude.{Bool, not, cond, ℕ, suc, ◌*◌, ◌≡◌, ◌⊎◌, List, [], ◌∷◌, length, get_or, ltb, leb, eqb}
use Rattle.words.specs.Said.{Said, values}
use Rattle.words.specs.Limits.{max_count}
use Rattle.words.specs.Reading.{Reading, accepted, refuse, then}
use Rattle.words.specs.Answered.{Answered}
use Rattle.bags.specs.Part.{Part}
use Rattle.bags.specs.Bag.{Fits}
use Rattle.bags.specs.Look.{seen, listed}
use Rattle.template.specs.Template.{opens, Template, read_template}

-- The template's counts of kinds and of shapes, whether the shape is open, its part, and the counts.
pub record Question : Type 0 where
  pub kinds : ℕ
  pub shapes : ℕ
  pub is_open : Bool
  pub part : Part
  pub counts : List ℕ

-- The place of the first count over 8,192, or the length of the counts where there is none.
unfoldable pub first_over : List ℕ → ℕ
first_over [] = 0
first_over (w ∷ ws) = cond (ltb max_count w) 0 (suc (first_over ws))

-- What is asked of a template that is read. 42: the shape is not below the count of shapes. 41: there is not a count
-- for each outgoing kind and then for each incoming one. 43: a count is over 8,192, at the first.
abbrev pub asked : List ℕ → ℕ → List ℕ → Template → Reading Question
asked template shape counts t =
    refuse 42 0 (leb t.shapes shape)
    (refuse 41 0 (not (eqb (length counts) (2 * t.kinds)))
    (refuse 43 (first_over counts) (ltb (first_over counts) (length counts))
    (accepted (record {
      kinds = t.kinds;
      shapes = t.shapes;
      is_open = opens template shape;
      part = get_or t.parts shape Part.nothing;
      counts = counts;
    }))))

-- The template's refusals come first.
unfoldable pub fit_question : List ℕ → ℕ → List ℕ → Reading Question
fit_question template shape counts = then (read_template template) (asked template shape counts)

-- The counts that the shape looks at are those of a bag of its part: incoming kinds that it does not name are ignored,
-- and outgoing ones too if it is open.
abbrev pub Fitting : Question → Type 0
Fitting question =
    Fits question.shapes question.part
    (seen question.is_open question.part (listed question.kinds question.counts))

-- Yes where they are, no where they are not.
abbrev pub FitFound : Question → Said → Type 0
FitFound question said =
    (Fitting question × (said ≡ values (1 ∷ []))) ⊎ ((Fitting question → ⊥) × (said ≡ values (0 ∷ [])))

-- What is said of a template, a shape and counts.
abbrev pub FitSays : List ℕ → ℕ → List ℕ → Said → Type 0
FitSays template shape counts said =
    Answered (fit_question template shape counts) (λ refused. said ≡ refused) (λ question. FitFound question said)
