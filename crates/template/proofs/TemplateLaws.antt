-- Laws of specs/Template: what reading the template is under the tests that lead to an answer.
-- template-shapes-read   a template is accepted with the shapes that were read
-- template-…             one law for each refusal, and `template-counts`
-- Assumes nothing.
use mathlib.Core.Path.{◌≡◌, refl, ap, sym, ◌∙◌}
use mathlib.Core.List.{List, [], ◌∷◌}
use Prim.Native.Nat.{ℕ, ◌≤◌, ◌<◌}
use borrow.Author.Tests.{le-ltb, lt-ltb}
use lib.ListN.{length, get_or}
use Rattle.bags.specs.Part.{Part}
use Rattle.words.specs.Said.{Said, values, refusal}
use Rattle.words.specs.Limits.{max_kinds, max_shapes, max_template}
use Rattle.words.specs.Reading.{Reading, accepted, turned_down, mapped, said_of}
use Rattle.words.proofs.Said.{values-refusal}
use Rattle.words.proofs.Readings.{accepted-same, accepted-turned}
use Rattle.parts.specs.Placed.{Placed}
use Rattle.template.specs.Template.{read_shapes, Template, sizes_of, template_of, read_template, template_values}
use Rattle.template.specs.Template.{template_says}
use Rattle.template.specs.Machine.{next_of, Tabled, ShapesAnswer}
use Rattle.template.proofs.ShapeLaws.{next-refused}

-- The template's answer after its counts.
counts-next :
    (kinds shapes m : ℕ) (x : Reading (Placed (List Part))) → accepted m ≡ next_of x →
    values (kinds ∷ shapes ∷ []) ≡ said_of template_values (mapped (template_of kinds shapes) x)
counts-next kinds shapes m (accepted p) e = refl
counts-next kinds shapes m (turned_down n p) e = next-refused e

counts-refused :
    (kinds shapes n p : ℕ) (x : Reading (Placed (List Part))) → turned_down n p ≡ next_of x →
    refusal n (p ∷ []) ≡ said_of template_values (mapped (template_of kinds shapes) x)
counts-refused kinds shapes n p (accepted q) e = next-refused (sym e)
counts-refused kinds shapes n p (turned_down m q) e =
    let a : n ≡ m = cc in
    let b : p ≡ q = cc in
    rw (a, b)

-- A template is accepted with the shapes that were read.
pub template-shapes-read :
    (kinds shapes : ℕ) (x : Reading (Placed (List Part))) (t : Template) →
    mapped (template_of kinds shapes) x ≡ accepted t →
    (p : Placed (List Part)) × (x ≡ accepted p) × (t ≡ template_of kinds shapes p)
template-shapes-read kinds shapes (accepted p) t e = (p, refl, sym (accepted-same e))
template-shapes-read kinds shapes (turned_down n p) t e = accepted-turned (sym e)

-- What the template's answer says, and the names of its shapes in the table.
abbrev pub TemplateRead : List ℕ → Said → List ℕ → Type 0
TemplateRead words said table =
    (said ≡ template_says words) × ((t : Template) → read_template words ≡ accepted t → Tabled t.parts table)

-- A template that is refused has no shapes, so any table does.
no-template :
    (words table : List ℕ) (n : ℕ) (places : List ℕ) → refusal n places ≡ template_says words →
    TemplateRead words (refusal n places) table
unfolding template_says
no-template words table n places e = (e, λ t a. values-refusal (sym (e ∙ ap (said_of template_values) a)))

module _ (words table : List ℕ) where
  pub template-short : length words < 2 → TemplateRead words (refusal 1 (0 ∷ [])) table
  unfolding template_says read_template
  template-short h = no-template words table 1 (0 ∷ []) (simp (lt-ltb _ _ h))

  module _ (h : 2 ≤ length words) where
    pub template-long : max_template < length words → TemplateRead words (refusal 1 (0 ∷ [])) table
    unfolding template_says read_template
    template-long i = no-template words table 1 (0 ∷ []) (simp (le-ltb _ _ h, lt-ltb _ _ i))

    module _ (i : length words ≤ max_template) where
      pub template-no-kinds : get_or words 0 0 < 1 → TemplateRead words (refusal 2 (0 ∷ [])) table
      unfolding template_says read_template
      template-no-kinds j = no-template words table 2 (0 ∷ []) (simp (le-ltb _ _ h, le-ltb _ _ i, lt-ltb _ _ j))

      module _ (j : 1 ≤ get_or words 0 0) where
        pub template-kinds : max_kinds < get_or words 0 0 → TemplateRead words (refusal 2 (0 ∷ [])) table
        unfolding template_says read_template
        template-kinds k =
            no-template words table 2 (0 ∷ []) (simp (le-ltb _ _ h, le-ltb _ _ i, le-ltb _ _ j, lt-ltb _ _ k))

        module _ (k : get_or words 0 0 ≤ max_kinds) where
          pub template-no-shapes : get_or words 1 0 < 1 → TemplateRead words (refusal 3 (1 ∷ [])) table
          unfolding template_says read_template
          template-no-shapes l =
              no-template words table 3 (1 ∷ [])
              (simp (le-ltb _ _ h, le-ltb _ _ i, le-ltb _ _ j, le-ltb _ _ k, lt-ltb _ _ l))

          module _ (l : 1 ≤ get_or words 1 0) where
            pub template-shapes : max_shapes < get_or words 1 0 → TemplateRead words (refusal 3 (1 ∷ [])) table
            unfolding template_says read_template
            template-shapes m =
                no-template words table 3 (1 ∷ [])
                (simp (le-ltb _ _ h, le-ltb _ _ i, le-ltb _ _ j, le-ltb _ _ k, le-ltb _ _ l, lt-ltb _ _ m))

            -- The shapes were read, or refused.
            module _ (m : get_or words 1 0 ≤ max_shapes) where
              abbrev shapes-read : Reading (Placed (List Part))
              shapes-read = read_shapes (sizes_of (get_or words 0 0) (get_or words 1 0)) words (get_or words 1 0) 2

              template-by : mapped (template_of (get_or words 0 0) (get_or words 1 0)) shapes-read ≡ read_template
                  words
              unfolding read_template
              template-by = simp (le-ltb _ _ h, le-ltb _ _ i, le-ltb _ _ j, le-ltb _ _ k, le-ltb _ _ l, le-ltb _ _ m)

              pub template-refused :
                  {r : Reading ℕ} {names : List ℕ} (n p : ℕ) → r ≡ turned_down n p → ShapesAnswer shapes-read r names →
                  TemplateRead words (refusal n (p ∷ [])) table
              unfolding template_says
              template-refused n p q read =
                  no-template words table n (p ∷ [])
                  (counts-refused (get_or words 0 0) (get_or words 1 0) n p shapes-read (sym q ∙ read.read)
                  ∙ ap (said_of template_values) template-by)

              pub template-counts :
                  {r : Reading ℕ} (n : ℕ) → r ≡ accepted n → ShapesAnswer shapes-read r table →
                  TemplateRead words (values (get_or words 0 0 ∷ get_or words 1 0 ∷ [])) table
              unfolding template_says
              template-counts n o read = (
                counts-next (get_or words 0 0) (get_or words 1 0) n shapes-read (sym o ∙ read.read)
                    ∙ ap (said_of template_values) template-by,
                λ t a.
                    let (p, q, whole) =
                    template-shapes-read (get_or words 0 0) (get_or words 1 0) shapes-read t (template-by ∙ a) in
                    rw whole (read.table p q),
              )
