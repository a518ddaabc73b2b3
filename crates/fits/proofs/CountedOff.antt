-- What testing the pairs of a sheet by counts leaves is what "Fit counts" answers for the counts of each card's links.
-- counted-asked      of a card's counts and a shape of its sheet "Fit counts" refuses nothing
-- counted-exact      the counts fit exactly where the test of the card's neighbours says so
-- counted-off        the byte of a pair is what "Fit counts" says; counted-unique: it says no other
-- counted-accepted   and no refusal
-- Assumes nothing.
use Prim.Native.Nat.{ℕ, ◌+◌, ◌*◌, ◌<◌}
use mathlib.Core.Path.{◌≡◌, ap}
use mathlib.Core.Logic.{inl, inr, ◌↔◌}
use mathlib.Core.Bool.{Bool, true, cond}
use mathlib.Core.List.{List, [], ◌∷◌}
use native.Mathlib.Omega.{arith}
use lib.ListN.{get_or}
use Rattle.words.specs.Said.{Said, values, refusal}
use Rattle.words.specs.Reading.{accepted}
use Rattle.words.proofs.Bools.{never_both, bool_case}
use Rattle.words.proofs.Said.{values-refusal}
use Rattle.bags.specs.Part.{Part}
use Rattle.bags.specs.Look.{listed}
use Rattle.bags.specs.Interval.{fits}
use Rattle.bags.specs.Proposition.{label_count}
use Rattle.bags.proofs.Naming.{names-kind}
use Rattle.bags.proofs.Looking.{fits-alike}
use Rattle.bags.proofs.Decide.{list-decided}
use Rattle.template.specs.Template.{Template, opens, read_template}
use Rattle.template.proofs.Accepted as shapes
use Rattle.script.specs.Link.{neighbours}
use Rattle.script.specs.Script.{counts_of}
use Rattle.links.specs.Counts.{card_counts}
use Rattle.script.proofs.Reading as links
use Rattle.links.proofs.Counts.{card-counts-length}
use Rattle.sheet.specs.declared.Extent.{Extent}
use Rattle.sheet.specs.Opened.{template_as, Opened}
use Rattle.counts.specs.Fit.{fit_question, Fitting, FitSays}
use Rattle.counts.proofs.Counts.{over_none}
use Rattle.counts.proofs.OwnCounts.{own-outgoing, own-named, own-low}
use Rattle.counts.proofs.Fitting.{question, fit-asked, fit-one-answer}
use Rattle.fits.specs.Fitting.{Fitted}

-- A card, and a shape of a sheet that is read.
module _ (template script : List ℕ) (e : Extent) (opened : Opened template script e) (n t : ℕ) (below : t < e.shapes)
  where
    abbrev whole : Template
    whole = template_as e.kinds e.shapes opened.parts

    abbrev part : Part
    part = get_or opened.parts t Part.nothing

    abbrev counts : List ℕ
    counts = card_counts script n e.links e.kinds

    -- how often each label counts among the card's neighbours
    abbrev around : ℕ → ℕ
    around = label_count (neighbours script n e.links)

    -- the test of these, as `Fitted` has it
    abbrev tested : Bool
    tested = fits (opens template t) e.kinds part around

    template-is : shapes.TemplateAccepted template whole
    template-is = shapes.template-accepted template whole opened.template-read

    script-is : links.ScriptAccepted e.kinds script e.cards e.links
    script-is = links.script-accepted e.kinds script (counts_of e.cards e.links) opened.script-read

    counted-asked : fit_question template t counts ≡ accepted (question template whole t counts)
    counted-asked =
        let low = over_none counts (λ i l. own-low template-is.kinds-high script-is n i) in
        fit-asked template t counts whole opened.template-read below
        (card-counts-length script n e.links e.kinds) (omega (arith, low))

    -- the counts in the list are tested as the neighbours are
    tested-alike : tested ≡ fits (opens template t) e.kinds part (listed e.kinds counts)
    tested-alike =
        let few = template-is.kinds-high in
        fits-alike around (listed e.kinds counts) (opens template t) part e.kinds (own-outgoing few script-is n)
        (λ k m. own-named few script-is n k (names-kind e.kinds part (template-is.kinds-below t below) k m))

    counted-exact : Fitting (question template whole t counts) ↔ (tested ≡ true)
    counted-exact =
        rw tested-alike
        (list-decided e.shapes (opens template t) part e.kinds counts template-is.kinds-high
        (omega (arith, card-counts-length script n e.links e.kinds)) (template-is.single t below)
        (template-is.shapes-below t below))

    -- what is said of them goes by that test
    tested-said : FitSays template t counts (values (cond tested 1 0 ∷ []))
    tested-said =
        let said : Bool → Said = λ b. values (cond b 1 0 ∷ []) in
        rw counted-asked (bool_case tested
        (λ y. inl (counted-exact.1 y, ap said y)) (λ o. inr (λ f. never_both (counted-exact.0 f) o, ap said o)))

-- Each byte that testing leaves is what is said of its card's counts.
pub counted-off :
    (template script grid : List ℕ) (e : Extent) → Opened template script e →
    ((parts : List Part) → read_template template ≡ accepted (template_as e.kinds e.shapes parts) →
    Fitted template script e parts grid) →
    (n t : ℕ) → n < e.cards → t < e.shapes →
    FitSays template t (card_counts script n e.links e.kinds) (values (get_or grid (n * e.shapes + t) 0 ∷ []))
counted-off template script grid e opened fitted n t ln lt =
    rw ((fitted opened.parts opened.template-read).each n t ln lt) (tested-said template script e opened n t lt)

-- No other byte is said of them.
pub counted-unique :
    (template script grid : List ℕ) (e : Extent) → Opened template script e →
    ((parts : List Part) → read_template template ≡ accepted (template_as e.kinds e.shapes parts) →
    Fitted template script e parts grid) →
    (n t : ℕ) → n < e.cards → t < e.shapes → (byte : ℕ) →
    FitSays template t (card_counts script n e.links e.kinds) (values (byte ∷ [])) →
    byte ≡ get_or grid (n * e.shapes + t) 0
counted-unique template script grid e opened fitted n t ln lt byte says =
    let here = get_or grid (n * e.shapes + t) 0 in
    let one : values (byte ∷ []) ≡ values (here ∷ []) =
    fit-one-answer template t (card_counts script n e.links e.kinds) (values (byte ∷ [])) (values (here ∷ [])) says
    (counted-off template script grid e opened fitted n t ln lt) in
    cc

-- Nothing is refused: neither 41, 42 nor 43 comes up, nor a number of the template's.
pub counted-accepted :
    (template script : List ℕ) (e : Extent) → Opened template script e → (n t : ℕ) → n < e.cards → t < e.shapes →
    (number place : ℕ) →
    FitSays template t (card_counts script n e.links e.kinds) (refusal number (place ∷ [])) → ⊥
counted-accepted template script e opened n t ln lt number place says =
    values-refusal (fit-one-answer template t (card_counts script n e.links e.kinds) _ _
    (tested-said template script e opened n t lt) says)
