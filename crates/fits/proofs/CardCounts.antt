-- The counts of a card's links, as they are counted off, are those of its neighbours.
-- way-is        a label counts among a card's neighbours what its kind counts one way
-- shape_at       the part of a shape; shape-kinds, none-back: it names kinds of the template, and maybe no incoming one
-- leaving-read  where the links from each card start
-- own-rise, own-under   the kinds of a card's links rise, and are the template's
-- ListedBack    the counts of incoming kinds are listed where they matter; listed-none, listed-all: none, and all
-- back-asked    what counting the links to a card asks
-- pair-byte     what is said of a pair is its byte
-- pair-told     what is counted off fits a shape exactly if the card's neighbours do
-- named-row     the row has the names of the part
-- Assumes nothing.
use Prim.Native.Nat.{ℕ, ◌+◌, ◌-◌, ◌≤◌, ◌<◌}
use mathlib.Core.Path.{◌≡◌, refl, sym, ap, ap₂, subst, ◌∙◌}
use mathlib.Core.Bool.{Bool, true, false, cond}
use mathlib.Core.List.{List, []}
use native.Mathlib.Omega.{arith}
use lib.ListN.{length, get_or, replicate, length-replicate, get_or-replicate}
use Rattle.std.specs.Int.{from_bool}
use Rattle.words.specs.Limits.{max_kinds, max_labels, max_depth}
use Rattle.words.specs.Reading.{accepted}
use Rattle.words.proofs.Bools.{bool_case, never_both}
use Rattle.bags.specs.Label.{Way, outgoing, incoming, label_of}
use Rattle.bags.specs.Part.{Part, Names}
use Rattle.bags.specs.Interval.{fits}
use Rattle.bags.specs.Proposition.{label_count}
use Rattle.bags.proofs.Naming.{OfKindBelow, names-kind, named_none}
use Rattle.bags.proofs.Looking.{fits-alike}
use Rattle.template.specs.Template.{open_at, part_at, shape_place, opens, read_template}
use Rattle.template.proofs.Accepted.{template-accepted}
use Rattle.script.specs.Link.{to_at, card_words, neighbours, below}
use Rattle.script.specs.Script.{counts_of, read_script}
use Rattle.words.specs.Chain.{Chained}
use Rattle.links.specs.Index.{StartsOf, ArrivalsOf, LeavingOf, CountArrivingAsked}
use Rattle.links.specs.Counts.{way_count}
use Rattle.links.specs.Runs.{kinds_in, amount, KindsRise}
use Rattle.script.proofs.Reading.{script-accepted}
use Rattle.script.proofs.Cards.{below-le}
use Rattle.links.proofs.Leaving.{card-kind, card-rise, card-many, card-kinds}
use Rattle.links.proofs.Runs.{amount-counted, amount-listed}
use Rattle.sheet.specs.declared.Extent.{Extent}
use Rattle.sheet.specs.Opened.{template_as, Opened}
use Rattle.flat.specs.Meeting.{KindsUnder}
use Rattle.trees.specs.Trees.{tree_at}
use Rattle.evaluator.specs.Rows.{RowOf}
use Rattle.trees.proofs.Agreement.{shape-tree}
use Rattle.counts.proofs.OwnCounts.{own-way}
use Rattle.fits.specs.declared.Plan.{Plan}
use Rattle.fits.specs.Plans.{PlanOf}
use Rattle.fits.specs.Fitting.{Named, WaysSeen, byte_at, PairFits}

-- Where they matter, the counts of the links to card n are listed; else none is.
pub record ListedBack (script : List ℕ) (e : Extent) (back : Bool) (n : ℕ) (listed : List ℕ) : Type 0 where
  pub yes : back ≡ true → length listed ≡ max_kinds
  pub exact : back ≡ true → (k : ℕ) → k < max_kinds → get_or listed k 0 ≡ way_count incoming script n k e.links
  pub no : back ≡ false → length listed ≡ 0

-- No more than there are incoming kinds.
pub listed-short : (script : List ℕ) (e : Extent) (back : Bool) (n : ℕ) (listed : List ℕ) →
    ListedBack script e back n listed → length listed ≤ max_kinds
listed-short script e back n listed b = bool_case back (λ y. omega (arith, b.yes y)) (λ o. omega (arith, b.no o))

module _ (script : List ℕ) (e : Extent) (n : ℕ) {back : Bool} where
  pub listed-none : back ≡ false → ListedBack script e back n []
  listed-none off = record { yes = λ y. never_both y off; exact = λ y. never_both y off; no = λ o. refl }

  pub listed-all : {listed : List ℕ} → back ≡ true → length listed ≡ max_kinds →
      ((k : ℕ) → k < max_kinds → get_or listed k 0 ≡ way_count incoming script n k e.links) →
      ListedBack script e back n listed
  listed-all on size exact = record { yes = λ y. size; exact = λ y. exact; no = λ o. never_both on o }

-- What counting the links to a card asks.
pub back-asked : (script first next : List ℕ) (e : Extent) (n links : ℕ) →
    read_script e.kinds script ≡ accepted (counts_of e.cards e.links) → e.kinds ≤ max_kinds →
    ArrivalsOf script first next e.cards e.links → n < e.cards → links ≡ e.links →
    CountArrivingAsked script first next links n (replicate max_kinds 0)
back-asked script first next e n links read few a below q =
    let w = script-accepted e.kinds script (counts_of e.cards e.links) read in
    let room : length (replicate {A = ℕ} max_kinds 0) ≡ max_kinds = length-replicate {A = ℕ} max_kinds 0 in
    record {
      within = record { order = omega arith; few = omega (arith, w.links-bound); end = omega (arith, w.size) };
      arrivals = record {
        cards-in = omega (arith, a.cards-in);
        links-in = omega (arith, a.links-in);
        chained = subst (Chained (to_at script) first next) (sym q) a.chained;
      };
      kinds = λ i l. omega (arith, w.kind-below i (omega arith), room);
      zeros = λ k l. get_or-replicate {A = ℕ} max_kinds k 0 0 (omega (arith, room));
    }

-- The part of the shape whose count of words stands at a place.
abbrev pub shape_at : List ℕ → ℕ → Part
shape_at template at = (tree_at max_depth template (part_at template at)).value

module _ (template script : List ℕ) (e : Extent) (opened : Opened template script e) where
  few-kinds : e.kinds ≤ max_kinds
  few-kinds =
      (template-accepted template (template_as e.kinds e.shapes opened.parts) opened.template-read).kinds-high

  -- a label counts among the neighbours what its kind counts one way
  pub way-is : (n : ℕ) (way : Way) (k : ℕ) → k < e.kinds →
      label_count (neighbours script n e.links) (label_of way k) ≡ way_count way script n k e.links
  way-is =
      own-way few-kinds (script-accepted e.kinds script (counts_of e.cards e.links) opened.script-read)

  module _ (row : List ℕ) (t at : ℕ) (named : Named template row e t at) where
    -- the part of a shape names kinds of the template
    pub shape-kinds : (k : ℕ) → Names (shape_at template at) k → OfKindBelow e.kinds k
    shape-kinds k m =
        let whole = template_as e.kinds e.shapes opened.parts in
        let a = template-accepted template whole opened.template-read in
        let same : shape_at template at ≡ get_or opened.parts t Part.nothing =
        ap (λ (x : ℕ). (tree_at max_depth template (part_at template x)).value) named.place
        ∙ shape-tree template whole t opened.template-read named.below in
        names-kind e.kinds (get_or opened.parts t Part.nothing) (a.kinds-below t named.below) k
        (subst (λ (x : Part). Names x k) same m)

    -- and no incoming one, where none is seen
    pub none-back : {back : Bool} → WaysSeen row e back → back ≡ false → (k : ℕ) → k < e.kinds →
        Names (shape_at template at) (label_of incoming k) → ⊥
    none-back seen off k h =
        named_none (shape_at template at) (label_of incoming k)
        (sym (named.names (label_of incoming k) (omega (arith, few-kinds))) ∙ seen.no off k h)

  -- where the links from each card start, of links that rise
  pub leaving-read : (starts : List ℕ) → StartsOf script starts e.cards e.links →
      LeavingOf script starts e.cards e.links
  leaving-read starts s =
      let w = script-accepted e.kinds script (counts_of e.cards e.links) opened.script-read in
      record { ascending = w.ascending; starts-of = s }

  -- the words of a card's links
  module _ (n : ℕ) (own : List ℕ) (words_are : own ≡ card_words script n e.links) where
    pub own-rise : KindsRise own
    own-rise =
        let w = script-accepted e.kinds script (counts_of e.cards e.links) opened.script-read in
        rw words_are (card-rise script e.links w.ascending n)

    pub own-under : KindsUnder own e.kinds
    own-under =
        let w = script-accepted e.kinds script (counts_of e.cards e.links) opened.script-read in
        let size = (card-rise script e.links w.ascending n).size in
        let many = card-many script e.links w.ascending n in
        let lo = below script n e.links in
        rw words_are (record {
          few = few-kinds;
          below = λ i h.
              let here : lo + i < below script (n + 1) e.links = omega (arith, size, many) in
              omega (
                arith,
                card-kind script e.links w.ascending n i here,
                w.kind-below (lo + i) (omega (arith, below-le script (n + 1) e.links)),
              );
        })

    outward : (listed : List ℕ) → length listed ≤ max_kinds → (k : ℕ) → k < e.kinds →
        amount own listed k ≡ label_count (neighbours script n e.links) k
    outward listed few k h =
        let w = script-accepted e.kinds script (counts_of e.cards e.links) opened.script-read in
        let same : label_of outgoing k ≡ k = omega arith in
        amount-counted own listed k (omega (arith, few-kinds))
        ∙ ap (λ (ws : List ℕ). kinds_in ws k) words_are ∙ card-kinds script e.links w.ascending n k
        ∙ sym (way-is n outgoing k h) ∙ ap (label_count (neighbours script n e.links)) same

    module _ (row : List ℕ) (t at : ℕ) (named : Named template row e t at) (back : Bool) (seen : WaysSeen row e back)
        (listed : List ℕ) (b : ListedBack script e back n listed) where
      abbrev shape : Part
      shape = shape_at template at

      few-listed : length listed ≤ max_kinds
      few-listed = listed-short script e back n listed b

      inward : (k : ℕ) → k < e.kinds → Names shape (label_of incoming k) →
          amount own listed (label_of incoming k) ≡ label_count (neighbours script n e.links) (label_of incoming k)
      inward k h m = bool_case back
          (λ y.
          let full = b.yes y in
          let place : label_of incoming k - (max_labels - length listed) ≡ k = omega arith in
          amount-listed own listed (label_of incoming k) (omega arith)
          ∙ ap (λ (x : ℕ). get_or listed x 0) place ∙ b.exact y k (omega (arith, few-kinds))
          ∙ sym (way-is n incoming k h))
          (λ o. absurd (none-back row t at named seen o k h m))

      named-alike : (k : ℕ) → Names shape k → OfKindBelow e.kinds k →
          amount own listed k ≡ label_count (neighbours script n e.links) k
      named-alike k m (outgoing, kind, h, same) = outward listed few-listed k (omega arith)
      named-alike k m (incoming, kind, h, same) = rw same (inward kind h (subst (Names shape) same m))

      pair-alike : (is_open : Bool) →
          fits is_open e.kinds shape (amount own listed)
          ≡ fits is_open e.kinds shape (label_count (neighbours script n e.links))
      pair-alike is_open =
          fits-alike (amount own listed) (label_count (neighbours script n e.links)) is_open shape e.kinds
          (outward listed few-listed) (λ k m. named-alike k m (shape-kinds row t at named k m))

      -- the same where the part's start is known otherwise
      pub pair-told : (start : ℕ) → start ≡ part_at template at → (is_open fit : Bool) →
          fit ≡ fits is_open e.kinds (tree_at max_depth template start).value (amount own listed) →
          fit ≡ fits is_open e.kinds (tree_at max_depth template start).value
          (label_count (neighbours script n e.links))
      pair-told start q is_open fit h =
          h ∙ subst (λ (x : ℕ). fits is_open e.kinds (tree_at max_depth template x).value (amount own listed)
          ≡ fits is_open e.kinds (tree_at max_depth template x).value (label_count (neighbours script n e.links)))
          (sym q) (pair-alike is_open)

-- The row has the names of the part, wherever that is known to start.
pub named-row : (template row : List ℕ) (e : Extent) (t at start : ℕ) → Named template row e t at →
    start ≡ part_at template at → RowOf row e.kinds (tree_at max_depth template start).value
named-row template row e t at start named q =
    subst (λ (x : ℕ). RowOf row e.kinds (tree_at max_depth template x).value) (sym q)
    (λ k h. named.names k (omega (arith, named.asked.few)))

byte-is : (fit : Bool) → from_bool fit ≡ cond fit 1 0
byte-is true = refl
byte-is false = refl

-- What is said of a pair is its byte.
pub pair-byte : (template script : List ℕ) (e : Extent) (plan : Plan) (places : List ℕ) (at t n : ℕ) →
    PlanOf template at places plan → at ≡ shape_place template t 2 → t < e.shapes → (fit : Bool) →
    PairFits template script e plan n fit → (byte : ℕ) → byte ≡ from_bool fit → (parts : List Part) →
    read_template template ≡ accepted (template_as e.kinds e.shapes parts) →
    byte ≡ byte_at script e (opens template t) (get_or parts t Part.nothing) n
pair-byte template script e plan places at t n planned q l fit said byte b parts r =
    let w = label_count (neighbours script n e.links) in
    let is_open : plan.opened ≡ opens template t = planned.is_open ∙ ap (open_at template) q in
    let part : (tree_at max_depth template plan.start).value ≡ get_or parts t Part.nothing =
    ap (λ (x : ℕ). (tree_at max_depth template x).value) (planned.start ∙ ap (part_at template) q)
    ∙ shape-tree template (template_as e.kinds e.shapes parts) t r l in
    b ∙ byte-is fit ∙ ap (λ (y : Bool). cond {A = ℕ} y 1 0)
    (said ∙ ap₂ (λ (o : Bool) (p : Part). fits o e.kinds p w) is_open part)
