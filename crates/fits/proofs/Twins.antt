-- Cards with as many links of each kind have the same byte under a shape that names no incoming kind.
-- twins-asked, twins-found   what finding the twins of a sheet's cards asks, and what is found
-- twin-byte                  the byte of a card is that of its twin
-- Assumes nothing.
use Prim.Native.Nat.{ℕ, ◌<◌}
use mathlib.Core.Path.{◌≡◌, sym, ap, subst, ◌∙◌}
use mathlib.Core.Bool.{Bool, false, cond}
use mathlib.Core.List.{List}
use native.Mathlib.Omega.{arith}
use lib.ListN.{length, get_or}
use Rattle.words.specs.Limits.{max_cards, max_depth}
use Rattle.words.specs.Reading.{accepted}
use Rattle.bags.specs.Label.{outgoing, incoming, label_of}
use Rattle.bags.specs.Part.{Part, Names}
use Rattle.bags.specs.Interval.{fits}
use Rattle.bags.specs.Proposition.{label_count}
use Rattle.bags.proofs.Naming.{OfKindBelow}
use Rattle.bags.proofs.Looking.{fits-alike}
use Rattle.template.specs.Template.{part_at, opens, read_template}
use Rattle.script.specs.Link.{neighbours}
use Rattle.script.specs.Script.{counts_of}
use Rattle.links.specs.Index.{StartsOf, LeavingOf}
use Rattle.twins.specs.Twins.{TwinOf, TwinsOf, TwinsAsked}
use Rattle.script.proofs.Reading.{script-accepted}
use Rattle.sheet.specs.declared.Extent.{Extent}
use Rattle.sheet.specs.Opened.{template_as, Opened}
use Rattle.trees.specs.Trees.{tree_at}
use Rattle.trees.proofs.Agreement.{shape-tree}
use Rattle.fits.specs.Fitting.{Named, WaysSeen, byte_at}
use Rattle.fits.proofs.CardCounts.{shape_at, way-is, shape-kinds, none-back, leaving-read}

-- Of a sheet that is read: where its cards' links start, what finding their twins asks, and what is found.
module _ (template script starts : List ℕ) (e : Extent) (opened : Opened template script e)
    (s : StartsOf script starts e.cards e.links) (cards : ℕ) (q : cards ≡ e.cards) where
  leaving : LeavingOf script starts cards e.links
  leaving = rw q (leaving-read template script e opened starts s)

  pub twins-asked : (twins : List ℕ) → length twins ≡ max_cards → TwinsAsked script starts cards twins
  twins-asked twins size =
      let w = script-accepted e.kinds script (counts_of e.cards e.links) opened.script-read in
      record {
        links = e.links;
        leaving = leaving;
        few = omega (arith, w.cards-bound);
        room = omega (arith, w.cards-bound);
      }

  pub twins-found : (twins : List ℕ) →
      ((links : ℕ) → LeavingOf script starts cards links → TwinsOf script cards links twins) →
      TwinsOf script e.cards e.links twins
  twins-found twins found = subst (λ (x : ℕ). TwinsOf script x e.links twins) q (found e.links leaving)

module _ (template script : List ℕ) (e : Extent) (opened : Opened template script e) (m n : ℕ)
    (twin : TwinOf script e.links n m) where
  -- the counts of a card's neighbours by label
  abbrev counts : ℕ → ℕ → ℕ
  counts c = label_count (neighbours script c e.links)

  -- a kind of links from them counts alike
  outward : (k : ℕ) → k < e.kinds → counts m k ≡ counts n k
  outward k h =
      let own : label_of outgoing k ≡ k = omega arith in
      rw own at (way-is template script e opened m outgoing k h ∙ twin.alike k
      ∙ sym (way-is template script e opened n outgoing k h))

  module _ (row : List ℕ) (t at : ℕ) (named : Named template row e t at) (back : Bool) (seen : WaysSeen row e back)
      (off : back ≡ false) where
    abbrev shape : Part
    shape = shape_at template at

    -- and so does each that the shape names, which is no incoming one
    named-alike : (k : ℕ) → Names shape k → OfKindBelow e.kinds k → counts m k ≡ counts n k
    named-alike k i (outgoing, kind, h, same) = outward k (omega arith)
    named-alike k i (incoming, kind, h, same) =
        absurd (none-back template script e opened row t at named seen off kind h (subst (Names shape) same i))

    pub twin-byte : (parts : List Part) → read_template template ≡ accepted (template_as e.kinds e.shapes parts) →
        byte_at script e (opens template t) (get_or parts t Part.nothing) m
        ≡ byte_at script e (opens template t) (get_or parts t Part.nothing) n
    twin-byte parts r =
        let is_open = opens template t in
        let same : shape ≡ get_or parts t Part.nothing =
        ap (λ (x : ℕ). (tree_at max_depth template (part_at template x)).value) named.place
        ∙ shape-tree template (template_as e.kinds e.shapes parts) t r named.below in
        let alike =
        fits-alike (counts m) (counts n) is_open shape e.kinds outward
        (λ k i. named-alike k i (shape-kinds template script e opened row t at named k i)) in
        ap (λ (y : Bool). cond {A = ℕ} y 1 0)
        (subst (λ (p : Part). fits is_open e.kinds p (counts m) ≡ fits is_open e.kinds p (counts n)) same alike)
