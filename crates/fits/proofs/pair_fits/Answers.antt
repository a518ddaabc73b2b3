-- `fits::pair_fits` meets its contract: what is counted off the card's links fits exactly if its neighbours do.
-- Assumes nothing.
use Prim.Native.Nat.{ℕ, ◌+◌}
use mathlib.Core.Path.{◌≡◌, ap, ◌∙◌}
use mathlib.Core.Bool.{Bool}
use mathlib.Core.List.{List, []}
use native.Mathlib.Omega.{arith}
use Rattle.template.proofs.Accepted.{template-accepted}
use Rattle.script.specs.Link.{card_words}
use Rattle.links.specs.Index.{LeavingOf}
use Rattle.links.proofs.Leaving.{leaving-fewer}
use Rattle.links.specs.Counts.{way_count}
use Rattle.bags.specs.Label.{incoming}
use Rattle.sheet.specs.Opened.{template_as}
use Rattle.fits.specs.Plans.{CardReady, CardFits}
use Rattle.fits.specs.Fitting.{ShapeFits}
use Rattle.fits.proofs.CardCounts.{leaving-read, own-rise, own-under, ListedBack, listed-none, listed-all, listed-short}
use Rattle.fits.proofs.CardCounts.{back-asked, pair-told, named-row}
use Rattle.fits.proofs.pair_fits.Goals as goal
use Rattle.fits.proofs.pair_fits.Goals.{After-leaving_links-own, After-count_arriving, Start}

-- Where the links of the cards up to card n start, and the words of its own.
leaving : (s : Start) →
    LeavingOf s.args.sheet.now.script.now s.args.links.now.starts.now (s.args.n + 1) s.args.sheet.now.extent.links
leaving s =
    leaving-fewer (leaving-read _ _ s.args.sheet.now.extent s.requires.opened _ s.requires.standing.leaving) _ (omega (
      arith,
      s.requires.below,
    ))

own-words : (a : After-leaving_links-own) → let s = a.args in
    a.leaving_links-own.result.now ≡ card_words s.sheet.now.script.now s.n s.sheet.now.extent.links
own-words a = a.leaving_links-own.ensures _ (leaving (goal.at.After-leaving_links-own a).Start)

pub leaving_links-own-requires : goal.leaving_links-own-requires
leaving_links-own-requires c =
    record { links = c.args.sheet.now.extent.links; leaving = leaving (goal.at.leaving_links-own-requires c).Start }

-- What the test of the card asks, where so many counts are listed.
ready : (a : After-leaving_links-own) (listed : List ℕ) → let s = a.args in
    ListedBack s.sheet.now.script.now s.sheet.now.extent s.back s.n listed
    → CardReady s.sheet.now.template.now s.shape.now a.leaving_links-own.result.now listed
ready a listed b =
    let o = a.requires.opened in
    let own = own-words a in
    let under = own-under _ _ a.args.sheet.now.extent o _ _ own in
    record {
      short = (template-accepted _ (template_as _ _ o.parts) o.template-read).words-high;
      flat = a.requires.planned.flat;
      names = record {
        full = a.requires.named.asked.full;
        rise = own-rise _ _ a.args.sheet.now.extent o _ _ own;
        leaving = λ i h. omega (arith, under.below i h, under.few);
      };
      few = listed-short _ _ _ _ _ b;
    }

-- And what it says.
told : (a : After-leaving_links-own) (listed : List ℕ) (fit : Bool) → let s = a.args in
    ListedBack s.sheet.now.script.now s.sheet.now.extent s.back s.n listed
    → CardFits s.sheet.now.template.now s.shape.now a.leaving_links-own.result.now listed fit
    → ShapeFits s.sheet.now s.shape.now s.n fit
told a listed fit b said =
    let e = a.args.sheet.now.extent in
    let o = a.requires.opened in
    let own = own-words a in
    let place = a.requires.planned.start in
    pair-told _ _ e o _ _ own _ _ _ a.requires.named _ a.requires.seen _ b _ place a.args.shape.now.plan.opened _
    (said e.kinds (named-row _ _ e _ _ _ a.requires.named place) (own-under _ _ e o _ _ own))

pub card_fits-requires : goal.card_fits-requires
card_fits-requires c =
    ready (goal.at.card_fits-requires c).After-leaving_links-own [] (listed-none _ _ _ (grind arith))

pub returns-then-not-back : goal.returns-then-not-back
returns-then-not-back c =
    told (goal.at.returns-then-not-back c).After-leaving_links-own [] _ (listed-none _ _ _ (grind arith))
    c.card_fits.ensures

pub count_arriving-requires : goal.count_arriving-requires
count_arriving-requires c =
    back-asked _ _ _ c.args.sheet.now.extent _ _ c.requires.opened.script-read c.requires.named.asked.few
    (c.requires.standing.arriving (c.requires.seen.yes (grind arith))) c.requires.below c.from.ensures

-- The counts of the links to the card.
listed : (a : After-count_arriving) → let s = a.args in
    ListedBack s.sheet.now.script.now s.sheet.now.extent s.back s.n a.count_arriving.new.counts
listed a =
    listed-all _ _ _ (grind arith) a.count_arriving.ensures.size
    (λ k l. a.count_arriving.ensures.exact k (omega (arith, l))
    ∙ ap (way_count incoming a.args.sheet.now.script.now a.args.n k) a.from.ensures)

pub card_fits-requires-2 : goal.card_fits-requires-2
card_fits-requires-2 c =
    ready (goal.at.card_fits-requires-2 c).After-leaving_links-own _ (listed (goal.at.card_fits-requires-2
    c).After-count_arriving)

pub returns : goal.returns
returns c =
    told (goal.at.returns c).After-leaving_links-own _ _ (listed (goal.at.returns c).After-count_arriving)
    c.card_fits-2.ensures
