-- Where the links of a sheet that is read stand, as the searches take it.
--   tabled, rows               its table of names has a row for each shape
--   ready                      it is ready to be searched
--   among                      its links are among its cards
--   arrivals-asked             the links to each card can be chained in arrays of zeros
--   links-ready, links-arriving   where its links stand, found
-- Assumes nothing.
use Prim.Native.Nat.{ℕ, ◌*◌, ◌≤◌}
use mathlib.Core.Path.{◌≡◌, subst, subst₂}
use mathlib.Core.List.{List}
use native.Mathlib.Omega.{arith}
use lib.ListN.{length, get_or, replicate, length-replicate, get_or-replicate}
use Rattle.words.specs.Limits.{max_labels, max_cards, max_links}
use Rattle.template.specs.Machine.{Tabled}
use Rattle.script.specs.Link.{below}
use Rattle.script.specs.Steps.{Ascending}
use Rattle.links.specs.Marks.{LinksAmong}
use Rattle.links.specs.Index.{StartsOf, ArrivalsOf}
use Rattle.sheet.specs.Opened.{Known}
use Rattle.sheet.specs.declared.Extent.{Extent}
use Rattle.typing.specs.Needs.{Ready}
use Rattle.typing.proofs.Instance as instance
use Rattle.walks.specs.Walks.{Starts, LinksReady}
use Rattle.walks.proofs.Starts.{starts-of}
use Rattle.lent.proofs.KnownSheet.{shaped, read}
use Rattle.fits.specs.Fitting.{LinksFound}
use Rattle.pairs.specs.Pairs.{ArrivalsAsked}

module _ {template script names : List ℕ} {e : Extent} (k : Known template script names e) where
  pub tabled : Tabled k.opened.parts names
  tabled = k.table (shaped k) k.opened.template-read

  pub rows : e.shapes * max_labels ≤ length names
  rows = omega (arith, (read k).shapes.shapes-high, k.room)

  ready : Ready script names e.shapes
  ready = instance.ready (read k) names tabled rows

  pub among : LinksAmong script e.links e.cards
  among =
      let links = (read k).links in
      record {
        within = record { order = omega arith; few = links.links-bound; end = omega (arith, links.size) };
        from_in = links.from-below;
        to_in = links.to_below;
      }

  -- the links to each card are chained in arrays of zeros
  pub arrivals-asked : ArrivalsAsked script e (replicate max_cards 0) (replicate max_links 0)
  arrivals-asked =
      let cards = length-replicate {A = ℕ} max_cards 0 in
      let links = (read k).links in
      record {
        chaining = record {
          within = among.within;
          cards = λ i l. omega (arith, links.to_below i l, links.cards-bound, cards);
          blank = record {
            zeros = λ m l. get_or-replicate {A = ℕ} max_cards m 0 0 (omega (arith, cards));
            room = omega (arith, links.links-bound, length-replicate {A = ℕ} max_links 0);
          };
        };
        few-cards = links.cards-bound;
      }

  -- the links from a card stand from its start up to the next card's
  card-starts : {starts : List ℕ} → StartsOf script starts e.cards e.links → Starts script starts
  card-starts {starts} s =
      starts-of ready (subst (Ascending script) (read k).links.links (read k).links.ascending)
      (omega (arith, s.room, (read k).links.cards))
      (λ c l. subst (λ (m : ℕ). get_or starts c 0 ≡ below script c m) (read k).links.links
      (s.exact c (omega (arith, (read k).links.cards))))

  pub links-arriving : {first next : List ℕ} → ArrivalsOf script first next e.cards e.links
      → ArrivalsOf script first next (get_or script 0 0) (get_or script 1 0)
  links-arriving {first} {next} found =
      subst₂ (ArrivalsOf script first next) (read k).links.cards (read k).links.links found

  pub links-ready : {starts first next : List ℕ} → LinksFound script e starts first next
      → LinksReady script starts first next names e.shapes e.incoming
  links-ready found = record {
    ready = ready;
    leaving = card-starts found.leaving;
    arriving = λ some. links-arriving (found.arriving some);
    ways = k.ways;
  }
