-- The pairs that need one, by the links of its card.
--   needing-in                       the pair that needs another is on the board
--   need-needs, far-is, needs-need   p needs q where p is good for a link seen one way whose far end is q's card, and
--                                    only there
--   need-in-grid                     what is good for a link is on the board
-- Assumes nothing.
use mathlib.Core.Path.{◌≡◌, sym, ap, ◌∙◌, subst}
use mathlib.Core.List.{List}
use Prim.Native.Nat.{ℕ, suc, ◌+◌, ◌*◌, ◌/◌, ◌%◌, ◌<◌}
use lib.ListN.{get_or}
use Rattle.words.proofs.Places.{place_in, place-from, shape-in, place_of, card-of, shape_of}
use Rattle.bags.specs.Label.{Way}
use Rattle.template.specs.Machine.{entry_at}
use Rattle.script.specs.Link.{near_at, label_at, far_at}
use Rattle.typing.specs.Needs.{Needs, Ready}
use Rattle.typing.proofs.Boards.{entry-shape}
use Rattle.strikes.specs.Strikes.{NeedGood}

module _ {script names : List ℕ} {shapes : ℕ} (ready : Ready script names shapes) where
  pub needing-in : (p q : ℕ) → Needs script names shapes p q → p < get_or script 0 0 * shapes
  needing-in p q d = place-from shapes ready.one-shape (get_or script 0 0) p
      (subst (λ (x : ℕ). x < get_or script 0 0) d.starts (ready.near-in d.way d.link d.below))

  pub need-needs : (way : Way) (i p q : ℕ) → i < get_or script 1 0 → far_at way script i ≡ q / shapes
      → NeedGood way script names shapes (q % shapes) i p → Needs script names shapes p q
  need-needs way i p q l goes g = record {
    way = way;
    link = i;
    below = l;
    starts = sym (ap (λ (x : ℕ). x / shapes) g.at
        ∙ card-of shapes ready.one-shape (near_at way script i) g.by g.below);
    shape = q % shapes;
    names-it = ap (λ (x : ℕ). entry_at names x (label_at way script i))
        (ap (λ (x : ℕ). x % shapes) g.at
        ∙ shape_of shapes ready.one-shape (near_at way script i) g.by g.below)
        ∙ g.names-it;
    leads = sym (place_of shapes ready.one-shape q) ∙ ap (λ (x : ℕ). x * shapes + q % shapes) (sym goes);
  }

  module _ (way : Way) (i p q u : ℕ) (l : i < get_or script 1 0) (near : near_at way script i ≡ p / shapes)
      (names-it : entry_at names (p % shapes) (label_at way script i) ≡ suc u)
      (at : q ≡ far_at way script i * shapes + u) where
    u-shape : u < shapes
    u-shape = entry-shape ready way (p % shapes) i u (shape-in shapes ready.one-shape p) l names-it

    pub far-is : far_at way script i ≡ q / shapes
    far-is = sym (ap (λ (x : ℕ). x / shapes) at ∙ card-of shapes ready.one-shape (far_at way script i) u u-shape)

    pub needs-need : NeedGood way script names shapes (q % shapes) i p
    needs-need = record {
      by = p % shapes;
      below = shape-in shapes ready.one-shape p;
      names-it = names-it ∙ ap suc (sym (ap (λ (x : ℕ). x % shapes) at
          ∙ shape_of shapes ready.one-shape (far_at way script i) u u-shape));
      at = sym (place_of shapes ready.one-shape p) ∙ ap (λ (x : ℕ). x * shapes + p % shapes) (sym near);
    }

  -- what is good for a link is on the board
  pub need-in-grid : (way : Way) (u i p : ℕ) → i < get_or script 1 0 → NeedGood way script names shapes u i p
      → p < get_or script 0 0 * shapes
  need-in-grid way u i p l g = subst (λ (x : ℕ). x < get_or script 0 0 * shapes) (sym g.at)
      (place_in (get_or script 0 0) shapes (near_at way script i) g.by (ready.near-in way i l) g.below)
