-- `script::links_of_card` lends an empty part or the card's part.
-- Assumes nothing.
use Prim.Native.Nat.{ℕ, ◌+◌, ◌*◌}
use native.Mathlib.Omega.{arith}
use mathlib.Core.Path.{◌≡◌, refl, sym, ap, subst, ◌∙◌}
use Rattle.script.specs.Steps.{Ascending}
use Rattle.script.specs.Answer.{script_said}
use Rattle.script.proofs.WithTemplate.{both_read, card-links-none, card-links-outside, card-links-part}
use Rattle.script.proofs.WithTemplate.{links-start-none, links-start-outside, links-start-part}
use Rattle.script.proofs.links_of_card.Goals as goal

-- Words are two bytes each.
at-word : {a b : ℕ} (base : ℕ) → a ≡ b → a * 2 + base ≡ b * 2 + base
at-word base e = ap (λ (x : ℕ). x * 2 + base) e

pub card_part-requires : goal.card_part-requires
card_part-requires c =
    let both = both_read _ _ _ _ (sym (ap script_said c.in-Ok.is) ∙ c.read_script.ensures) in
    record {
      ascending = subst (Ascending _) (sym c.from.ensures) both.read.ascending;
      small = omega arith;
    }

pub returns-in-Ok : goal.returns-in-Ok
returns-in-Ok c =
    let both = both_read _ _ _ _ (sym (ap script_said c.in-Ok.is) ∙ c.read_script.ensures) in
    let inside = c.if-card-sizes.true in
    let part = c.card_part.ensures in
    record {
      list =
          part.list
          ∙ rw (c.from-in-Ok.ensures, c.from.ensures) (card-links-part _ _ _ _ _ both inside);
      lent = part.lent;
      place =
          part.place
          ∙ rw (c.from-in-Ok.ensures, c.from.ensures) (at-word _ (links-start-part _ _ _ _ _ both inside));
    }

pub returns-in-Ok-2 : goal.returns-in-Ok-2
returns-in-Ok-2 c =
    let both = both_read _ _ _ _ (sym (ap script_said c.in-Ok.is) ∙ c.read_script.ensures) in
    let outside = c.if-card-sizes.false in
    record {
      list = card-links-outside _ _ _ _ _ both outside;
      lent = refl;
      place = at-word _ (links-start-outside _ _ _ _ _ both outside);
    }

pub returns-in-Err : goal.returns-in-Err
returns-in-Err c =
    let said = sym (ap script_said c.in-Err.is) ∙ c.read_script.ensures in
    record {
      list = card-links-none _ _ _ _ _ said;
      lent = refl;
      place = at-word _ (links-start-none _ _ _ _ _ said);
    }
