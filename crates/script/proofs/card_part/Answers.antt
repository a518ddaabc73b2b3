-- `script::card_part` lends the part of the script between two counts.
-- Assumes nothing.
use Prim.Native.Nat.{ℕ, ◌+◌, ◌*◌}
use mathlib.Core.Path.{refl, ap}
use native.Mathlib.Omega.{arith}
use Rattle.script.specs.Link.{from_index}
use Rattle.script.specs.Steps.{LinksIn}
use Rattle.script.proofs.Cards.{part-within, part-words}
use Rattle.script.proofs.card_part.Goals as goal
use Rattle.script.proofs.card_part.Goals.{After-count_below-end}

-- The part lies inside the script.
lies : (a : After-count_below-end) →
    LinksIn a.args.script.now a.count_below-start.result a.count_below-end.result
lies a =
    part-within _ _ a.requires.ascending _ _ _ a.count_below-start.ensures a.count_below-end.ensures

pub overflow_mul-result : goal.overflow_mul-result
overflow_mul-result c = omega (arith, (lies c).order, (lies c).few, (lies c).end)

pub overflow_add-result : goal.overflow_add-result
overflow_add-result c = omega (arith, (lies c).order, (lies c).few, (lies c).end)

pub overflow_mul-result-2 : goal.overflow_mul-result-2
overflow_mul-result-2 c = omega (arith, (lies c).order, (lies c).few, (lies c).end)

pub overflow_add-result-2 : goal.overflow_add-result-2
overflow_add-result-2 c = omega (arith, (lies c).order, (lies c).few, (lies c).end)

pub offset_bounds-script-start : goal.offset_bounds-script-start
offset_bounds-script-start c = omega (arith, (lies c).order, (lies c).few, (lies c).end)

pub slice_bounds-result-count : goal.slice_bounds-result-count
slice_bounds-result-count c = omega (arith, (lies c).order, (lies c).few, (lies c).end)

pub slice_bounds-result-start : goal.slice_bounds-result-start
slice_bounds-result-start c = omega (arith, (lies c).order, (lies c).few, (lies c).end)

pub slice_bounds-result-end : goal.slice_bounds-result-end
slice_bounds-result-end c = omega (arith, (lies c).order, (lies c).few, (lies c).end)

pub returns : goal.returns
returns c =
    let start = c.count_below-start.ensures in
    record {
      list = part-words _ _ c.requires.ascending _ _ _ start c.count_below-end.ensures;
      lent = refl;
      place = ap (λ (x : ℕ). from_index x * 2 + c.args.script.ref_ptr.1) start;
    }
