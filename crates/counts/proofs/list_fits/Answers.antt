-- `list_fits` meets its contract: a law of proofs/Listing for each answer. Assumes nothing.
use Prim.Native.Nat.{ℕ, ◌+◌}
use mathlib.Core.Path.{◌≡◌, ap, sym, ◌∙◌}
use mathlib.Core.List.{[]}
use native.Mathlib.Omega.{arith}
use Rattle.words.specs.Limits.{max_depth}
use Rattle.bags.specs.Bag.{count}
use Rattle.bags.specs.Interval.{inside, interval}
use Rattle.links.specs.Runs.{amount}
use Rattle.trees.specs.Trees.{tree_at}
use Rattle.counts.proofs.Listing.{list-ready, listed-all, fits-open, fits-closed, fits_not}
use Rattle.counts.proofs.list_fits.Goals as goal
use Rattle.counts.proofs.list_fits.Goals.{Start}

-- What is counted for the part at a place is what the list has.
by-list : (s : Start) (at : ℕ) →
    let part = (tree_at max_depth s.args.words.now at).value in
    inside 1 (interval part (amount [] s.args.counts.now))
    ≡ inside 1 (interval part (count s.args.counts.now))
by-list s at =
    ap (λ (w : ℕ → ℕ). inside 1 (interval (tree_at max_depth s.args.words.now at).value w))
    (listed-all _ s.requires.counted)

pub part_fits-requires : goal.part_fits-requires
part_fits-requires c = list-ready _ _ c.requires.words-high c.requires.counted

pub returns-then-open_at : goal.returns-then-open_at
returns-then-open_at c =
    let w = count c.args.counts.now in
    fits-open w c.args.kinds _ _ _ (sym c.open_at.ensures ∙ c.if-open_at.true)
    (c.part_fits.ensures ∙ by-list (goal.at.returns-then-open_at c).Start (c.args.at + 2))

pub others_zero-requires : goal.others_zero-requires
others_zero-requires c =
    record { kinds-in = c.requires.kinds-in; counted = omega (arith, c.requires.few, c.requires.counted) }

pub part_fits-requires-then-others_zero : goal.part_fits-requires-then-others_zero
part_fits-requires-then-others_zero c =
    list-ready _ _ c.requires.words-high c.requires.counted

pub returns-then-others_zero : goal.returns-then-others_zero
returns-then-others_zero c =
    fits-closed (count c.args.counts.now) c.args.kinds _ _ _
    (sym c.open_at.ensures ∙ c.if-open_at.false) (c.others_zero.ensures _ c.requires.row_of) _
    c.if-others_zero.true (c.part_fits-then-others_zero.ensures ∙ by-list (goal.at.returns-then-others_zero
    c).Start (c.args.at + 1))

pub returns : goal.returns
returns c =
    fits_not (count c.args.counts.now) c.args.kinds _ _ _
    (sym c.open_at.ensures ∙ c.if-open_at.false) (c.others_zero.ensures _ c.requires.row_of)
    c.if-others_zero.false
