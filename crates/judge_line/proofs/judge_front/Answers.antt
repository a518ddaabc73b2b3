-- `judge_line::judge_front` finds the grid after the files: one law of `Grids` for each return. Assumes nothing.
use mathlib.Core.Path.{◌∙◌}
use native.Mathlib.Omega.{arith}
use Rattle.text.proofs.Lines.{refused-bound}
use Rattle.judge_line.proofs.Grids.{no-grid, grid-apart, grid-read, desk-is, grid-is}
use Rattle.judge_line.proofs.Lines.{line_refused, line-judged}
use Rattle.judge_line.proofs.judge_front.Goals as goal

pub put_refusal-requires : goal.put_refusal-requires
put_refusal-requires c = omega (arith, refused-bound 60 0)

pub returns-then-input-start : goal.returns-then-input-start
returns-then-input-start c =
    line_refused (no-grid _ (c.end-end.ensures ∙ c.requires.laid.end) _ (omega arith)) c.put_refusal.ensures

pub put_refusal-requires-then-input-grid_end : goal.put_refusal-requires-then-input-grid_end
put_refusal-requires-then-input-grid_end c = omega (arith, refused-bound 60 0)

pub returns-then-input-grid_end : goal.returns-then-input-grid_end
returns-then-input-grid_end c =
    line_refused
    (grid-apart _ (c.end-end.ensures ∙ c.requires.laid.end) c.count_at.ensures.same _ (omega arith) (omega arith))
    c.put_refusal-then-input-grid_end.ensures

pub returns : goal.returns
returns c =
    let input = c.args.input.now in
    let ends = c.end-end.ensures ∙ c.requires.laid.end in
    let counts = c.count_at.ensures.same in
    line-judged _ c.judge_sections-said.result
    (grid-read input ends counts _ (omega arith) (omega arith))
    (desk-is input ends c.word_at-desk.ensures) (grid-is input ends counts (omega arith)) c.judge_sections-said.ensures
    c.put_verdict.ensures
