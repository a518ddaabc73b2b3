-- `parts::ShapeWords::link` meets its contract: a law of proofs/Laws for each answer.
-- Assumes nothing.
use mathlib.Core.Path.{sym, ◌∙◌}
use Rattle.parts.proofs.Laws.{link-short, link-kind, link-again, link-shape, link-good, link-limits}
use Rattle.parts.proofs.ShapeWords.link.Goals as goal

pub returns-then-self-at-lt4 : goal.returns-then-self-at-lt4
returns-then-self-at-lt4 c =
    link-short c.args.self.now.words.now c.args.self.now.end c.args.self.now.sizes c.args.at c.args.row.now
    c.args.first c.args.kind.0 c.if-self-at-lt4.true

pub returns-then-self-kind : goal.returns-then-self-kind
returns-then-self-kind c =
    link-kind c.args.self.now.words.now c.args.self.now.end c.args.self.now.sizes c.args.at c.args.row.now
    c.args.first c.args.kind.0 c.if-self-at-lt4.false c.if-self-kind.true

pub returns-then-row-label-ne0 : goal.returns-then-row-label-ne0
returns-then-row-label-ne0 c =
    link-again c.args.self.now.words.now c.args.self.now.end c.args.self.now.sizes c.args.at c.args.row.now
    c.args.first c.args.kind.0 c.if-self-at-lt4.false c.if-self-kind.false c.if-row-label-ne0.true

pub returns-then-self-shape : goal.returns-then-self-shape
returns-then-self-shape c =
    link-shape c.args.self.now.words.now c.args.self.now.end c.args.self.now.sizes c.args.at c.args.row.now
    c.args.first c.args.kind.0 c.if-self-at-lt4.false c.if-self-kind.false c.if-row-label-ne0.false
    c.if-self-shape.true

pub returns-then-limits_ok : goal.returns-then-limits_ok
returns-then-limits_ok c =
    link-good c.args.self.now.words.now c.args.self.now.end c.args.self.now.sizes c.args.at c.args.row.now
    c.args.first c.args.kind.0 c.entry.result c.if-self-at-lt4.false c.if-self-kind.false
    c.if-row-label-ne0.false c.if-self-shape.false c.entry.ensures
    (sym c.limits_ok.ensures ∙ c.if-limits_ok.true)

pub returns-else-limits_ok : goal.returns-else-limits_ok
returns-else-limits_ok c =
    link-limits c.args.self.now.words.now c.args.self.now.end c.args.self.now.sizes c.args.at c.args.row.now
    c.args.first c.args.kind.0 c.if-self-at-lt4.false c.if-self-kind.false c.if-row-label-ne0.false
    c.if-self-shape.false (sym c.limits_ok.ensures ∙ c.if-limits_ok.false)
