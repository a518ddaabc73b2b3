-- `template::Reader::shape` meets its contract: a law of proofs/ShapeLaws for each answer.
-- Assumes nothing.
use Prim.Native.Nat.{ℕ, ◌+◌, ◌-◌, ◌≤◌, ◌<◌}
use native.Mathlib.Omega.{arith}
use mathlib.Core.Path.{◌≡◌, ap, ◌∙◌}
use lib.ListN.{length, replicate}
use Rattle.words.specs.Refused.{read_as}
use Rattle.parts.specs.Reading.{no_names}
use Rattle.std.proofs.lemmas.Result.{err_from_is_err_and}
use Rattle.template.proofs.ShapeLaws.{shape-missing, shape-long, shape-empty, shape-left, shape-done}
use Rattle.template.proofs.ShapeLaws.{shape-refused}
use borrow.Author.Rules.{rules}
use Rattle.template.proofs.Reader.shape.Goals as goal
use Rattle.template.proofs.Reader.shape.Goals.{After-part, After-fill, After-from-count}

-- the count stands inside the words, and so many words follow it
inside : (c : After-from-count) → c.args.self.now.at < length c.args.self.now.words.now
inside c = omega arith

follow : (p : After-part) → p.from-count.result ≤ length p.args.self.now.words.now - (p.args.self.now.at + 1)
follow p = p.if-words-start.false

-- the row names nothing when the part is read
blank : (a : After-fill) → a.fill.new.self ≡ no_names
blank a =
    let filled : a.fill.new.self ≡ replicate (length a.args.row.now) 0 = search rules in
    filled ∙ ap (λ (n : ℕ). replicate n 0) a.requires.room

pub returns-then-words-at-clause-reads : goal.returns-then-words-at-clause-reads
returns-then-words-at-clause-reads c =
    shape-missing c.args.sizes c.args.self.now.words.now c.args.self.now.at c.args.row.now c.if-words-at.true

pub returns-then-words-start-clause-reads : goal.returns-then-words-start-clause-reads
returns-then-words-start-clause-reads c =
    shape-long c.args.sizes c.args.self.now.words.now c.args.self.now.at c.from-count.result (inside
    (goal.at.returns-then-words-start-clause-reads c).After-from-count)
    c.from-count.ensures c.args.row.now c.if-words-start.true

pub returns-then-count-eq0-clause-reads : goal.returns-then-count-eq0-clause-reads
returns-then-count-eq0-clause-reads c =
    shape-empty c.args.sizes c.args.self.now.words.now c.args.self.now.at c.from-count.result (inside
    (goal.at.returns-then-count-eq0-clause-reads
    c).After-from-count)
    c.from-count.ensures c.if-words-start.false c.args.row.now c.if-count-eq0.true

pub part-requires : goal.part-requires
part-requires c =
    let e = ap length (blank (goal.at.part-requires c).After-fill) in
    search rules

pub returns-then-next-end-clause-reads : goal.returns-then-next-end-clause-reads
returns-then-next-end-clause-reads c =
    shape-left c.args.sizes c.args.self.now.words.now c.args.self.now.at c.from-count.result (inside
    (goal.at.returns-then-next-end-clause-reads
    c).After-from-count)
    c.from-count.ensures (follow (goal.at.returns-then-next-end-clause-reads c).After-part) c.fill.new.self
    c.part_at-first.result (read_as c.part.result) _
    (blank (goal.at.returns-then-next-end-clause-reads c).After-fill) c.part_at-first.ensures c.part.ensures _
    (ap read_as c.in_ok-next.was)
    c.if-next-end.true

pub returns-clause-reads : goal.returns-clause-reads
returns-clause-reads c =
    shape-done c.args.sizes c.args.self.now.words.now c.args.self.now.at c.from-count.result (inside
    (goal.at.returns-clause-reads
    c).After-from-count)
    c.from-count.ensures (follow (goal.at.returns-clause-reads c).After-part) c.fill.new.self
    c.part_at-first.result (read_as c.part.result) _
    (blank (goal.at.returns-clause-reads c).After-fill) c.part_at-first.ensures c.part.ensures _ c.requires.kinds-high
    (ap read_as c.in_ok-next.was) c.if-next-end.false

pub returns-in_err-next-clause-reads : goal.returns-in_err-next-clause-reads
returns-in_err-next-clause-reads c =
    let p = err_from_is_err_and c.from_residual.result c.from_residual.ensures.1 in
    rw (p.1, p.2)
    (shape-refused c.args.sizes c.args.self.now.words.now c.args.self.now.at c.from-count.result (inside
    (goal.at.returns-in_err-next-clause-reads
    c).After-from-count)
    c.from-count.ensures (follow (goal.at.returns-in_err-next-clause-reads c).After-part) c.fill.new.self
    c.part_at-first.result (read_as c.part.result) _
    (blank (goal.at.returns-in_err-next-clause-reads c).After-fill) c.part_at-first.ensures c.part.ensures _ _
    (ap read_as c.in_err-next.was))
