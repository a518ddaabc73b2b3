-- `judging::Judged::link_had` tests whether the grid has the pair that the entry for a link names. Assumes nothing.
use mathlib.Core.Path.{◌≡◌, refl, ◌∙◌}
use Prim.Native.Nat.{suc}
use native.Mathlib.Omega.{arith}
use lib.ListN.{get_or}
use Rattle.script.specs.Link.{kind_at}
use Rattle.board.specs.Grid.{on}
use Rattle.walks.proofs.Needs.{kind-word}
use Rattle.judging.proofs.Judging.{link-nothing, link-named, link-both}
use Rattle.judging.proofs.Judged.link_had.Goals as goal
use Rattle.judging.proofs.Judged.link_had.Goals.{After-from, After-from-kind}

-- the link's kind and the shape that the entry names, as they are read
kind-is : (a : After-from-kind) → a.from-kind.result ≡ kind_at a.args.self.now.walk.script.now a.args.i
kind-is a = a.from-kind.ensures ∙ kind-word a.args.self.now.walk.script.now a.args.i

names-it : (a : After-from) → get_or a.args.row.now a.from-kind.result 0 ≡ suc a.from.result
names-it a = omega (arith, a.in-Some.ensures, a.from.ensures)

pub bounds-row-kind : goal.bounds-row-kind
bounds-row-kind c =
    omega (
      arith,
      kind-is (goal.at.bounds-row-kind c).After-from-kind,
      c.requires.row_in.kinds c.args.i c.requires.link-in,
    )

pub bounds-self-card : goal.bounds-self-card
bounds-self-card c =
    c.requires.row_in.led c.args.i _ c.requires.link-in
    (link-named c.requires.way c.args.self.now c.args.row.now c.args.i
    (kind-is (goal.at.bounds-self-card c).After-from-kind) c.requires.leads
    (names-it (goal.at.bounds-self-card c).After-from))

pub returns-in-None : goal.returns-in-None
returns-in-None c way leads = (
  λ _. link-nothing way c.args.self.now c.args.row.now c.args.i (kind-is (goal.at.returns-in-None c).After-from-kind)
      leads (omega (arith, c.in-None.ensures)),
  λ _. refl,
)

pub returns-in-Some : goal.returns-in-Some
unfolding on
returns-in-Some c way leads =
    link-both way c.args.self.now c.args.row.now c.args.i (kind-is (goal.at.returns-in-Some c).After-from-kind) leads
    (names-it (goal.at.returns-in-Some c).After-from)
