-- `twins::twin_of` compares two cards by the kinds of their links. Assumes nothing.
use native.Mathlib.Omega.{arith}
use Rattle.links.proofs.Leaving.{leaving-fewer}
use Rattle.twins.proofs.Twins.{twin-alike}
use Rattle.twins.proofs.twin_of.Goals as goal

pub returns-then-same_kinds : goal.returns-then-same_kinds
returns-then-same_kinds c = λ links s.
    let before = rw c.in-Some.is at c.requires.before in
    let earlier = c.leaving_links-earlier.ensures links (leaving-fewer s _ (omega (arith, before))) in
    twin-alike _ _ s.ascending _ _ (omega (arith, before)) _ _ (rw c.from.ensures at earlier)
    (c.leaving_links-own.ensures links s) (c.same_kinds.ensures c.if-same_kinds.true)
