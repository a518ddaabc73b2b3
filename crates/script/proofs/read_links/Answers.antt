-- `script::read_links` tests the links one by one: before link i the reading from there on is the whole reading.
-- Assumes nothing.
use Prim.Native.Nat.{◌-◌}
use mathlib.Core.Path.{◌≡◌, refl, sym, ap, ◌∙◌}
use native.Mathlib.Omega.{arith}
use Rattle.std.proofs.lemmas.Result.{err_from_is_err_and}
use Rattle.words.specs.Reading.{said_of}
use Rattle.script.specs.Script.{script_values}
use Rattle.script.proofs.Reading.{links-next, links-refused, links-done}
use Rattle.script.proofs.read_links.Goals as goal

pub loop-i-init : goal.loop-i-init
loop-i-init c =
    let all : c.args.links - 0 ≡ c.args.links = omega arith in
    rw all refl

pub loop-i-preserved : goal.loop-i-preserved
loop-i-preserved c =
    c.loop-i.invariant ∙ links-next _ _ _ _ _ _ _ (omega arith) c.test_link.ensures c.in_ok-test_link.was

pub returns-in_err-test_link : goal.returns-in_err-test_link
returns-in_err-test_link c =
    let p = err_from_is_err_and c.from_residual.result c.from_residual.ensures.1 in
    rw (p.1, p.2)
    (sym
    (ap (said_of script_values)
    (c.loop-i.invariant ∙ links-refused _ _ _ _ _ _ _ (omega arith) c.test_link.ensures c.in_err-test_link.was)))

pub returns : goal.returns
returns c =
    sym (ap (said_of script_values) (c.loop-i.invariant ∙ links-done _ _ _ _ _ _ (omega arith)))
