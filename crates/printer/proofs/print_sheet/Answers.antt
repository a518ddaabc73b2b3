-- `printer::print_sheet` prints 60 for an input at fault, else the sheet of its sections. Assumes nothing.
use mathlib.Core.Path.{refl}
use native.Mathlib.Omega.{arith}
use native.Mathlib.Nat.{le_trans}
use Rattle.words.specs.Reading.{turned_down}
use Rattle.printer.proofs.Writes.{refused_end, written-by}
use Rattle.printer.proofs.print_sheet.Goals as goal

pub put_refusal-requires : goal.put_refusal-requires
put_refusal-requires c = le_trans (refused_end _ _) (omega arith)

pub returns-in-None : goal.returns-in-None
returns-in-None c =
    let told = written-by c.args.input.now (turned_down 60 0) c.in-None.ensures.reads refl c.put_refusal.ensures in
    record { writes = told.0; inside = told.1 }

pub returns-in-Some : goal.returns-in-Some
returns-in-Some c =
    let sheet = c.print_sections.ensures in
    let told = written-by c.args.input.now _ c.in-Some.ensures.reads sheet.prints sheet.wrote in
    record { writes = told.0; inside = told.1 }
