-- `printer::print_words` prints a refusal, or lends grids of the sheet's size. Assumes nothing.
use Prim.Native.Nat.{◌≤◌}
use native.Mathlib.Omega.{arith}
use native.Mathlib.Nat.{le_trans}
use Rattle.words.specs.Sizes.{max_grid}
use Rattle.lent.proofs.KnownSheet.{few-pairs}
use Rattle.printer.proofs.Writes.{refused_end, refused-written}
use Rattle.printer.proofs.print_words.Goals as goal
use Rattle.printer.proofs.print_words.Goals.{After-grid_size-size}

part_end : (c : After-grid_size-size) → c.grid_size-size.result ≤ max_grid
part_end c = omega (arith, c.grid_size-size.ensures, few-pairs (c.in-Ok.ensures).known)

pub put_refusal-requires : goal.put_refusal-requires
put_refusal-requires c = le_trans (refused_end _ _) (omega arith)

pub slice_bounds-radio-end : goal.slice_bounds-radio-end
slice_bounds-radio-end c = part_end (goal.at.slice_bounds-radio-end c).After-grid_size-size

pub slice_bounds-television-end : goal.slice_bounds-television-end
slice_bounds-television-end c = part_end (goal.at.slice_bounds-television-end c).After-grid_size-size

pub slice_bounds-large-end : goal.slice_bounds-large-end
slice_bounds-large-end c = part_end (goal.at.slice_bounds-large-end c).After-grid_size-size

pub print_grids-requires : goal.print_grids-requires
print_grids-requires c =
    let few = few-pairs (c.in-Ok.ensures).known in
    record {
      lent = rw c.list_sheet-listed.ensures record {
        booked = c.in-Ok.ensures;
        radio-size = omega (arith, c.grid_size-size.ensures, few);
        television-size = omega (arith, c.grid_size-size.ensures, few);
        large-size = omega (arith, c.grid_size-size.ensures, few);
      };
      room = omega arith;
    }

pub returns-in-Err : goal.returns-in-Err
returns-in-Err c = refused-written c.in-Err.ensures c.put_refusal.ensures
