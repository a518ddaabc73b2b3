-- `tidy_list::tidy_into` writes what the call says, and the words that it wrote: a law of proofs/Lists for each way.
-- Assumes nothing.
use Prim.Native.Nat.{ℕ, ◌-◌}
use mathlib.Core.Path.{◌≡◌, ap, ◌∙◌}
use native.Mathlib.Omega.{arith}
use lib.ListN.{take}
use lib.Seq.{length-take-le}
use Rattle.std.specs.Prelude.{Ok, Err}
use Rattle.words.specs.Refused.{number}
use Rattle.input.proofs.RoundTrip.{words_size}
use Rattle.text.proofs.Lines.{refused-bound}
use Rattle.tidy_list.proofs.Lists.{Told, told, refused-wrote, list_wrote}
use Rattle.tidy_list.proofs.tidy_into.Goals as goal
use Rattle.tidy_list.proofs.tidy_into.Goals.{In-Err, In-Ok}

refused : (k : In-Err) → Told k.args.template.now k.args.script.now k.args.bookings.now
    k.tidy_bookings.new.out (Err k.in-Err.refusal)
refused k = told k.args.template.now k.args.script.now k.args.bookings.now k.args.list.now
    k.tidy_bookings.new.out k.requires.sized (Err k.in-Err.refusal)
    k.in-Err.ensures

written : (k : In-Ok) → Told k.args.template.now k.args.script.now k.args.bookings.now
    k.tidy_bookings.new.out (Ok k.in-Ok.count)
written k = told k.args.template.now k.args.script.now k.args.bookings.now k.args.list.now
    k.tidy_bookings.new.out k.requires.sized (Ok k.in-Ok.count) k.in-Ok.ensures

pub put_refusal-requires : goal.put_refusal-requires
put_refusal-requires c = omega (arith, refused-bound (number c.in-Err.refusal.0) c.in-Err.refusal.1)

pub slice_bounds-put_words-end : goal.slice_bounds-put_words-end
slice_bounds-put_words-end c = (written (goal.at.slice_bounds-put_words-end c).In-Ok).2

pub put_words-requires : goal.put_words-requires
put_words-requires c =
    let list = c.tidy_bookings.new.out in
    let count = c.in-Ok.count - 0 in
    let inside = (written (goal.at.put_words-requires c).In-Ok).2 in
    omega (
      arith,
      words_size (take count list),
      length-take-le count list (omega (arith, inside)),
      inside,
      c.requires.sized.few,
      c.requires.room,
    )

pub returns-in-Err : goal.returns-in-Err
returns-in-Err c =
    refused-wrote (refused (goal.at.returns-in-Err c).In-Err) c.put_refusal.ensures

pub returns-in-Ok : goal.returns-in-Ok
returns-in-Ok c =
    let all : c.in-Ok.count - 0 ≡ c.in-Ok.count = omega arith in
    let told = written (goal.at.returns-in-Ok c).In-Ok in
    list_wrote told.0 (ap (λ (n : ℕ). take n c.tidy_bookings.new.out) all ∙ told.1) c.put_words.ensures
