-- Runs of parts, one after the other.
--   and_then                the parts of one run, and then those of another
--   then-words             their words stand one after the other
--   then-names             a label that stands in it stands in one of the two
--   then-has, has-then     it has the links of both, and no others
--   then-single, then-limits   no label stands twice, numbers are within their limits: where both are so
--   then-flat              both are flat where it is
--   run-words              a run with a part has a word
-- Assumes nothing.
use Prim.Native.Nat.{ℕ, ◌<◌}
use mathlib.Core.Path.{◌≡◌, refl, sym}
use mathlib.Core.Logic.{◌⊎◌, inl, inr, ⊎_elim}
use mathlib.Core.List.{◌++◌, append_assoc}
use native.Mathlib.Omega.{arith}
use lib.ListN.{length, length-append}
use Rattle.bags.specs.Part.{Limit, Part, nothing, star, plus, optional, choice, all, link, Parts, none, more}
use Rattle.bags.specs.Part.{RunNames, RunSingle}
use Rattle.bags.specs.Flat.{RunFlat, RunHas}
use Rattle.parts.specs.Writer.{write_part, write_run, RunWithinLimits}

-- The parts of one run, and then those of another.
abbrev pub and_then : Parts → Parts → Parts
and_then none qs = qs
and_then (more p ps) qs = more p (and_then ps qs)

pub then-words : (ps qs : Parts) → write_run (and_then ps qs) ≡ write_run ps ++ write_run qs
then-words none qs = refl
then-words (more p ps) qs = rw (then-words ps qs) (sym (append_assoc (write_part p) (write_run ps) (write_run qs)))

pub then-names : (ps qs : Parts) (k : ℕ) → RunNames (and_then ps qs) k → RunNames ps k ⊎ RunNames qs k
then-names none qs k n = inr n
then-names (more p ps) qs k (inl n) = inl (inl n)
then-names (more p ps) qs k (inr n) = ⊎_elim (λ m. inl (inr m)) (λ m. inr m) (then-names ps qs k n)

pub then-has : (ps qs : Parts) (k low : ℕ) (high : Limit) → RunHas (and_then ps qs) k low high
    → RunHas ps k low high ⊎ RunHas qs k low high
then-has none qs k low high h = inr h
then-has (more p ps) qs k low high (inl h) = inl (inl h)
then-has (more p ps) qs k low high (inr h) = ⊎_elim (λ m. inl (inr m)) (λ m. inr m) (then-has ps qs k low high h)

pub has-then : (ps qs : Parts) (k low : ℕ) (high : Limit) → RunHas ps k low high ⊎ RunHas qs k low high
    → RunHas (and_then ps qs) k low high
has-then none qs k low high (inl h) = absurd h
has-then none qs k low high (inr h) = h
has-then (more p ps) qs k low high (inl (inl h)) = inl h
has-then (more p ps) qs k low high (inl (inr h)) = inr (has-then ps qs k low high (inl h))
has-then (more p ps) qs k low high (inr h) = inr (has-then ps qs k low high (inr h))

pub then-single : (ps qs : Parts) → RunSingle ps → RunSingle qs → ((k : ℕ) → RunNames ps k → RunNames qs k → ⊥)
    → RunSingle (and_then ps qs)
then-single none qs s t apart = t
then-single (more p ps) qs s t apart = (
  s.0,
  then-single ps qs s.1 t (λ k m n. apart k (inr m) n),
  λ k m n. ⊎_elim (λ l. s.2 k m l) (λ l. apart k (inl m) l) (then-names ps qs k n),
)

pub then-limits : (ps qs : Parts) → RunWithinLimits ps → RunWithinLimits qs → RunWithinLimits (and_then ps qs)
then-limits none qs s t = t
then-limits (more p ps) qs s t = (s.0, then-limits ps qs s.1 t)

pub then-flat : (ps qs : Parts) → RunFlat (and_then ps qs) → RunFlat ps × RunFlat qs
then-flat none qs f = (tt, f)
then-flat (more p ps) qs f = let g = then-flat ps qs f.1 in ((f.0, g.0), g.1)

-- A part has a word at least, its code.
pub part-words : (p : Part) → 0 < length (write_part p)
part-words nothing = omega arith
part-words (star p) = omega arith
part-words (plus p) = omega arith
part-words (optional p) = omega arith
part-words (choice ps) = omega arith
part-words (all ps) = omega arith
part-words (link label shape low high) = omega arith

pub run-words : (p : Part) (ps : Parts) → 0 < length (write_run (more p ps))
run-words p ps = omega (arith, part-words p, length-append (write_part p) (write_run ps))
