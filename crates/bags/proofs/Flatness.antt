-- Flat parts, whose interval has the numbers that lie in the interval of each of their links.
--   proper-same                    intervals with the same numbers in them are one
--   view-proper                    the interval of a span is proper
--   has_named, named-has           a label stands in a part exactly where the part has a link of it
--   flat_in                        what lies in a flat part's interval
-- Assumes nothing.
use Prim.Native.Nat.{ℕ, suc, ◌+◌}
use mathlib.Core.Path.{◌≡◌, refl, ap, ap₂}
use mathlib.Core.Logic.{inl, inr, ⊎_elim, ◌↔◌}
use native.Mathlib.Omega.{arith}
use mathlib.Core.Bool.{Bool, true, false}
use lib.Dec.{ltb, eqb}
use borrow.Author.Tests.{ltb-false}
use Rattle.bags.specs.Part.{Limit, Part, nothing, star, plus, optional, choice, all, link}
use Rattle.bags.specs.Part.{Parts, none, more, Names, RunNames}
use Rattle.bags.specs.Interval.{Interval, empty, within, from, In, link_interval}
use Rattle.bags.specs.Interval.{interval, meet_run}
use Rattle.bags.specs.Flat.{Flat, RunFlat, Has, RunHas}
use Rattle.bags.specs.Span.{top, seen_as, view}
use Rattle.bags.specs.declared.Span.{Span}
use Rattle.bags.proofs.Intervals.{Proper, in_meet}

-- ---- proper intervals
pub proper-same : (I J : Interval) → Proper I → Proper J → ((i : ℕ) → In i I ↔ In i J) → I ≡ J
proper-same empty empty p q h = refl
proper-same empty (within c d) p q h = absurd ((h c).1 (omega arith))
proper-same empty (from c) p q h = absurd ((h c).1 (omega arith))
proper-same (within a b) empty p q h = absurd ((h a).0 (omega arith))
proper-same (within a b) (within c d) p q h =
    let at_a = (h a).0 (omega arith) in
    let at_b = (h b).0 (omega arith) in
    let at_c = (h c).1 (omega arith) in
    let at-d = (h d).1 (omega arith) in
    ap₂ within (omega arith) (omega arith)
proper-same (within a b) (from c) p q h = let past = (h (suc b + c)).1 (omega arith) in absurd (omega arith)
proper-same (from a) empty p q h = absurd ((h a).0 (omega arith))
proper-same (from a) (within c d) p q h = let past = (h (suc d + a)).0 (omega arith) in absurd (omega arith)
proper-same (from a) (from c) p q h =
    let at_a = (h a).0 (omega arith) in
    let at_c = (h c).1 (omega arith) in
    ap from (omega arith)

pub view-proper : (x : Span) → Proper (view x)
unfolding view
view-proper x = by_tests (ltb x.hi x.lo) refl (eqb x.hi top)
  where
    by_tests : (s : Bool) → ltb x.hi x.lo ≡ s → (t : Bool) → Proper (seen_as s t x.lo x.hi)
    by_tests true e t = tt
    by_tests false e true = tt
    by_tests false e false = ltb-false x.hi x.lo e

-- ---- the links of a part
mutual
  pub has_named : (p : Part) (k low : ℕ) (high : Limit) → Has p k low high → Names p k
  has_named nothing k a b h = h
  has_named (star p) k a b h = has_named p k a b h
  has_named (plus p) k a b h = has_named p k a b h
  has_named (optional p) k a b h = has_named p k a b h
  has_named (choice ps) k a b h = run-has-named ps k a b h
  has_named (all ps) k a b h = run-has-named ps k a b h
  has_named (link label shape low high) k a b h = h.0

  run-has-named : (ps : Parts) (k low : ℕ) (high : Limit) → RunHas ps k low high → RunNames ps k
  run-has-named none k a b h = h
  run-has-named (more p ps) k a b h =
      ⊎_elim (λ g. inl (has_named p k a b g)) (λ g. inr (run-has-named ps k a b g)) h

mutual
  pub named-has : (p : Part) (k : ℕ) → Names p k → (low : ℕ) × (high : Limit) × Has p k low high
  named-has nothing k n = absurd n
  named-has (star p) k n = named-has p k n
  named-has (plus p) k n = named-has p k n
  named-has (optional p) k n = named-has p k n
  named-has (choice ps) k n = run-named-has ps k n
  named-has (all ps) k n = run-named-has ps k n
  named-has (link label shape low high) k n = (low, high, (n, refl, refl))

  run-named-has : (ps : Parts) (k : ℕ) → RunNames ps k → (low : ℕ) × (high : Limit) × RunHas ps k low high
  run-named-has none k n = absurd n
  run-named-has (more p ps) k n =
      ⊎_elim
      (λ m. let (a, b, h) = named-has p k m in (a, b, inl h))
      (λ m. let (a, b, h) = run-named-has ps k m in (a, b, inr h))
      n

-- ---- what lies in the interval of a flat part
mutual
  pub flat_in : (p : Part) → Flat p → (w : ℕ → ℕ) (i : ℕ)
      → In i (interval p w) ↔ ((k low : ℕ) (high : Limit) → Has p k low high → In i (link_interval (w k) low high))
  flat_in nothing f w i = (λ h k a b g. absurd g, λ h. omega arith)
  flat_in (star p) f w i = absurd f
  flat_in (plus p) f w i = absurd f
  flat_in (optional p) f w i = absurd f
  flat_in (choice ps) f w i = absurd f
  flat_in (all ps) f w i = run-flat-in ps f w i
  flat_in (link label shape low high) f w i =
      (λ h k a b g. rw g.0 (rw g.1 (rw g.2 h)), λ h. h label low high (refl, refl, refl))

  run-flat-in : (ps : Parts) → RunFlat ps → (w : ℕ → ℕ) (i : ℕ)
      → In i (meet_run ps w) ↔ ((k low : ℕ) (high : Limit) → RunHas ps k low high → In i (link_interval (w k) low
      high))
  run-flat-in none f w i = (λ h k a b g. absurd g, λ h. omega arith)
  run-flat-in (more p ps) f w i =
      let both = in_meet (interval p w) (meet_run ps w) i in
      let first = flat_in p f.0 w i in
      let rest = run-flat-in ps f.1 w i in (
        λ h k a b. ⊎_elim (λ g. first.0 (both.0 h).0 k a b g) (λ g. rest.0 (both.0 h).1 k a b g),
        λ h. both.1 (first.1 (λ k a b g. h k a b (inl g)), rest.1 (λ k a b g. h k a b (inr g))),
      )
