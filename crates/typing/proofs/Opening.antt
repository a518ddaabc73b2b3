-- Open shapes under a typing (docs/FORMAT.md, "Typings").
--   NamedHave   each neighbour of a card under a label that a shape names has the shape named there
--   open-met    an open pair is met exactly if the counts of its named labels fit and all these neighbours have it
-- Assumes nothing.
use Prim.Native.Nat.{ℕ, ◌<◌}
use mathlib.Core.Path.{◌≡◌, sym, subst, fun_ext}
use mathlib.Core.Logic.{◌↔◌}
use mathlib.Core.Bool.{Bool, true}
use mathlib.Core.List.{List, Memᴰ}
use Rattle.words.specs.Reading.{accepted}
use Rattle.bags.specs.Part.{Part, Declares}
use Rattle.bags.specs.Bag.{Fits}
use Rattle.bags.specs.Look.{looked_at}
use Rattle.bags.specs.Choice.{Neighbour, to}
use Rattle.bags.specs.Choice as choice
use Rattle.bags.specs.Proposition.{label_count, TargetsHave}
use Rattle.bags.proofs.Naming.{names-declares, declares-names, declares-unique}
use Rattle.bags.proofs.Looking.{looks-open, looks-named, looked-exact, looked-count}
use Rattle.bags.proofs.Opening.{FitsNamed, open-exact}
use Rattle.bags.proofs.Choosing.{met-exact}
use Rattle.script.specs.Link.{neighbours}
use Rattle.sheet.specs.Sheet.{Sheet, part_of, opens_of, read_sheet}
use Rattle.sheet.proofs.Accepted.{sheet-read}
use Rattle.typing.specs.Typing.{Pairs, Has, Met}
use Rattle.typing.proofs.Neighbours.{targets_of, targets-at}
use Rattle.typing.proofs.Instance.{counts_of}

-- Each neighbour of card n under a label that shape t names has the shape named there.
abbrev NamedHave : Sheet → Pairs → ℕ → ℕ → Type 0
NamedHave s X n t =
    (label far u : ℕ) → Memᴰ (to label far) (neighbours s.script n s.links)
    → Declares (part_of s t) label u → Has s X far u

module _ (s : Sheet) (X : Pairs) (n t : ℕ) where
  abbrev all : List Neighbour
  all = neighbours s.script n s.links

  abbrev part : Part
  part = part_of s t

  -- what an open shape looks at
  abbrev named : List Neighbour
  named = looked_at true part all

  counts-named : Fits s.shapes part (label_count named) ↔ FitsNamed s.shapes part (counts_of s n)
  counts-named =
      subst (λ (w : ℕ → ℕ). Fits s.shapes part w ↔ FitsNamed s.shapes part (counts_of s n))
      (sym (fun_ext (looked-count true part all))) (open-exact s.shapes part (counts_of s n))

  named-have : ((label u v : ℕ) → Declares part label u → Declares part label v → u ≡ v)
      → TargetsHave (Has s X) named part ↔ NamedHave s X n t
  named-have one = (
    λ h label far u m d.
        let looks = looks-named true part label (declares-names part label u d) in
        let (v, there, has) = targets-at (Has s X) part named h label far
        ((looked-exact true part label far all).1 (m, looks)) in
        subst (λ (x : ℕ). Has s X far x) (one label v u there d) has,
    λ h. targets_of (Has s X) part named (λ label far m.
        let (in_all, looks) = (looked-exact true part label far all).0 m in
        let (u, d) = names-declares part label ((looks-open part label).0 looks) in
        (u, d, h label far u in_all d)),
  )

-- For every template and script that are read, and any set of pairs.
pub open-met : (template script : List ℕ) (s : Sheet) → read_sheet template script ≡ accepted s
    → (X : Pairs) (n t : ℕ) → t < s.shapes → opens_of s t ≡ true
    → Met s X n t ↔ (FitsNamed s.shapes (part_of s t) (counts_of s n) × NamedHave s X n t)
open-met template script s e X n t lt o =
    let (kinds, read, same) = sheet-read template script s e in
    let single = read.shapes.single t lt in
    let exact = met-exact s.shapes (Has s X) (named s X n t) (part s X n t) single
    (read.shapes.shapes-below t lt) in
    let counts = counts-named s X n t in
    let targets = named-have s X n t (λ label u v a b. declares-unique (part s X n t) single label u v a b) in
    subst (λ (b : Bool). choice.Met s.shapes (Has s X) (looked_at b (part_of s t) (all s X n t)) (part_of s t)
    ↔ (FitsNamed s.shapes (part_of s t) (counts_of s n) × NamedHave s X n t)) (sym o) (
      λ m. let (f, h) = exact.0 m in (counts.0 f, targets.0 h),
      λ g. exact.1 (counts.1 g.0, targets.1 g.1),
    )
