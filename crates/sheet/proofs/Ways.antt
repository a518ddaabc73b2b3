-- Whether a sheet's shapes name incoming kinds.
-- none-outgoing, more-outgoing   no incoming entry in no rows, and in one row more
-- ways-asked                     what looking for one asks
-- all-outgoing                   none for a template's kinds, so none at all
-- Assumes nothing.
use Prim.Native.Nat.{ℕ, ◌+◌, ◌*◌, ◌≤◌, ◌<◌}
use mathlib.Core.Path.{◌≡◌, sym, ap, ◌∙◌}
use mathlib.Core.Logic.{⊎_elim}
use mathlib.Core.List.{List, [], ◌∷◌}
use native.Mathlib.Omega.{arith}
use native.Mathlib.Numerals.{add-one}
use lib.ListN.{length, get_or, take, drop}
use lib.Seq.{get_or-take, get_or-drop}
use Rattle.words.specs.Limits.{max_kinds, max_labels}
use Rattle.words.specs.Sizes.{table_size}
use Rattle.words.specs.Said.{values}
use Rattle.words.proofs.Bools.{last-or-below, le-or-lt}
use Rattle.template.specs.Template.{template_says}
use Rattle.template.proofs.Answers.{template-read}
use Rattle.template.proofs.Accepted.{template-accepted, entry_past}
use Rattle.sheet.specs.Opened.{TableOf, OnlyOutgoing, WaysAsked}

pub none-outgoing : (names : List ℕ) (kinds : ℕ) → OnlyOutgoing names 0 kinds
none-outgoing names kinds t k l h = absurd (omega arith)

-- The incoming half of a row is a part of the table.
pub more-outgoing : (names : List ℕ) (kinds t base n : ℕ) → base ≡ t * max_labels + max_kinds → kinds ≤ n
    → ((k : ℕ) → k < kinds → get_or (take n (drop base names)) k 0 ≡ 0) → OnlyOutgoing names t kinds
    → OnlyOutgoing names (t + 1) kinds
more-outgoing names kinds t base n b few none before s k ls lk = ⊎_elim
    (λ (q : s ≡ t).
    let at : s * max_labels + (max_kinds + k) ≡ base + k = omega (arith, ap (λ (x : ℕ). x * max_labels) q, b) in
    ap (λ (x : ℕ). get_or names x 0) at
    ∙ sym (get_or-take n (drop base names) k 0 (omega arith) ∙ get_or-drop base names k 0) ∙ none k lk)
    (λ l. before s k l lk)
    (last-or-below (rw add-one at ls))

-- A template that was read with these counts.
module _ (words names : List ℕ) (kinds shapes : ℕ) (said : values (kinds ∷ shapes ∷ []) ≡ template_says words) where
  pub ways-asked : (k s : ℕ) → length names ≡ table_size → k ≡ kinds → s ≡ shapes → WaysAsked names k s
  ways-asked k s room ek es =
      let (t, read, same-kinds, same-shapes) = template-read words kinds shapes said in
      let a = template-accepted words t read in
      record {
        room = room;
        few-kinds = omega (arith, a.kinds-high);
        few-shapes = omega (arith, a.shapes-high);
      }

  -- no incoming entry for the template's kinds is none at all
  pub all-outgoing : (k s : ℕ) → TableOf words names → k ≡ kinds → s ≡ shapes → OnlyOutgoing names s k
      → OnlyOutgoing names shapes max_kinds
  all-outgoing k s table ek es none u j lu lj =
      let (t, read, same-kinds, same-shapes) = template-read words kinds shapes said in
      ⊎_elim
      (λ past. entry_past words names t read (table t read) u j (omega arith) (omega arith) lj)
      (λ kind. none u j (omega arith) (omega arith))
      (le-or-lt kinds j)
