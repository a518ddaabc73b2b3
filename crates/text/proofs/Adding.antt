-- Laws of adding to a writer's text.
--   adds_nothing   an empty text
--   adds-append    a text and then another
--   adds-same      an equal text
-- Assumes nothing.
use mathlib.Core.Path.{◌≡◌, refl, ◌∙◌}
use mathlib.Core.List.{List, [], ◌++◌}
use Prim.Native.Nat.{ℕ, ◌≤◌}
use lib.ListN.{length}
use Rattle.words.proofs.Writing.{wrote_nothing, wrote-append, wrote-same}
use Rattle.text.specs.Steps.{Adds}
use Rattle.text.specs.declared.Writer.{Writer}

pub adds_nothing : (w : Writer) → w.end ≤ length w.out.now → Adds w [] w
adds_nothing w h = record { same = refl; long = refl; wrote = wrote_nothing w.out.now w.end h }

module _ {before now : Writer} {s : List ℕ} (a : Adds before s now) where
  pub adds-append : {t : List ℕ} {after : Writer} → Adds now t after → Adds before (s ++ t) after
  adds-append b = record { same = b.same ∙ a.same; long = b.long ∙ a.long; wrote = wrote-append a.wrote b.wrote }

  pub adds-same : {t : List ℕ} → s ≡ t → Adds before t now
  adds-same e = record { same = a.same; long = a.long; wrote = wrote-same e a.wrote }
