-- The largest typing by rounds (docs/FORMAT.md, "Largest").
-- Round, gone   a round from one set of pairs to the next, and how many pairs it strikes
-- Rounds        so many rounds from every pair, and the pairs struck in them, lead to a set
-- Largest       the answer: the first round that strikes none is the last and is counted
-- bare_cards     how many cards have some link and no shape
-- Assumes nothing.
use Rattle.std.specs.Prelude.{ℕ, suc, ◌+◌, ◌<◌, ◌≡◌, Bool, false, not, ◌&&◌, eqb}
use Rattle.board.specs.Grid.{tally}
use Rattle.script.specs.Link.{linked}
use Rattle.sheet.specs.Sheet.{Sheet, place, size}
use Rattle.typing.specs.Typing.{Pairs, Has, Met, Sound}

-- A round strikes just the pairs that are not met under the set that it starts from: of X those met under X are in Y.
pub record Round (s : Sheet) (X Y : Pairs) : Type 0 where
  pub keeps : (n t : ℕ) → n < s.cards → t < s.shapes → Has s X n t → Met s X n t → Has s Y n t
  pub strikes : (n t : ℕ) → n < s.cards → t < s.shapes → (Met s X n t → ⊥) → Y (place s n t) ≡ false
  pub stays : (n t : ℕ) → n < s.cards → t < s.shapes → X (place s n t) ≡ false → Y (place s n t) ≡ false

-- How many pairs of X are not in Y.
abbrev pub gone : Sheet → Pairs → Pairs → ℕ
gone s X Y = tally (λ p. X p && not (Y p)) (size s)

-- `Rounds s k m X`: from the set of all pairs k rounds, in which m pairs were struck, lead to X.
pub data Rounds (s : Sheet) : ℕ → ℕ → Pairs → Type 0 where
  start : {X : Pairs} → ((n t : ℕ) → n < s.cards → t < s.shapes → Has s X n t) → Rounds s 0 0 X
  more : {k m : ℕ} {X Y : Pairs} → Rounds s k m X → Round s X Y → Rounds s (suc k) (m + gone s X Y) Y

-- The first round that strikes no pair is the last, and it counts. A round from X strikes none exactly if X is sound.
pub record Largest (s : Sheet) (rounds struck : ℕ) (X : Pairs) : Type 0 where
  pub before : ℕ
  pub counted : rounds ≡ suc before
  pub reached : Rounds s before struck X
  pub last : Sound s X
  pub first : (j m : ℕ) (Y : Pairs) → j < before → Rounds s j m Y → Sound s Y → ⊥

-- Card n has no shape.
unfoldable pub bare : Sheet → Pairs → ℕ → Bool
bare s X n = eqb (tally (λ t. X (place s n t)) s.shapes) 0

-- How many cards have some link and no shape: a blank card, which no link touches, is not among them.
unfoldable pub bare_cards : Sheet → Pairs → ℕ
bare_cards s X = tally (λ n. linked s.script n s.links && bare s X n) s.cards
