-- A board stands for a sheet: its places are the sheet's pairs, and its test decides which pairs are met ("Typings").
--   Follows     what the closure goes on to from a pair
--   Represents  the board stands for the sheet
--   Alike       two sets of pairs agree on the sheet
--   on-board, off-board, pair-in   the board's places are the sheet's
--   each-place  what holds of each pair's place holds of each place
--   sound-set, set-sound           a set is sound on the sheet exactly if it is on the board
--   met-alike, set-alike           of sets that agree the same places are met, and both are sound or neither
-- Assumes nothing.
use Prim.Native.Nat.{ℕ, ◌/◌, ◌%◌, ◌<◌}
use mathlib.Core.Path.{◌≡◌, sym, ◌∙◌, subst}
use mathlib.Core.Logic.{◌↔◌}
use mathlib.Core.Bool.{true}
use Rattle.bags.specs.Label.{Way}
use Rattle.bags.specs.Part.{Declares}
use Rattle.board.specs.Board.{Board, Lawful, SoundSet}
use Rattle.board.proofs.Rounds.{mono}
use Rattle.script.specs.Link.{near_at, label_at, far_at}
use Rattle.words.proofs.Places.{place_in, place_of, card-in, shape-in}
use Rattle.sheet.specs.Sheet.{Sheet, part_of, place, size}
use Rattle.typing.specs.Typing.{Pairs, Met, Sound}

-- q is the place of a pair that the closure goes on to from card n with shape t.
pub record Follows (s : Sheet) (n t q : ℕ) : Type 0 where
  pub way : Way
  pub link : ℕ
  pub shape : ℕ
  pub below : link < s.links
  pub starts : near_at way s.script link ≡ n
  pub declares : Declares (part_of s t) (label_at way s.script link) shape
  pub leads : q ≡ place s (far_at way s.script link) shape

pub record Represents (s : Sheet) (B : Board) : Type 0 where
  -- the board has a place for each pair, and Proposition 8.1 holds on it
  pub sized : B.size ≡ size s
  pub one-shape : 0 < s.shapes
  pub lawful : Lawful B
  -- its test decides whether a pair is met
  pub met-exact : (X : Pairs) (n t : ℕ) → n < s.cards → t < s.shapes → (B.met X (place s n t) ≡ true) ↔ Met s X n t
  -- a place needs just what the closure goes on to from its pair
  pub needs-exact : (n t q : ℕ) → n < s.cards → t < s.shapes → B.Dep (place s n t) q ↔ Follows s n t q
  -- links lead to cards of the sheet, and shapes declare shapes of the sheet
  pub target-in : (way : Way) (i : ℕ) → i < s.links → far_at way s.script i < s.cards
  pub declared-in : (t k u : ℕ) → t < s.shapes → Declares (part_of s t) k u → u < s.shapes

-- Two sets agree on every pair of the sheet.
abbrev pub Alike : Sheet → Pairs → Pairs → Type 0
Alike s X Y = (p : ℕ) → p < size s → X p ≡ Y p

module _ {s : Sheet} {B : Board} (rep : Represents s B) where
  pub on-board : {p : ℕ} → p < size s → p < B.size
  on-board {p} l = subst (λ (x : ℕ). p < x) (sym rep.sized) l

  off-board : {p : ℕ} → p < B.size → p < size s
  off-board {p} l = subst (λ (x : ℕ). p < x) rep.sized l

  pub pair-in : (n t : ℕ) → n < s.cards → t < s.shapes → place s n t < size s
  pair-in n t ln lt = place_in s.cards s.shapes n t ln lt

  pub each-place : (P : ℕ → Type 0) → ((n t : ℕ) → n < s.cards → t < s.shapes → P (place s n t))
      → (p : ℕ) → p < size s → P p
  each-place P h p l = subst P (place_of s.shapes rep.one-shape p)
      (h (p / s.shapes) (p % s.shapes)
      (card-in s.shapes rep.one-shape s.cards p l) (shape-in s.shapes rep.one-shape p))

  pub sound-set : (X : Pairs) → Sound s X → SoundSet B X
  sound-set X h p l = each-place (λ q. X q ≡ true → B.met X q ≡ true)
      (λ n t ln lt e. (rep.met-exact X n t ln lt).1 (h n t ln lt e)) p (off-board l)

  pub set-sound : (X : Pairs) → SoundSet B X → Sound s X
  set-sound X h n t ln lt e = (rep.met-exact X n t ln lt).0 (h (place s n t) (on-board (pair-in n t ln lt)) e)

  pub met-alike : (X Y : Pairs) → Alike s X Y → (p : ℕ) → p < size s → B.met X p ≡ true → B.met Y p ≡ true
  met-alike X Y e p l m = mono rep.lawful X Y (λ q lq t. sym (e q (off-board lq)) ∙ t) p (on-board l) m

  pub set-alike : (X Y : Pairs) → Alike s X Y → SoundSet B X → SoundSet B Y
  set-alike X Y e h p l t = met-alike X Y e p (off-board l) (h p l (e p (off-board l) ∙ t))
