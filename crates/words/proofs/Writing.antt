-- Laws of writing a text into a buffer.
--   wrote_nothing, wrote-byte   an empty text, and a byte
--   wrote-append                a text and then another
--   wrote-same                  an equal text
--   wrote-next                  a byte more of a text
--   wrote-length                the buffer keeps its length
--   wrote-front                 what is written from the start on is the buffer's front
--   wrote-head                  a word in front of what was written behind the first place
--   wrote-writes                what was written from the start on is what a writer promises
--   writes-front, writes-rest   its words are the buffer's front, and the rest is as before
--   writes-unique               no choice is left by that promise
--   write-said-unique           nor by what an answer says
-- Assumes nothing.
use mathlib.Core.Path.{◌≡◌, refl, sym, ap, ◌∙◌, subst}
use mathlib.Core.List.{List, [], ◌∷◌, ◌++◌, append_assoc}
use Prim.Native.Nat.{ℕ, ◌+◌, ◌≤◌, ◌<◌}
use native.Mathlib.Numerals.{add-one}
use native.Mathlib.Omega.{arith}
use lib.ListN.{length, take, drop, set, get_or, length-append, length-drop, take-append-drop}
use lib.Seq.{length-take-le, take_at, drop_at, drop-drop, take-suc, set_split}
use Rattle.words.specs.Said.{Said, values}
use Rattle.words.specs.Wrote.{Room, Wrote}
use Rattle.words.specs.Writes.{Writes, write_said}
use Rattle.words.specs.declared.refusal.Refusal.{Refusal}
use Rattle.words.proofs.Said.{one_value, values-refusal}
use Rattle.words.proofs.Refused.{said-by-unique}
use Rattle.std.specs.Prelude.{Result}

pub wrote_nothing : (b : List ℕ) (at : ℕ) → at ≤ length b → Wrote b at [] b at
wrote_nothing b at h = record { room = h; moved = omega arith; holds = sym (take-append-drop at b) }

pub wrote-byte : (b : List ℕ) (at x : ℕ) → Room b at (x ∷ []) → Wrote b at (x ∷ []) (set b at x) (at + 1)
wrote-byte b at x h = record { room = h; moved = refl; holds = rw (add-one at) (set_split b at x (omega arith)) }

module _ {b m : List ℕ} {at next : ℕ} {s : List ℕ} (w : Wrote b at s m next) where
  front_length : length (take at b ++ s) ≡ next
  front_length =
      let inside : at ≤ length b = omega (arith, w.moved, w.room) in
      omega (arith, w.moved, length-append (take at b) s, length-take-le at b inside)

  split : m ≡ (take at b ++ s) ++ drop next b
  split = w.holds ∙ sym (append_assoc (take at b) s (drop next b))

  pub wrote-length : length m ≡ length b
  wrote-length =
      let e = ap length split ∙ length-append (take at b ++ s) (drop next b) in
      omega (arith, e, front_length, length-drop next b, w.room)

  pub wrote-append : {c t : List ℕ} {end : ℕ} → Wrote m next t c end → Wrote b at (s ++ t) c end
  wrote-append {c} {t} {end} v = record {
    room = omega (arith, v.room, wrote-length);
    moved = omega (arith, v.moved, w.moved, length-append s t);
    holds =
        v.holds
        ∙ ap (λ (l : List ℕ). l ++ (t ++ drop end m)) front
        ∙ append_assoc (take at b) s (t ++ drop end m)
        ∙ ap (λ (l : List ℕ). take at b ++ l) (sym (append_assoc s t (drop end m))
        ∙ ap (λ (l : List ℕ). s ++ t ++ l) rest);
  }
    where
      front : take next m ≡ take at b ++ s
      front = ap (take next) split ∙ take_at (take at b ++ s) (drop next b) next front_length

      rest : drop end m ≡ drop end b
      rest =
          ap (λ (n : ℕ). drop n m) v.moved
          ∙ sym (drop-drop (length t) next m)
          ∙ ap (drop (length t)) (ap (drop next) split ∙ drop_at (take at b ++ s) (drop next b) next front_length)
          ∙ drop-drop (length t) next b
          ∙ ap (λ (n : ℕ). drop n b) (sym v.moved)

pub wrote-same : {b c s t : List ℕ} {at next : ℕ} → s ≡ t → Wrote b at s c next → Wrote b at t c next
wrote-same {b} {c} {s} {t} {at} {next} e w = subst (λ (x : List ℕ). Wrote b at x c next) e w

pub wrote-next : {b m c : List ℕ} {at next end : ℕ} (text : List ℕ) (i : ℕ) → i < length text
    → Wrote b at (take i text) m next → Wrote m next (get_or text i 0 ∷ []) c end → Wrote b at (take (i + 1) text)
    c end
wrote-next text i l w v =
    wrote-same (sym (ap (λ (n : ℕ). take n text) (add-one i) ∙ take-suc text i 0 l)) (wrote-append w v)

-- a text written from the start on is the buffer's front
pub wrote-front : {b s c : List ℕ} {next : ℕ} → Wrote b 0 s c next → take next c ≡ s
wrote-front {b} {s} {c} {next} w =
    ap (take next) w.holds ∙ take_at s (drop next b) next (omega (arith, w.moved))

-- a word in front of what was written behind the first place
pub wrote-head : (x : ℕ) (b s c : List ℕ) (next : ℕ) → 1 ≤ length b → Wrote b 1 s c next
    → Wrote b 0 (x ∷ s) (set c 0 x) next
wrote-head x [] s c next some w = absurd (omega arith)
wrote-head x (y ∷ ys) s c next some w =
    record { room = w.room; moved = omega (arith, w.moved); holds = ap (λ (l : List ℕ). set l 0 x) w.holds }

-- what an operation promises that writes from the start on
pub wrote-writes : {before words after : List ℕ} {next : ℕ} → Wrote before 0 words after next
    → Writes words before after (values (next ∷ []))
wrote-writes {before} {words} {after} {next} w =
    let long : next ≡ length words = omega (arith, w.moved) in
    record {
      says = ap (λ (n : ℕ). values (n ∷ [])) long;
      writes = w.holds ∙ ap (λ (n : ℕ). words ++ drop n before) long;
    }

module _ {words before after : List ℕ} (count : ℕ) (w : Writes words before after (values (count ∷ []))) where
  pub writes-front : take count after ≡ words
  writes-front = ap (take count) w.writes ∙ take_at words _ count (sym (one_value w.says))

  pub writes-rest : drop count after ≡ drop count before
  writes-rest =
      let long : count ≡ length words = one_value w.says in
      ap (drop count) w.writes ∙ drop_at words _ count (sym long) ∙ ap (λ (n : ℕ). drop n before) (sym long)

pub writes-unique : {words before g h : List ℕ} {a b : Said} → Writes words before g a → Writes words before h b
    → (a ≡ b) × (g ≡ h)
writes-unique v w = (v.says ∙ sym w.says, v.writes ∙ sym w.writes)

pub write-said-unique : (a b : Result ℕ Refusal) → write_said a ≡ write_said b → a ≡ b
write-said-unique = said-by-unique _ (λ m k e. one_value e) (λ m r e. values-refusal e)
