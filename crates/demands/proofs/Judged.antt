-- The samples of docs/FORMAT.md, "Judge a grid": what they say is allowed, and by `judge-one-answer` nothing else is.
--   judge-worked     a right verdict on a grid of six bytes may be said
--   last-shape-sound, no-shapes-sound   the two sound typings of the samples
--   accepted-sample, none-sample, unmet-sample, unheld-sample   four of them, for the refutations of wrong answers
--   first-sample     the first pair of all is not met
--   _&_, samples-judged   a row of a table and the others; all samples
-- Assumes nothing.
use Prim.Native.Nat.{ℕ, zero, suc, ◌≤◌, ◌<◌}
use mathlib.Core.Path.{◌≡◌, refl, sym, subst₂}
use mathlib.Core.Logic.{◌⊎◌, inl, inr}
use mathlib.Core.Bool.{false}
use mathlib.Core.List.{List, [], ◌∷◌}
use native.Mathlib.Omega.{arith}
use lib.ListN.{length, get_or}
use Rattle.words.specs.Said.{values, refusal}
use Rattle.words.specs.Reading.{accepted}
use Rattle.words.proofs.Bools.{never_both, false-true}
use Rattle.script.specs.Link.{from_at, kind_at, to_at}
use Rattle.sheet.specs.Sheet.{place}
use Rattle.bookings.specs.Bookings.{desk_at, card_at, shape_at, read_each, read_list, repeated, booked_before}
use Rattle.board.specs.Grid.{on, bit, tally}
use Rattle.board.specs.Machine.{all}
use Rattle.typing.specs.Needs.{end_test, link_test, met_test}
use Rattle.typing.specs.Typing.{Has, Met, Holds, Typing, SoundTyping}
use Rattle.typing.specs.Calls.{listed_reading, smallest_reading}
use Rattle.typing.specs.Judge.{Verdict, over, unmet, unheld, passes, verdict_said, Judged, JudgeSays}
use Rattle.demands.specs.Worked.{template, script, met_bookings, unmet_bookings, last_shape, no_shapes}
use Rattle.demands.specs.Judged.{over_grid, unmet_grid, first_grid, each_books, AllAllowed, judgements}
use Rattle.demands.proofs.Worked.{worked, worked-read, below-six, each-pair, board, stands}
use Rattle.demands.proofs.Worked.{Just, one-just, one-other, two-radio, largest-found, met-listed}
use Rattle.demands.proofs.Worked.{unmet-listed, listed-asked}

-- ---- a right verdict may be said
judge-worked : (bookings : List ℕ) (desk : ℕ) (grid : List ℕ) (v : Verdict)
    → smallest_reading template script bookings desk grid ≡ accepted worked
    → Judged worked bookings desk grid v → JudgeSays template script bookings desk grid (verdict_said v)
judge-worked bookings desk grid v asked right =
    rw asked (record { verdict = v; says = refl; right = right })

-- ---- grids
last-shape-sound : SoundTyping worked last_shape
last-shape-sound = record { typing = largest-found.typing; sound = largest-found.largest.last }

no-shapes-sound : SoundTyping worked no_shapes
unfolding on
no-shapes-sound = record {
  typing = record {
    full = refl;
    bytes = below-six (λ p. (get_or no_shapes p 0 ≡ 0) ⊎ (get_or no_shapes p 0 ≡ 1))
        (inl refl) (inl refl) (inl refl) (inl refl) (inl refl) (inl refl);
  };
  sound = each-pair (λ n t. Has worked (on no_shapes) n t → Met worked (on no_shapes) n t)
      false-true false-true false-true false-true false-true false-true;
}

-- ---- bookings
-- A grid that has the one pair that is booked holds the bookings.
held-just : {Wanted : ℕ → ℕ → Type 0} {c u : ℕ} (grid : List ℕ) → Just Wanted c u → Has worked (on grid) c u
    → Holds worked Wanted (on grid)
held-just grid just here n t b =
    let (card, shape) = just.only n t b in
    subst₂ (λ (m v : ℕ). Has worked (on grid) m v) (sym card) (sym shape) here

-- What holds of the first.
below_one : (P : ℕ → Type 0) → P 0 → (k : ℕ) → k < 1 → P k
below_one P a zero l = a
below_one P a (suc k) l = absurd (omega arith)

-- The lists are read for each desk.
met-asked : (grid : List ℕ) → length grid ≡ 6 → smallest_reading template script met_bookings 0 grid ≡ accepted worked
met-asked = listed-asked met_bookings 0 met-listed (omega arith)

each-listed : listed_reading template script each_books ≡ accepted worked
unfolding read_list read_each repeated booked_before desk_at card_at shape_at
each-listed = rw worked-read refl

-- ---- the samples
pub accepted-sample : JudgeSays template script met_bookings 0 last_shape (values [])
unfolding on
accepted-sample = judge-worked met_bookings 0 last_shape passes (met-asked last_shape refl) (record {
  sound = last-shape-sound;
  holds = held-just last_shape (one-just 0 2 1) refl;
})

pub none-sample : JudgeSays template script met_bookings 1 no_shapes (values [])
none-sample = judge-worked met_bookings 1 no_shapes passes
    (listed-asked met_bookings 1 met-listed (omega arith) no_shapes refl) (record {
      sound = no-shapes-sound;
      holds = λ n t b. absurd (one-other 0 2 1 1 (λ e. absurd (omega (arith, e))) n t b);
    })

five-sample : JudgeSays template script met_bookings 0 (0 ∷ 0 ∷ 0 ∷ 0 ∷ 0 ∷ []) (refusal 40 (0 ∷ []))
five-sample = rw met-listed refl

third-sample : JudgeSays template script met_bookings 2 (0 ∷ 0 ∷ 0 ∷ 0 ∷ 0 ∷ []) (refusal 66 (0 ∷ []))
third-sample = rw met-listed refl

over-sample : JudgeSays template script met_bookings 0 over_grid (refusal 61 (1 ∷ []))
over-sample = judge-worked met_bookings 0 over_grid (over 1) (met-asked over_grid refl) (record {
  inside = omega arith;
  over-one = omega arith;
  first = below_one (λ q. get_or over_grid q 0 ≤ 1) (omega arith);
})

-- (1, 0) asks for a link to shape 1, and card 0, to which the link leads, has no shape.
unmet-computed : board.met (on unmet_grid) 2 ≡ false
unfolding met_test link_test end_test on all tally bit from_at kind_at to_at
unmet-computed = refl

unmet-typing : Typing worked unmet_grid
unmet-typing = record {
  full = refl;
  bytes = below-six (λ p. (get_or unmet_grid p 0 ≡ 0) ⊎ (get_or unmet_grid p 0 ≡ 1))
      (inl refl) (inl refl) (inr refl) (inr refl) (inl refl) (inr refl);
}

pub unmet-sample : JudgeSays template script met_bookings 0 unmet_grid (refusal 62 (1 ∷ 0 ∷ []))
unfolding on
unmet-sample = judge-worked met_bookings 0 unmet_grid (unmet 1 0) (met-asked unmet_grid refl) (record {
  typing = unmet-typing;
  card-in = omega arith;
  shape-in = omega arith;
  has = refl;
  not-met = λ m. never_both ((stands.met-exact (on unmet_grid) 1 0 (omega arith) (omega arith)).1 m) unmet-computed;
  lowest = each-pair
      (λ m u. place worked m u < 2 → Has worked (on unmet_grid) m u → Met worked (on unmet_grid) m u)
      (λ l. false-true) (λ l. false-true) (λ l. absurd (omega arith)) (λ l. absurd (omega arith))
      (λ l. absurd (omega arith)) (λ l. absurd (omega arith));
})

-- (0, 0) asks for shape 0 at card 1, which has no shape.
first-computed : board.met (on first_grid) 0 ≡ false
unfolding met_test link_test end_test on all tally bit from_at kind_at to_at
first-computed = refl

first-typing : Typing worked first_grid
first-typing = record {
  full = refl;
  bytes = below-six (λ p. (get_or first_grid p 0 ≡ 0) ⊎ (get_or first_grid p 0 ≡ 1))
      (inr refl) (inl refl) (inl refl) (inl refl) (inl refl) (inr refl);
}

pub first-sample : JudgeSays template script met_bookings 0 first_grid (refusal 62 (0 ∷ 0 ∷ []))
unfolding on
first-sample = judge-worked met_bookings 0 first_grid (unmet 0 0) (met-asked first_grid refl) (record {
  typing = first-typing;
  card-in = omega arith;
  shape-in = omega arith;
  has = refl;
  not-met = λ m. never_both ((stands.met-exact (on first_grid) 0 0 (omega arith) (omega arith)).1 m) first-computed;
  lowest = λ m u lm lu l. absurd (omega arith);
})

pub unheld-sample : JudgeSays template script unmet_bookings 0 last_shape (refusal 63 (2 ∷ []))
unfolding on desk_at card_at shape_at
unheld-sample = judge-worked unmet_bookings 0 last_shape (unheld 0)
    (listed-asked unmet_bookings 0 unmet-listed (omega arith) last_shape refl) (record {
      sound = last-shape-sound;
      listed = omega arith;
      ours = refl;
      missing = refl;
      first = λ j l. absurd (omega arith);
    })

-- Television's booking is the second of the list, and the first is radio's.
other-sample : JudgeSays template script each_books 1 last_shape (refusal 63 (5 ∷ []))
unfolding on desk_at card_at shape_at
other-sample = judge-worked each_books 1 last_shape (unheld 1)
    (listed-asked each_books 1 each-listed (omega arith) last_shape refl) (record {
      sound = last-shape-sound;
      listed = omega arith;
      ours = refl;
      missing = refl;
      first = below_one
          (λ j. desk_at each_books j ≡ 1 → Has worked (on last_shape) (card_at each_books j) (shape_at each_books j))
          (λ e. absurd (omega (arith, e)));
    })

own-sample : JudgeSays template script each_books 0 last_shape (values [])
unfolding on
own-sample = judge-worked each_books 0 last_shape passes
    (listed-asked each_books 0 each-listed (omega arith) last_shape refl) (record {
      sound = last-shape-sound;
      holds = held-just last_shape (two-radio 2 1 0 0) refl;
    })

card-sample : JudgeSays template script (1 ∷ 0 ∷ 3 ∷ 1 ∷ []) 0 last_shape (refusal 32 (2 ∷ []))
unfolding read_list read_each repeated booked_before desk_at card_at shape_at
card-sample = rw worked-read refl

twice-sample : JudgeSays template script (2 ∷ 0 ∷ 2 ∷ 1 ∷ 0 ∷ 2 ∷ 1 ∷ []) 1 last_shape (refusal 65 (5 ∷ []))
unfolding read_list read_each repeated booked_before desk_at card_at shape_at
twice-sample = rw worked-read refl

-- One row of a table, and then the others.
infixr 5 ◌&◌
abbrev pub ◌&◌ : {A B : Type 0} → A → B → A × B
◌&◌ a b = (a, b)

pub samples-judged : AllAllowed judgements
samples-judged =
    accepted-sample & none-sample & five-sample & third-sample & over-sample & unmet-sample & unheld-sample
    & other-sample & own-sample & card-sample & twice-sample & tt
