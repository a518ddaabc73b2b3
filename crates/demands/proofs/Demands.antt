-- The three demands of specs/Demands hold.
--   first-demand    faults get their refusals, and nothing else is refused
--   second-demand   counts and sound typings are the paper's
--   third-demand    the smallest and the largest typing
-- Assumes nothing.
use Prim.Native.Nat.{ℕ}
use mathlib.Core.Path.{◌≡◌, refl, sym, ap, ◌∙◌}
use mathlib.Core.Logic.{◌⊎◌, inl, inr, ◌↔◌}
use mathlib.Core.List.{List, [], ◌∷◌}
use native.Mathlib.Omega.{arith}
use lib.ListN.{length}
use Rattle.words.specs.Said.{Said, values, refusal}
use Rattle.words.specs.Reading.{said_of}
use Rattle.words.specs.Answered.{Unchanged}
use Rattle.words.specs.Writes.{Writes}
use Rattle.words.proofs.Bools.{never_both, is_false}
use Rattle.words.proofs.Readings.{numbered-turned}
use Rattle.template.specs.Template.{read_template, template_values, template_says}
use Rattle.template.proofs.Numbers.{template-numbers}
use Rattle.template.proofs.RoundTrip.{templates-are}
use Rattle.script.specs.Script.{read_with, script_values, script_says, card_links}
use Rattle.bags.specs.Bag.{Bag, Bags}
use Rattle.bags.proofs.Adequate.{met-is}
use Rattle.board.specs.Grid.{on, tally}
use Rattle.board.specs.Board.{Board}
use Rattle.sheet.specs.Sheet.{Sheet, part_of, neighbours_of, size}
use Rattle.bookings.specs.Bookings.{card_index, Booked}
use Rattle.stored.specs.Tidied.{tidied}
use Rattle.counts.specs.Fit.{fit_question}
use Rattle.counts.proofs.Ignoring.{open-fits}
use Rattle.counts.proofs.Numbers.{fit-numbers}
use Rattle.input.specs.Input.{read_input}
use Rattle.input.proofs.Inputs.{input-numbers}
use Rattle.input.proofs.RoundTrip.{inputs_are}
use Rattle.typing.specs.Typing.{Pairs, Has, Met, Typing, SoundTyping}
use Rattle.typing.specs.Smallest.{IsClosure}
use Rattle.typing.specs.Demand3.{Outcome, pairs, not_met, Refused, Demand3}
use Rattle.typing.specs.Answer.{BothSaid, both_refused, DesksSaid, desks_refused}
use Rattle.typing.specs.Calls.{largest_reading, smallest_reading, both_reading, outcome_said, BothFound}
use Rattle.typing.specs.Calls.{Leaves, LargestFound, SmallestFound}
use Rattle.typing.specs.Judge.{Verdict, over, unmet, unheld, passes, verdict_said, JudgeFound}
use Rattle.typing.specs.Desks.{desks_reading, DesksFound}
use Rattle.typing.specs.Tidy.{tidy_reading}
use Rattle.typing.proofs.Numbers.{largest-numbers, smallest-numbers, both-numbers, desks-numbers, tidy-numbers}
use Rattle.typing.proofs.Numbers.{JudgeRefusal, judge-numbers}
use Rattle.typing.proofs.Represents.{Represents}
use Rattle.typing.proofs.Largest.{largest-over, largest-bound, largest-unique, some-largest, bare_alike}
use Rattle.typing.proofs.Existence.{represented}
use Rattle.typing.proofs.Apart.{apart}
use Rattle.demands.specs.Formed.{Formed}
use Rattle.demands.specs.Listed.{FromTo, TemplateListed, ScriptListed, FitListed, LargestListed, SmallestListed}
use Rattle.demands.specs.Listed.{TidyListed, JudgeListed, PrinterListed, Says50}
use Rattle.demands.specs.Demands.{FirstDemand, Neighbourhood, RuleTwo, SecondDemand}
use Rattle.demands.specs.Demands.{LargestTyping, TwoTypings, ThirdDemand}
use Rattle.demands.proofs.Formed.{formed-sheet, sheets-are, bookings-are, largest-taken, smallest-taken}
use Rattle.demands.proofs.Formed.{both-taken, desks-taken, stored-are, tidy-taken}
use Rattle.demands.proofs.Links.{script-said, past-card, own-links, side_by_side}
use Rattle.demands.proofs.Counts.{counts-fit-exactly, card-fits-exactly}
use Rattle.demands.proofs.Listed.{no-values, said-listed, fit_refused, largest-refused, smallest-refused}
use Rattle.demands.proofs.Listed.{both-refused, desks-refused, tidy-refused, pairs-or-50, script-numbered}

-- ---- the first demand
-- A verdict is that the grid is accepted, or one of its three faults.
accepted-or-faulty : (said : Said) (v : Verdict) → said ≡ verdict_said v
    → (said ≡ values []) ⊎ ((number : ℕ) × (at : List ℕ) × FromTo 61 63 number × (said ≡ refusal number at))
accepted-or-faulty said (over p) e = inr (61, p ∷ [], (omega arith, omega arith), e)
accepted-or-faulty said (unmet n t) e = inr (62, n ∷ t ∷ [], (omega arith, omega arith), e)
accepted-or-faulty said (unheld i) e = inr (63, card_index i ∷ [], (omega arith, omega arith), e)
accepted-or-faulty said passes e = inl e

-- A number of the judge is a listed one.
judge-number : (number : ℕ) (at : List ℕ) → JudgeRefusal number at → JudgeListed number
judge-number number at (inl (inl h)) = inl h
judge-number number at (inl (inr (inl e))) = inr (omega arith, omega arith)
judge-number number at (inl (inr (inr e))) = inr (omega arith, omega arith)
judge-number number at (inr (e, two)) = inr (omega arith, omega arith)

pub first-demand : FirstDemand
unfolding template_says script_says card_links
first-demand = record {
  template-exact = templates-are;
  sheet-exact = sheets-are;
  bookings-exact = bookings-are;
  stored_exact = stored-are;
  largest-takes = largest-taken;
  smallest-takes = smallest-taken;
  both-takes = both-taken;
  desks-takes = desks-taken;
  tidy-takes = tidy-taken;
  input-exact = inputs_are;
  largest-first = λ template script before after said number at e x. rw e at x;
  smallest-first = λ template script bookings desk before after said number at e x. rw e at x;
  both_first = λ template script bookings desk before after said number at e x.
      let y : Unchanged before after said (both_refused (refusal number (at ∷ []))) = rw e at x in (
        ap (λ (z : BothSaid). z.largest) y.0,
        ap (λ (z : BothSaid). z.smallest) y.0,
        y.1,
      );
  desks-first = λ template script bookings before after said number at e x.
      let y : Unchanged before after said (desks_refused (refusal number (at ∷ []))) = rw e at x in (
        ap (λ (z : DesksSaid). z.largest) y.0,
        ap (λ (z : DesksSaid). z.radio) y.0,
        ap (λ (z : DesksSaid). z.television) y.0,
        y.1,
      );
  judge-first = λ template script bookings desk grid said number at e x. rw e at x;
  tidy-first = λ template script bookings before after said number at e x. rw e at x;
  fit-first = λ template shape counts said number at e x. rw e at x;
  template-first = λ template number at e. ap (said_of template_values) e;
  script-first = λ template script number at e. ap (said_of script_values) e;
  template-listed = λ template number at.
      said-listed TemplateListed template_values (read_template template) number at (template-numbers template);
  script-listed = λ template script number at.
      said-listed ScriptListed script_values (read_with template script) number at (script-numbered template script);
  fit-listed = λ template shape counts number at.
      fit_refused FitListed (fit_question template shape counts) (fit-numbers template shape counts) number at;
  largest-listed = λ template script before after number at.
      largest-refused LargestListed (largest_reading template script before) (largest-numbers template script before)
      before after number at;
  smallest-listed = λ template script bookings desk before after number at.
      smallest-refused SmallestListed (smallest_reading template script bookings desk before)
      (smallest-numbers template script bookings desk before) (Booked bookings desk) before after
      (λ s e. ((smallest-taken template script bookings desk before s).0 e).3) number at;
  both-listed = λ template script bookings desk before after said x number at.
      both-refused SmallestListed (both_reading template script bookings desk before)
      (both-numbers template script bookings desk before)
      (Booked bookings desk) before after (λ s e. ((both-taken template script bookings desk before s).0 e).3) said x
      number at;
  desks-listed = λ template script bookings before after said x number at.
      desks-refused SmallestListed (desks_reading template script bookings before)
      (desks-numbers template script bookings before) bookings before after
      (λ s e. let (f, l, radio, television, large) = (desks-taken template script bookings before s).0 e in
      (radio, television)) said x number at;
  template-accepts = λ template t f. ap (said_of template_values) ((templates-are template t).1 f);
  script-accepts = script-said;
  links-refused = λ template script card number at e. rw e refl;
  links-past = past-card;
  links-exact = λ template script s f card h. (
    own-links template script s f card h,
    side_by_side template script s f card h,
  );
  largest-accepts = λ template script before after said s f full x.
      let found : LargestFound s after said = rw ((largest-taken template script before s).1 (f, full)) at x in
      (found.rounds, found.struck, found.bare, found.says);
  smallest-accepts = λ template script bookings desk before after said s f b ours full x.
      let found : SmallestFound s (Booked bookings desk) after said =
      rw ((smallest-taken template script bookings desk before s).1 (f, b, ours, full)) at x in
      pairs-or-50 said found.outcome found.says;
  judge-accepts = λ template script bookings desk grid said s f b ours full x.
      let found : JudgeFound s bookings desk grid said =
      rw ((smallest-taken template script bookings desk grid s).1 (f, b, ours, full)) at x in
      accepted-or-faulty said found.verdict found.says;
  tidy-accepts = λ template script bookings before after said s f b long x.
      let found : Writes (tidied bookings) before after said =
      rw ((tidy-taken template script bookings before s).1 (f, b, long)) at x in
      (length (tidied bookings), found.says);
  tidy-listed = λ template script bookings before after number at.
      tidy-refused TidyListed (tidy_reading template script bookings before)
      (tidy-numbers template script bookings before) bookings before after number at;
  judge-listed = λ template script bookings desk grid number at x.
      judge-number number at (judge-numbers template script bookings desk grid number at x);
  printer-listed = λ bytes number at e.
      numbered-turned PrinterListed (read_input bytes) number at (input-numbers bytes) e;
}

-- ---- the second demand
-- Met is rule 2 of one pair.
sound-exactly : (s : Sheet) (grid : List ℕ) → SoundTyping s grid ↔ (Typing s grid × RuleTwo s (on grid))
sound-exactly s grid = (
  λ w. (w.typing, λ n t ln lt h. (rule n t).0 (w.sound n t ln lt h)),
  λ h. record { typing = h.0; sound = λ n t ln lt e. (rule n t).1 (h.1 n t ln lt e) },
)
  where
    rule : (n t : ℕ) → Met s (on grid) n t ↔ ((b : Bag) × Neighbourhood s (on grid) n t b × Bags (part_of s t) b)
    rule n t = met-is s.shapes (Has s (on grid)) (neighbours_of s n t) (part_of s t)

pub second-demand : SecondDemand
second-demand = record {
  counts-fit = λ template t formed. counts-fit-exactly template t ((templates-are template t).1 formed);
  open-fit = λ template t formed shape below is_open counts whole low said x.
      open-fits template t ((templates-are template t).1 formed) shape below counts
      (record { each_way = whole; small = λ i l. low i }) said x is_open;
  card-fits = card-fits-exactly;
  sound-typing = sound-exactly;
}

-- ---- the third demand
-- The bookings are turned down exactly where the outcome is.
turned-refused : (said : Said) (o : Outcome) → said ≡ outcome_said o → Says50 said → Refused o
turned-refused said (pairs m) e (card, shape, f) = no-values (sym f ∙ e)
turned-refused said (not_met n t) e d = tt

refused-turned : (said : Said) (o : Outcome) → said ≡ outcome_said o → Refused o → Says50 said
refused-turned said (pairs m) e never = absurd never
refused-turned said (not_met n t) e d = (n, t, e)

-- Of bookings that are not turned down the pairs of the closure are counted.
pairs-are : (s : Sheet) (Wanted : ℕ → ℕ → Type 0) (large small : List ℕ) (r m b : ℕ) (said : Said) (o : Outcome)
    → said ≡ outcome_said o → Demand3 s Wanted large r m b small o → (Says50 said → ⊥)
    → (X : Pairs) → IsClosure s Wanted X → said ≡ values (tally X (size s) ∷ [])
pairs-are s Wanted large small r m b said (pairs k) e d taken X c =
    e ∙ ap (λ (x : ℕ). values (x ∷ [])) (d.pairs-counted k X refl c)
pairs-are s Wanted large small r m b said (not_met n t) e d taken X c = absurd (taken (n, t, e))

-- The closure of the bookings that the call found.
some-closure : (s : Sheet) (Wanted : ℕ → ℕ → Type 0) (small : List ℕ) (o : Outcome) → Leaves s Wanted small o
    → (X : Pairs) × IsClosure s Wanted X
some-closure s Wanted small (pairs m) l = (on small, l.closure)
some-closure s Wanted small (not_met n t) l = (l.set, l.closure)

-- Numbers that are said are told by it.
same_first : {r m b x y z : ℕ} → values (r ∷ m ∷ b ∷ []) ≡ values (x ∷ y ∷ z ∷ []) → (r ≡ x) × (m ≡ y)
same_first e = (cc, cc)

-- The answer of the call for the largest, on a sheet for which a board stands.
largest-typing : {s : Sheet} {B : Board} → Represents s B → (large : List ℕ) (said : Said) → LargestFound s large said
    → LargestTyping s large said
largest-typing {s} {B} rep large said x = record {
  sound = record { typing = x.typing; sound = x.largest.last };
  over = λ h w. largest-over rep x.largest (on h) w.sound;
  shapeless = λ n ln. (
    λ none h w t lt. is_false (λ e.
        never_both (largest-over rep x.largest (on h) w.sound n t ln lt e) (none t lt)),
    λ none. none large (record { typing = x.typing; sound = x.largest.last }),
  );
  numbers = λ r m X h.
      let (rounds, struck, alike) = largest-unique rep x.largest h in
      let bares = x.counted ∙ bare_alike rep (on large) X alike in
      x.says ∙ rw (rounds, struck, bares) refl;
  some-numbers = some-largest rep;
  bound = λ rounds struck bare f.
      let (i, j) = same_first (sym x.says ∙ f) in
      omega (arith, largest-bound rep x.largest, i, j);
}

-- The answers of both calls.
two-typings : (s : Sheet) (bookings : List ℕ) (desk : ℕ) (large small : List ℕ) (said : BothSaid)
    → BothFound s (Booked bookings desk) small large said → TwoTypings s bookings desk large small said.smallest
two-typings s bookings desk large small said x =
    let d = x.demand in
    let o = x.smallest.outcome in
    let e = x.smallest.says in
    let taken : (Says50 said.smallest → ⊥) → Refused o → ⊥ =
    λ never r. never (refused-turned said.smallest o e r) in
    record {
      turned_down = (
        λ t. d.turned_down.0 (turned-refused said.smallest o e t),
        λ none. refused-turned said.smallest o e (d.turned_down.1 none),
      );
      small-sound = λ never. d.small-sound (taken never);
      large-sound = λ never. d.large-sound (taken never);
      between = λ never. d.between (taken never);
      pairs = pairs-are s (Booked bookings desk) large small x.largest.rounds x.largest.struck
          x.largest.bare said.smallest o e d;
      some_pairs = some-closure s (Booked bookings desk) small o x.smallest.leaves;
    }

-- A board stands for each well-formed sheet.
formed-board : (template script : List ℕ) (s : Sheet) → Formed template script s → (B : Board) × Represents s B
formed-board template script s f = represented template script s (formed-sheet template script s f)

pub third-demand : ThirdDemand
third-demand = record {
  largest = λ template script s f before full large said x.
      let found : LargestFound s large said = rw ((largest-taken template script before s).1 (f, full)) at x in
      largest-typing (formed-board template script s f).1 large said found;
  smallest = λ template script bookings desk s f b ours large-before small-before fl fs large small of-large of-small
      x y.
      two-typings s bookings desk large small (record { largest = of-large; smallest = of-small })
      (apart template script bookings desk large-before small-before s
      ((largest-taken template script large-before s).1 (f, fl))
      ((smallest-taken template script bookings desk small-before s).1 (f, b, ours, fs)) large small of-large of-small
      x y);
  both = λ template script bookings desk s f b ours before after fl fs said x.
      let taken = (both-taken template script bookings desk before s).1 (f, b, ours, fs, fl) in
      let found : BothFound s (Booked bookings desk) after.small after.large said = rw taken at x in (
        largest-typing (formed-board template script s f).1 after.large said.largest found.largest,
        two-typings s bookings desk after.large after.small said found,
      );
  desks = λ template script bookings s f b before after fr ft fl said x.
      let taken = (desks-taken template script bookings before s).1 (f, b, fr, ft, fl) in
      let found : DesksFound s bookings after said = rw taken at x in (
        largest-typing (formed-board template script s f).1 after.large said.largest found.radio.largest,
        two-typings s bookings 0 after.large after.radio _ found.radio,
        two-typings s bookings 1 after.large after.television _ found.television,
      );
}
