-- What is left of a part that is surveyed: a run of parts whose words stand from a place up to the end.
--   RunStanding      the words of a run stand between two places, and the run obeys the format
--   Linked           at a place stands a link with this low and high
--   must-nowhere, must-there   whether the link of a label must be there, by the label's entry
--   Pending          the part has the links that are entered and those of the run, and is flat where the run is
--   pending-start    nothing is surveyed
--   pending-drop, pending-open, pending-enter   after a nothing, the start of an all, a link
--   pending-room     a link's words stand before the end
--   pending_next     after a step, whatever the run starts with
--   pending_done     at the end the part is surveyed
-- Assumes nothing.
use Prim.Native.Nat.{ℕ, ◌+◌, ◌-◌, ◌≤◌, ◌<◌}
use mathlib.Core.Path.{◌≡◌, refl, sym, ap, subst, ◌∙◌}
use mathlib.Core.Logic.{◌⊎◌, inl, inr, ⊎_elim, ◌↔◌, ◌≢◌}
use mathlib.Core.Bool.{false}
use mathlib.Core.List.{List, [], ◌∷◌, ◌++◌, append-nil}
use native.Mathlib.Omega.{arith}
use borrow.Author.Tests.{lt-ltb, le-ltb}
use lib.Dec.{ltb}
use lib.ListN.{length, get_or, set, length-set}
use lib.Seq.{get_or-set_same, get_or-set_other}
use Rattle.words.specs.Limits.{max_labels}
use Rattle.words.proofs.Bools.{le-or-lt, eq-or-ne}
use Rattle.bags.specs.Part.{Limit, Part, nothing, star, plus, optional, choice, all, link, limit_of}
use Rattle.bags.specs.Part.{Parts, none, more, RunNames, RunSingle}
use Rattle.bags.specs.Flat.{Flat, Has, RunFlat, RunHas}
use Rattle.board.specs.Grid.{tally}
use Rattle.board.proofs.Tally.{tally-none, tally-ext, tally-more}
use Rattle.parts.specs.Writer.{write_limit, run_length, write_part, write_run, RunWithinLimits}
use Rattle.parts.proofs.Stands.{Stands, stands_here, stands_after, stands-right}
use Rattle.flat.specs.Places.{low_at, high_at, must, LinkPlaces, Surveyed, Standing, code_size, entered, must_at}
use Rattle.flat.proofs.Appending.{and_then, then-words, then-names, then-has, has-then, then-single, then-limits}
use Rattle.flat.proofs.Appending.{then-flat, run-words}
use Rattle.flat.proofs.Codes.{size-nothing, size-all, size-link, size_low, entered-link, entered-other}
use Rattle.flat.proofs.Codes.{must-some, must-none, must-other}
use Rattle.parts.proofs.RoundTripWritten.{limit-read}

-- ---- places

-- At a place stands a link with this low and high.
abbrev pub Linked : List ℕ → ℕ → ℕ → Limit → Type 0
Linked words place low high = (0 < place) × (low ≡ low_at words place) × (high ≡ high_at words place)

module _ (words places : List ℕ) (k : ℕ) where
  -- a label without a place
  must-nowhere : get_or places k 0 ≡ 0 → must words places k ≡ false
  unfolding must
  must-nowhere e = rw e

  -- a label with a place
  must-there : (place : ℕ) → get_or places k 0 ≡ place → 0 < place → must words places k ≡ ltb 0 (low_at words place)
  unfolding must
  must-there place e l = simp (e, lt-ltb 0 place l)

-- a label whose place stays
must-stays : (words before after : List ℕ) (k : ℕ) → get_or before k 0 ≡ get_or after k 0
    → must words before k ≡ must words after k
unfolding must
must-stays words before after k e = rw e

-- ---- what is left

-- The words of a run, exactly, from a place on up to another; the same as of a part.
pub record RunStanding (words : List ℕ) (at end : ℕ) (ps : Parts) : Type 0 where
  pub stands : Stands words at (write_run ps)
  pub ends : end ≡ at + length (write_run ps)
  pub once : RunSingle ps
  pub labels : (k : ℕ) → RunNames ps k → k < max_labels
  pub limits : RunWithinLimits ps

-- Of the part p the run ps is left, from the place `at` on; the links before it are entered, and so many of them must
-- be there.
pub record Pending (words : List ℕ) (end : ℕ) (p : Part) (at : ℕ) (places : List ℕ) (needed : ℕ) (ps : Parts) : Type 0
  where
    pub standing : RunStanding words at end ps
    -- no label of the run has a place yet
    pub fresh : (k : ℕ) → RunNames ps k → get_or places k 0 ≡ 0
    -- what is before the run is flat
    pub flat : RunFlat ps → Flat p
    -- each link of the part is entered or in the run
    pub links : (k low : ℕ) (high : Limit) → Has p k low high
        ↔ (Linked words (get_or places k 0) low high ⊎ RunHas ps k low high)
    pub placed : LinkPlaces words places
    pub count : needed ≡ tally (must words places) max_labels

-- Nothing is surveyed, and no label has a place.
pub pending-start : {words : List ℕ} {core end : ℕ} {p : Part} (places : List ℕ) → Standing words core end p
    → length places ≡ max_labels → ((k : ℕ) → get_or places k 0 ≡ 0) → Pending words end p core places 0 (more p none)
pending-start {words} {core} {end} {p} places s full blank =
    let alone : write_part p ≡ write_part p ++ [] = sym (append-nil (write_part p)) in
    record {
      standing = record {
        stands = subst (Stands words core) alone s.stands;
        ends = s.ends ∙ ap (λ (l : List ℕ). core + length l) alone;
        once = (s.once, tt, λ k m n. n);
        labels = λ k n. ⊎_elim (s.labels k) (λ m. absurd m) n;
        limits = (s.limits, tt);
      };
      fresh = λ k n. blank k;
      flat = λ f. f.0;
      links = λ k low high. (
        λ h. inr (inl h),
        λ h. ⊎_elim (λ e. absurd (omega (arith, e.0, blank k))) (⊎_elim (λ i. i) (λ i. absurd i)) h,
      );
      placed = record { full = full; inside = λ k l. absurd (omega (arith, l, blank k)) };
      count = sym (tally-none (must words places) max_labels (λ k l. must-nowhere words places k (blank k)));
    }

module _ {words : List ℕ} {end : ℕ} {p : Part} {at : ℕ} {places : List ℕ} {needed : ℕ} where
  -- A nothing is passed.
  pending-drop : {qs : Parts} → Pending words end p at places needed (more nothing qs)
      → Pending words end p (at + 1) places needed qs
  pending-drop {qs} h = record {
    standing = record {
      stands = stands_after words at 0 (write_run qs) h.standing.stands;
      ends = omega (arith, h.standing.ends);
      once = h.standing.once.1;
      labels = λ k n. h.standing.labels k (inr n);
      limits = h.standing.limits.1;
    };
    fresh = λ k n. h.fresh k (inr n);
    flat = λ f. h.flat (tt, f);
    links = λ k low high. (
      λ i. ⊎_elim (λ e. inl e) (⊎_elim (λ e. absurd e) (λ r. inr r)) ((h.links k low high).0 i),
      λ i. (h.links k low high).1 (⊎_elim (λ e. inl e) (λ r. inr (inr r)) i),
    );
    placed = h.placed;
    count = h.count;
  }

  -- An all is opened: its parts are next.
  pending-open : {rs qs : Parts} → Pending words end p at places needed (more (all rs) qs)
      → Pending words end p (at + 2) places needed (and_then rs qs)
  pending-open {rs} {qs} h =
      let both = write_run rs ++ write_run qs in
      let two : at + 1 + 1 ≡ at + 2 = omega arith in
      let counted = stands_after words at 17 (run_length rs ∷ both) h.standing.stands in
      let inner = stands_after words (at + 1) (run_length rs) both counted in
      record {
        standing = record {
          stands = rw (then-words rs qs) (subst (λ (n : ℕ). Stands words n both) two inner);
          ends = rw (then-words rs qs) (omega (arith, h.standing.ends));
          once = then-single rs qs h.standing.once.0 h.standing.once.1 h.standing.once.2;
          labels = λ k n. h.standing.labels k (then-names rs qs k n);
          limits = then-limits rs qs h.standing.limits.0.2 h.standing.limits.1;
        };
        fresh = λ k n. h.fresh k (then-names rs qs k n);
        flat = λ f. h.flat (then-flat rs qs f);
        links = λ k low high. (
          λ i. ⊎_elim (λ e. inl e) (λ r. inr (has-then rs qs k low high r)) ((h.links k low high).0 i),
          λ i. (h.links k low high).1 (⊎_elim (λ e. inl e) (λ r. inr (then-has rs qs k low high r)) i),
        );
        placed = h.placed;
        count = h.count;
      }

-- A link is entered.
module _ {words : List ℕ} {end : ℕ} {p : Part} {at : ℕ} {places : List ℕ} {needed : ℕ}
    {label shape low : ℕ} {high : Limit} {qs : Parts}
    (h : Pending words end p at places needed (more (link label shape low high) qs)) (start : 0 < at) where
  -- what stands there
  link-code : get_or words at 0 ≡ 256 + label
  link-code =
      stands_here words at (256 + label) (shape ∷ low ∷ write_limit high ∷ write_run qs) h.standing.stands

  link-low : low_at words at ≡ low
  link-low = h.standing.stands 2 (omega arith)

  link-high : high_at words at ≡ high
  link-high = ap limit_of (h.standing.stands 3 (omega arith)) ∙ limit-read low high h.standing.limits.0

  -- the entries after it
  entry_here : (k : ℕ) → k ≡ label → get_or (set places label at) k 0 ≡ at
  entry_here k e =
      ap (λ (n : ℕ). get_or (set places label at) n 0) e
      ∙ get_or-set_same places label at 0 (omega (arith, h.placed.full, h.standing.labels label (inl refl)))

  entry_other : (k : ℕ) → k ≢ label → get_or (set places label at) k 0 ≡ get_or places k 0
  entry_other k n = get_or-set_other places label k at 0 n

  -- the links that are entered: those before, and this one
  linked-next : (k a : ℕ) (b : Limit) → Linked words (get_or places k 0) a b ⊎ ((k ≡ label) × (a ≡ low) × (b ≡ high))
      → Linked words (get_or (set places label at) k 0) a b
  linked-next k a b (inl l) =
      let other : k ≢ label = λ e. omega (arith, l.0, h.fresh k (inl e)) in
      subst (λ (n : ℕ). Linked words n a b) (sym (entry_other k other)) l
  linked-next k a b (inr l) =
      let here : Linked words at a b = (start, l.1 ∙ sym link-low, l.2 ∙ sym link-high) in
      subst (λ (n : ℕ). Linked words n a b) (sym (entry_here k l.0)) here

  next-linked : (k a : ℕ) (b : Limit) → Linked words (get_or (set places label at) k 0) a b
      → Linked words (get_or places k 0) a b ⊎ ((k ≡ label) × (a ≡ low) × (b ≡ high))
  next-linked k a b l = ⊎_elim
      (λ (e : k ≡ label).
      let here = subst (λ (n : ℕ). Linked words n a b) (entry_here k e) l in
      inr (e, here.1 ∙ link-low, here.2 ∙ link-high))
      (λ (n : k ≢ label). inl (subst (λ (m : ℕ). Linked words m a b) (entry_other k n) l))
      (eq-or-ne k label)

  placed-next : end ≤ length words → LinkPlaces words (set places label at)
  placed-next inside = record {
    full = length-set places label at ∙ h.placed.full;
    inside = λ k l. ⊎_elim
        (λ (e : k ≡ label). omega (arith, entry_here k e, h.standing.ends))
        (λ (n : k ≢ label).
        let same = entry_other k n in omega (arith, same, h.placed.inside k (omega (arith, same, l))))
        (eq-or-ne k label);
  }

  -- whether the links must be there: this one if its low is above 0
  must-before : (k : ℕ) → k ≡ label → must words places k ≡ false
  must-before k e = must-nowhere words places k (h.fresh k (inl e))

  must-here : (k : ℕ) → k ≡ label → must words (set places label at) k ≡ ltb 0 (low_at words at)
  must-here k e = must-there words (set places label at) k at (entry_here k e) start

  must-else : (k : ℕ) → k ≢ label → must words places k ≡ must words (set places label at) k
  must-else k n = must-stays words places (set places label at) k (sym (entry_other k n))

  -- a link that need not be there changes none of them
  must-kept : low ≤ 0 → (k : ℕ) → must words places k ≡ must words (set places label at) k
  must-kept z k = ⊎_elim
      (λ (e : k ≡ label).
      must-before k e ∙ sym (must-here k e ∙ le-ltb 0 (low_at words at) (omega (arith, link-low))))
      (must-else k)
      (eq-or-ne k label)

  count_next : needed + must_at words at ≡ tally (must words (set places label at)) max_labels
  count_next = ⊎_elim
      (λ (z : low ≤ 0).
      omega (
        arith,
        h.count,
        must-none words at (omega (arith, link-code)) (omega (arith, link-low)),
        tally-ext (must words places) (must words (set places label at)) max_labels (λ k l. must-kept z k),
      ))
      (λ (l : 0 < low). omega (
        arith,
        h.count,
        must-some words at (omega (arith, link-code)) (omega (arith, link-low)),
        tally-more (must words places) (must words (set places label at)) max_labels label
            (h.standing.labels label (inl refl)) (must-before label refl)
            (must-here label refl ∙ lt-ltb 0 (low_at words at) (omega (arith, link-low))) (λ k m n. must-else k n),
      ))
      (le-or-lt low 0)

  pending-enter : end ≤ length words
      → Pending words end p (at + 4) (set places label at) (needed + must_at words at) qs
  pending-enter inside = record {
    standing = record {
      stands = stands-right words at (write_part (link label shape low high)) (write_run qs) h.standing.stands;
      ends = omega (arith, h.standing.ends);
      once = h.standing.once.1;
      labels = λ k n. h.standing.labels k (inr n);
      limits = h.standing.limits.1;
    };
    fresh = λ k n. entry_other k (λ e. h.standing.once.2 k e n) ∙ h.fresh k (inr n);
    flat = λ f. h.flat (tt, f);
    links = λ k a b. (
      λ i. ⊎_elim
          (λ e. inl (linked-next k a b (inl e)))
          (⊎_elim (λ e. inl (linked-next k a b (inr e))) (λ r. inr r))
          ((h.links k a b).0 i),
      λ i. (h.links k a b).1 (⊎_elim
          (λ e. ⊎_elim (λ l. inl l) (λ l. inr (inl l)) (next-linked k a b e)) (λ r. inr (inr r)) i),
    );
    placed = placed-next inside;
    count = count_next;
  }

-- ---- a turn of the loop

-- What a step gives at a code that takes words: how many, the places after it, and what it counts.
pub record Step (words : List ℕ) (at : ℕ) (places : List ℕ) (size : ℕ) (after : List ℕ) (counted : ℕ) : Type 0 where
  pub sized : size ≡ code_size (get_or words at 0)
  pub some : size ≢ 0
  pub entry : after ≡ entered words at places
  pub must : counted ≡ must_at words at

module _ {words : List ℕ} {at : ℕ} {places : List ℕ} {size : ℕ} {after : List ℕ} {counted : ℕ}
    (s : Step words at places size after counted) where
  -- the codes of other parts take no words
  no_other : {A : Type 0} (code : ℕ) → get_or words at 0 ≡ code → code < 256 → code ≢ 0 → code ≢ 17 → A
  no_other code e l m n =
      let none-taken = size_low (get_or words at 0) (omega arith) (λ f. m (sym e ∙ f)) (λ f. n (sym e ∙ f)) in
      absurd (s.some (s.sized ∙ none-taken))

  -- what the step gives, by its parts
  moved : {end : ℕ} {p : Part} {qs : Parts} (needed taken : ℕ) (entries : List ℕ) → code_size (get_or words at 0) ≡
      taken
      → entered words at places ≡ entries → Pending words end p (at + taken) entries (needed + must_at words at) qs
      → Pending words end p (at + size) after (needed + counted) qs
  moved needed taken entries e f h = rw (s.sized, s.entry, s.must, e, f) h

  -- below 256 nothing is entered or counted
  passed : {end : ℕ} {p : Part} {needed : ℕ} {qs : Parts} (taken : ℕ) → code_size (get_or words at 0) ≡ taken
      → get_or words at 0 < 256 → Pending words end p (at + taken) places needed qs
      → Pending words end p (at + size) after (needed + counted) qs
  passed {needed = needed} taken e l h =
      let same : needed + must_at words at ≡ needed = omega (arith, must-other words at l) in
      moved needed taken places e (entered-other words at places l) (rw same h)

module _ {words : List ℕ} {end : ℕ} {p : Part} {at : ℕ} {places : List ℕ} {needed : ℕ} where
  -- The run that is left starts with this code.
  starts : {ps : Parts} (code : ℕ) (xs : List ℕ) → Pending words end p at places needed ps → write_run ps ≡ code ∷ xs
      → get_or words at 0 ≡ code
  starts code xs h e = stands_here words at code xs (subst (Stands words at) e h.standing.stands)

  -- Where a link's code stands, the link's words stand before the end.
  pub pending-room : (ps : Parts) → Pending words end p at places needed ps → at < end → 256 ≤ get_or words at 0
      → at + 3 < end
  pending-room none h b l = absurd (omega (arith, h.standing.ends))
  pending-room (more nothing qs) h b l = absurd (omega (arith, starts 0 (write_run qs) h refl))
  pending-room (more (star q) qs) h b l = absurd (omega (arith, starts 1 (write_part q ++ write_run qs) h refl))
  pending-room (more (plus q) qs) h b l = absurd (omega (arith, starts 2 (write_part q ++ write_run qs) h refl))
  pending-room (more (optional q) qs) h b l = absurd (omega (arith, starts 3 (write_part q ++ write_run qs) h refl))
  pending-room (more (choice rs) qs) h b l =
      absurd (omega (arith, starts 16 (run_length rs ∷ write_run rs ++ write_run qs) h refl))
  pending-room (more (all rs) qs) h b l =
      absurd (omega (arith, starts 17 (run_length rs ∷ write_run rs ++ write_run qs) h refl))
  pending-room (more (link label shape low high) qs) h b l = omega (arith, h.standing.ends)

  -- After a step a run is left again.
  pub pending_next : {size : ℕ} {after : List ℕ} {counted : ℕ} → Step words at places size after counted → (ps : Parts)
      → Pending words end p at places needed ps → 0 < at → at < end → end ≤ length words
      → (qs : Parts) × Pending words end p (at + size) after (needed + counted) qs
  pending_next s none h start b inside = absurd (omega (arith, h.standing.ends))
  pending_next s (more nothing qs) h start b inside =
      let code = starts 0 (write_run qs) h refl in
      (qs, passed s 1 (size-nothing (get_or words at 0) code) (omega arith) (pending-drop h))
  pending_next s (more (star q) qs) h start b inside =
      no_other s 1 (starts 1 (write_part q ++ write_run qs) h refl) (omega arith) (omega arith) (omega arith)
  pending_next s (more (plus q) qs) h start b inside =
      no_other s 2 (starts 2 (write_part q ++ write_run qs) h refl) (omega arith) (omega arith) (omega arith)
  pending_next s (more (optional q) qs) h start b inside =
      no_other s 3 (starts 3 (write_part q ++ write_run qs) h refl) (omega arith) (omega arith) (omega arith)
  pending_next s (more (choice rs) qs) h start b inside =
      let code = starts 16 (run_length rs ∷ write_run rs ++ write_run qs) h refl in
      no_other s 16 code (omega arith) (omega arith) (omega arith)
  pending_next s (more (all rs) qs) h start b inside =
      let code = starts 17 (run_length rs ∷ write_run rs ++ write_run qs) h refl in
      (and_then rs qs, passed s 2 (size-all (get_or words at 0) code) (omega arith) (pending-open h))
  pending_next s (more (link label shape low high) qs) h start b inside =
      let code = link-code h start in
      let below : label < max_labels = h.standing.labels label (inl refl) in
      let sized = size-link (get_or words at 0) (omega arith) (omega arith) in
      let less : get_or words at 0 - 256 ≡ label = omega arith in
      let entry = entered-link words at places (omega arith) ∙ ap (λ (k : ℕ). set places k at) less in
      (qs, moved s needed 4 (set places label at) sized entry (pending-enter h start inside))

-- Past the last word no part is left, and the part is surveyed.
pub pending_done : {words : List ℕ} {end : ℕ} {p : Part} {at : ℕ} {places : List ℕ} {needed : ℕ} (ps : Parts)
    → Pending words end p at places needed ps → end ≤ at → Surveyed words p places needed
pending_done none h l = record {
  flat = h.flat tt;
  placed = h.placed;
  links = λ k low high. (
    λ i. ⊎_elim (λ e. e) (λ r. absurd r) ((h.links k low high).0 i),
    λ e. (h.links k low high).1 (inl e),
  );
  count = h.count;
}
pending_done (more q qs) h l = absurd (omega (arith, run-words q qs, h.standing.ends))
