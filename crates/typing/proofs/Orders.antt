-- Pairs struck one at a time: every sequence of single strikes ends in the largest typing, after as many strikes.
--   strikes-counted   a sequence is as long as pairs are not left
--   strikes-over      it strikes no pair of a sound set
--   strikes-alike     a set that agrees with what a sequence leads to is led to as well
--   left-or-sound     all that is left is met, or a pair is left that is not
--   without, struck-next   a set without one place; such a pair can be struck next
--   struck-are        as many pairs are not in the largest as were struck
--   any_order         the promise, of a sheet and its largest typing
--   any-order-unique  it leaves no choice: the number and the pairs of the grid are determined
--   largest-any-order, both-any-order, desks-any-order   the promise, of what each call leaves that writes the largest
-- Assumes nothing.
use Prim.Native.Nat.{ℕ, zero, suc, ◌+◌, ◌≤◌, ◌<◌}
use mathlib.Core.Path.{◌≡◌, refl, sym, ap, ◌∙◌, subst}
use mathlib.Core.Logic.{◌⊎◌, inl, inr, ⊎_elim}
use mathlib.Core.Bool.{Bool, true, false, not, ◌&&◌}
use mathlib.Core.List.{List, [], ◌∷◌}
use native.Mathlib.Omega.{arith}
use lib.ListN.{length}
use lib.Dec.{eqb}
use borrow.Author.Tests.{eq-eqb, ne_eqb}
use Rattle.words.specs.Said.{Said, values}
use Rattle.words.specs.Reading.{accepted}
use Rattle.words.proofs.Answered.{answered-values, answered-part}
use Rattle.words.proofs.Bools.{never_both, is_true, is_false, bools-equal, and_first, and_second, and_both}
use Rattle.words.proofs.Bools.{false_of_not, not_of_false, not-of-true, eq-or-ne}
use Rattle.board.specs.Grid.{on, tally}
use Rattle.board.specs.Board.{Board}
use Rattle.board.proofs.Tally.{tally-ext, tally-more, tally-none, tally-split, Lowest, none-or-lowest}
use Rattle.board.proofs.Rounds.{mono, after}
use Rattle.sheet.specs.Sheet.{Sheet, place, size, read_sheet}
use Rattle.typing.specs.Typing.{Pairs, Met, Sound, Below}
use Rattle.typing.specs.Largest.{Largest}
use Rattle.typing.specs.Answer.{BothSaid, both_refused, DesksSaid, desks_refused}
use Rattle.typing.specs.Calls.{Grids, booked_reading, largest_reading, smallest_reading, both_reading, LargestFound}
use Rattle.typing.specs.Calls.{LargestSays, BothSays}
use Rattle.typing.specs.Desks.{DeskGrids, desks_reading, DesksSays}
use Rattle.typing.specs.Orders.{Strikes, start, strike, Left, AnyOrder}
use Rattle.typing.proofs.Represents.{Represents, Alike, on-board, pair-in, each-place}
use Rattle.typing.proofs.Rounds.{rounds-only}
use Rattle.typing.proofs.Largest.{largest-over}
use Rattle.typing.proofs.Booked.{grid-asked, bookings-asked}
use Rattle.typing.proofs.Existence.{represented}
use Rattle.typing.proofs.DeskAnswers.{desks-as-both}

-- The set without one place.
unfoldable pub without : Pairs → ℕ → Pairs
without X p q = X q && not (eqb q p)

without_gone : (X : Pairs) (p : ℕ) → without X p p ≡ false
unfolding without
without_gone X p = is_false (λ e.
    never_both (and_second (X p) (not (eqb p p)) e) (not-of-true (eq-eqb p p refl)))

without-kept : (X : Pairs) (p q : ℕ) → (q ≡ p → ⊥) → without X p q ≡ X q
unfolding without
without-kept X p q ne = bools-equal
    (λ e. and_first (X q) (not (eqb q p)) e)
    (λ e. is_false (λ h. never_both (and_both (X q) (not (eqb q p)) h (not_of_false (ne_eqb q p ne))) e))

-- ---- with a board that stands for the sheet
module _ {s : Sheet} {B : Board} (rep : Represents s B) where
  -- ---- what a sequence leads to
  pub strikes-counted : {ps : List ℕ} {X : Pairs} → Strikes s ps X → length ps ≡ tally (λ p. not (X p)) (size s)
  strikes-counted (start {X} h) = sym (tally-none (λ p. not (X p)) (size s)
      (each-place rep (λ p. not (X p) ≡ false) (λ n t ln lt. not-of-true (h n t ln lt))))
  strikes-counted (strike {ps} {X} {Y} w n t ln lt has unmet gone same) =
      ap suc (strikes-counted w)
      ∙ sym (tally-more (λ p. not (X p)) (λ p. not (Y p)) (size s) (place s n t) (pair-in rep n t ln lt)
      (not-of-true has) (not_of_false gone) (λ p l ne. ap not (sym (same p l ne))))

  -- what is met under a set is met under one that has its pairs
  met-over : (X Y : Pairs) → Below s X Y → (n t : ℕ) → n < s.cards → t < s.shapes → Met s X n t → Met s Y n t
  met-over X Y below n t ln lt m = (rep.met-exact Y n t ln lt).0
      (mono rep.lawful X Y
      (λ p l. each-place rep (λ q. X q ≡ true → Y q ≡ true) below p (subst (λ (x : ℕ). p < x) rep.sized l))
      (place s n t) (on-board rep (pair-in rep n t ln lt)) ((rep.met-exact X n t ln lt).1 m))

  pub strikes-over : {ps : List ℕ} {X : Pairs} → Strikes s ps X → (Z : Pairs) → Sound s Z → Below s Z X
  strikes-over (start h) Z z n t ln lt e = h n t ln lt
  strikes-over (strike {ps} {X} {Y} w n t ln lt has unmet gone same) Z z c u lc lu e = ⊎_elim
      (λ (here : place s c u ≡ place s n t).
      let over : Below s Z X = λ d v ld lv h. strikes-over w Z z d v ld lv h in
      let met = z n t ln lt (subst (λ (p : ℕ). Z p ≡ true) here e) in
      absurd (unmet (met-over Z X over n t ln lt met)))
      (λ other. same (place s c u) (pair-in rep c u lc lu) other ∙ strikes-over w Z z c u lc lu e)
      (eq-or-ne (place s c u) (place s n t))

  pub strikes-alike : {ps : List ℕ} {X Y : Pairs} → Strikes s ps X → Alike s X Y → Strikes s ps Y
  strikes-alike (start h) e = start (λ n t ln lt. sym (e (place s n t) (pair-in rep n t ln lt)) ∙ h n t ln lt)
  strikes-alike (strike w n t ln lt has unmet gone same) e = strike w n t ln lt has unmet
      (sym (e (place s n t) (pair-in rep n t ln lt)) ∙ gone) (λ p l ne. sym (e p l) ∙ same p l ne)

  -- ---- one that has not stopped can go on
  pub left-or-sound : (X : Pairs) → Sound s X ⊎ Left s X
  left-or-sound X = by-lowest (none-or-lowest falls (size s))
    where
      falls : ℕ → Bool
      falls p = X p && not (B.met X p)

      by-lowest : ((p : ℕ) → p < size s → falls p ≡ false) ⊎ Lowest falls (size s) → Sound s X ⊎ Left s X
      by-lowest (inl none) = inl (λ n t ln lt e. (rep.met-exact X n t ln lt).0 (is_true (λ m.
          let p = place s n t in
          never_both (and_both (X p) (not (B.met X p)) e (not_of_false m)) (none p (pair-in rep n t ln lt)))))
      by-lowest (inr r) = inr (each-place rep (λ p. falls p ≡ true → Left s X)
          (λ n t ln lt e.
          let p = place s n t in
          record {
            card = n;
            shape = t;
            card-in = ln;
            shape-in = lt;
            left = and_first (X p) (not (B.met X p)) e;
            unmet = λ m.
                never_both ((rep.met-exact X n t ln lt).1 m) (false_of_not (and_second (X p) (not (B.met X p)) e));
          })
          r.number r.below r.passes)

  pub struck-next : {ps : List ℕ} {X : Pairs} → Strikes s ps X → (w : Left s X)
      → let p = place s w.card w.shape in
      Strikes s (p ∷ ps) (without X p)
  struck-next {ps} {X} r w =
      let p = place s w.card w.shape in
      strike r w.card w.shape w.card-in w.shape-in w.left w.unmet
      (without_gone X p) (λ q l ne. without-kept X p q ne)

  -- ---- beside the rounds
  module _ {r m : ℕ} {Z : Pairs} (z : Largest s r m Z) where
    pub struck-are : m ≡ tally (λ p. not (Z p)) (size s)
    struck-are =
        let (alike, counted) = rounds-only rep z.reached in
        let fallen : ℕ → Bool = λ p. not (after B z.before p) in
        counted ∙ ap (tally fallen) rep.sized
        ∙ sym (tally-ext (λ p. not (Z p)) fallen (size s) (λ p l. ap not (alike p l)))

    -- where a sequence stops it has come to the largest,
    stops_at : {ps : List ℕ} {X : Pairs} → Strikes s ps X → Sound s X → Alike s X Z
    stops_at {ps} {X} w sound = each-place rep (λ p. X p ≡ Z p) (λ n t ln lt. bools-equal
        (λ e. largest-over rep z X sound n t ln lt e)
        (λ e. is_false (λ h. never_both (strikes-over w Z z.last n t ln lt h) e)))

    -- and before that it has struck no more
    strikes-bounded : {ps : List ℕ} {X : Pairs} → Strikes s ps X → length ps ≤ m
    strikes-bounded {ps} {X} w = omega (
      arith,
      strikes-counted w,
      struck-are,
      tally-split X Z (size s) (each-place rep (λ p. Z p ≡ true → X p ≡ true) (strikes-over w Z z.last)),
    )

    -- so it stops within so many strikes more
    brought-to-end : (more : ℕ) {ps : List ℕ} {X : Pairs} → Strikes s ps X → m < length ps + more
        → (qs : List ℕ) × (Y : Pairs) × Strikes s qs Y × Sound s Y
    brought-to-end zero w l = absurd (omega (arith, strikes-bounded w))
    brought-to-end (suc more) {ps} {X} w l = ⊎_elim
        (λ (sound : Sound s X). (ps, X, w, sound))
        (λ (next : Left s X). brought-to-end more (struck-next w next) (omega arith))
        (left-or-sound X)

  pub any_order : {rounds struck : ℕ} (grid : List ℕ) → Largest s rounds struck (on grid) → AnyOrder s grid struck
  any_order {rounds} {struck} grid z = record {
    ends = λ ps X w sound. stops_at z w sound;
    long = λ ps X w sound.
        strikes-counted w
        ∙ tally-ext (λ p. not (X p)) (λ p. not (on grid p)) (size s) (λ p l. ap not (stops_at z w sound p l))
        ∙ sym (struck-are z);
    goes_on = λ ps X w. left-or-sound X;
    bounded = λ ps X w. strikes-bounded z w;
    some = brought-to-end z (suc struck) (start {X = λ p. true} (λ n t ln lt. refl)) (omega arith);
  }

-- ---- no choice
pub any-order-unique : {s : Sheet} {g h : List ℕ} {struck other : ℕ} → AnyOrder s g struck → AnyOrder s h other
    → (struck ≡ other) × Alike s (on g) (on h)
any-order-unique a b =
    let (ps, X, w, sound) = a.some in (
      sym (a.long ps X w sound) ∙ b.long ps X w sound,
      λ p l. sym (a.ends ps X w sound p l) ∙ b.ends ps X w sound p l,
    )

-- ---- of what the calls leave
module _ (template script : List ℕ) where
  -- A sheet was read, and the promise holds of it.
  abbrev pub Promised : List ℕ → ℕ → Type 0
  Promised grid struck = (s : Sheet) × (read_sheet template script ≡ accepted s) × AnyOrder s grid struck

  promised : (s : Sheet) → read_sheet template script ≡ accepted s → (grid : List ℕ) (said : Said)
      (rounds struck bare : ℕ) → said ≡ values (rounds ∷ struck ∷ bare ∷ []) → LargestFound s grid said
      → Promised grid struck
  promised s read grid said rounds struck bare e found =
      let same : found.struck ≡ struck = second (sym found.says ∙ e) in
      (s, read, subst (AnyOrder s grid) same (any_order (represented template script s read).1 grid found.largest))
    where
      second : {a b c x y z : ℕ} → values (a ∷ b ∷ c ∷ []) ≡ values (x ∷ y ∷ z ∷ []) → b ≡ y
      second e = cc

  pub largest-any-order : (before after : List ℕ) (rounds struck bare : ℕ)
      → LargestSays template script before after (values (rounds ∷ struck ∷ bare ∷ [])) → Promised after struck
  largest-any-order before after rounds struck bare x =
      let (s, asked, found) = answered-values (largest_reading template script before) before after _ x in
      promised s (grid-asked before (read_sheet template script) s asked).0 after _ rounds struck bare refl found

  module _ (bookings : List ℕ) where
    pub both-any-order : (desk : ℕ) (before after : Grids) (said : BothSaid) (rounds struck bare : ℕ)
        → said.largest ≡ values (rounds ∷ struck ∷ bare ∷ [])
        → BothSays template script bookings desk before after said → Promised after.large struck
    both-any-order desk before after said rounds struck bare e x =
        let (s, asked, found) = answered-part both_refused (λ a. a.largest) (λ refused. refl)
        (both_reading template script bookings desk before) before after said _ e x in
        let small = smallest_reading template script bookings desk before.small in
        let sized = (grid-asked before.large small s asked).0 in
        let listed = (grid-asked before.small (booked_reading template script bookings desk) s sized).0 in
        let read = (bookings-asked bookings desk (read_sheet template script) s listed).0 in
        promised s read after.large said.largest rounds struck bare e found.largest

    -- radio's part is an answer of the call for both
    pub desks-any-order : (before after : DeskGrids) (said : DesksSaid) (rounds struck bare : ℕ)
        → said.largest ≡ values (rounds ∷ struck ∷ bare ∷ [])
        → DesksSays template script bookings before after said → Promised after.large struck
    desks-any-order before after said rounds struck bare e x =
        let (s, asked, found) = answered-part desks_refused (λ a. a.largest) (λ refused. refl)
        (desks_reading template script bookings before) before after said _ e x in
        both-any-order 0 (record { small = before.radio; large = before.large })
        (record { small = after.radio; large = after.large })
        (record { largest = said.largest; smallest = said.radio }) rounds struck bare e
        (desks-as-both template script bookings before after said s asked x).0
