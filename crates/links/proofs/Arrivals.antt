-- Counting the links to a card along their chain.
-- arrivals-fall    the chain goes down
-- CountedAlong     what is counted when it stands at a link
-- arriving-start   at the chain's head nothing is counted yet
-- arriving-next    one link more is counted
-- arriving-done    at the chain's end all are
-- arriving-small   no count is over that of the links
-- Assumes nothing.
use Prim.Native.Nat.{ℕ, zero, suc, ◌+◌, ◌≤◌, ◌<◌}
use mathlib.Core.Path.{◌≡◌, refl, sym, ap, ◌∙◌}
use mathlib.Core.Logic.{⊎_elim}
use mathlib.Core.List.{List}
use native.Mathlib.Omega.{arith}
use native.Mathlib.Numerals.{add-one}
use lib.ListN.{length, get_or, set, length-set}
use lib.Seq.{get_or-set_same, get_or-set_other}
use Rattle.words.proofs.Bools.{eq-or-ne}
use Rattle.bags.specs.Label.{incoming}
use Rattle.script.specs.Link.{kind_at, to_at}
use Rattle.words.specs.Chain.{last_at, Chained, Falling, Stepped}
use Rattle.links.specs.Index.{ArrivalsOf}
use Rattle.links.specs.Counts.{way_count}
use Rattle.words.proofs.Chains.{
  last-here,
  last-other,
  chain-falls,
  Along,
  along-start,
  along-key,
  along-last,
  along-next,
}
use Rattle.links.proofs.Counts.{way-count-same, way-count-kind, way-count-past, way-count-bound}

pub arrivals-fall : {script first next : List ℕ} {links : ℕ} (card : ℕ) → ArrivalsOf script first next (card + 1) links
    → Falling (get_or first card 0) next
arrivals-fall card a = chain-falls a.chained (omega (arith, a.cards-in)) a.links-in

-- Counting stands before link at - 1 of the chain, or at its end if `at` is 0: the links counted and those below `at`
-- are all.
pub record CountedAlong (script : List ℕ) (links card : ℕ) (counts : List ℕ) (at : ℕ) (next : List ℕ) : Type 0 where
  pub chain : Along (to_at script) card links at next
  pub counted : (k : ℕ) → k < length counts
      → get_or counts k 0 + way_count incoming script card k at ≡ way_count incoming script card k links

-- No link from the last one below m that leads to the card up to m does.
count-last : (script : List ℕ) (card k m : ℕ)
    → way_count incoming script card k (last_at (to_at script) card m) ≡ way_count incoming script card k m
unfolding last_at
count-last script card k zero = refl
count-last script card k (suc m) = ⊎_elim
    (λ e. ap (way_count incoming script card k) (last-here (to_at script) card m e))
    (λ ne.
    ap (way_count incoming script card k) (last-other (to_at script) card m ne) ∙ count-last script card k m
    ∙ sym (way-count-past incoming script card k m ne))
    (eq-or-ne (to_at script m) card)

pub arriving-start : {script first next : List ℕ} {links card : ℕ} {counts : List ℕ}
    → ((k : ℕ) → k < length counts → get_or counts k 0 ≡ 0) → Chained (to_at script) first next links
    → card < length first → CountedAlong script links card counts (get_or first card 0) next
arriving-start {script} {first} {next} {links} {card} zeros s h = record {
  chain = along-start s h;
  counted = λ k l. omega (
    arith,
    zeros k l,
    ap (way_count incoming script card k) (s.heads card h),
    count-last script card k links,
  );
}

module _ {script : List ℕ} {links card : ℕ} {counts : List ℕ} {at : ℕ} {next : List ℕ}
    (s : CountedAlong script links card counts at next) where
  pub arriving-done : at ≡ 0 → (k : ℕ) → k < length counts → get_or counts k 0 ≡ way_count incoming script card k links
  unfolding way_count
  arriving-done e k l = omega (arith, s.counted k l, ap (way_count incoming script card k) e)

  pub arriving-small : (k : ℕ) → k < length counts → get_or counts k 0 ≤ links
  arriving-small k l = omega (arith, s.counted k l, way-count-bound incoming script card k links)

  module _ {i later : ℕ} {left : List ℕ} (t : Stepped at next i later left) where
    -- the links below the next one, and link i, are those below `at`
    below_next : (k : ℕ) → way_count incoming script card k later ≡ way_count incoming script card k i
    below_next k = ap (way_count incoming script card k) (along-last s.chain t) ∙ count-last script card k i

    pub arriving-next : (kind : ℕ) → kind ≡ kind_at script i → kind < length counts
        → CountedAlong script links card (set counts kind (get_or counts kind 0 + 1)) later left
    arriving-next kind is lk = record {
      chain = along-next s.chain t;
      counted = λ k l.
          let more : List ℕ = set counts kind (get_or counts kind 0 + 1) in
          let had = s.counted k (simp length-set at l) in
          let all = ap (way_count incoming script card k) (t.stood ∙ add-one i) in
          ⊎_elim
          (λ (q : k ≡ kind).
          let here : get_or more k 0 ≡ get_or counts k 0 + 1 =
          ap (λ (x : ℕ). get_or more x 0) q ∙ get_or-set_same counts kind (get_or counts kind 0 + 1) 0 lk
          ∙ ap (λ (x : ℕ). get_or counts x 0 + 1) (sym q) in
          omega (
            arith,
            here,
            had,
            all,
            below_next k,
            way-count-same incoming script card k i (along-key s.chain t) (q ∙ is),
          ))
          (λ ne. omega (
            arith,
            get_or-set_other counts kind k (get_or counts kind 0 + 1) 0 ne,
            had,
            all,
            below_next k,
            way-count-kind incoming script card k i (λ q. ne (q ∙ sym is)),
          ))
          (eq-or-ne k kind);
    }
