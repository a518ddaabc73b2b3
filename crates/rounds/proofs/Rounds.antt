-- The loop of the search backwards: where it stands, whatever the links are by which it strikes.
--   Rounding          the loop's invariant
--   rounds-start      it holds where the queue lists the pairs that are off
--   rounds-few, rounds-tail, rounds-head, rounds-room   sizes
--   Within            the head is within the level of the rounds closed
--   rounds-level      so it is where a round is closed if the head has come to its end
--   rounds-turn       a turn that sweeps all that needs the pair at the head
--   source-asked      what finding the card of the pair at the head asks
--   rounds-done       the queue is used up: the grid and the tally are the answer
-- Assumes nothing.
use mathlib.Core.Path.{◌≡◌, refl, sym, subst, ◌∙◌}
use mathlib.Core.Logic.{⊎_elim}
use mathlib.Core.List.{List}
use Prim.Native.Nat.{ℕ, ◌+◌, ◌-◌, ◌*◌, ◌≤◌, ◌<◌}
use native.Mathlib.Omega.{arith}
use native.Mathlib.Numerals.{add-one}
use lib.ListN.{length, get_or}
use Rattle.words.specs.Sizes.{max_grid}
use Rattle.words.proofs.Bools.{eq-or-ne}
use Rattle.words.proofs.Chains.{last-le}
use Rattle.script.specs.Link.{to_at}
use Rattle.links.specs.Index.{ArrivalsOf}
use Rattle.board.specs.Grid.{on}
use Rattle.board.specs.Machine.{Marks}
use Rattle.board.specs.Listing.{Listed}
use Rattle.board.specs.declared.queue.Queue.{Queue}
use Rattle.board.specs.Work.{work, Room, Swept}
use Rattle.board.proofs.Worklist.{swept-marks}
use Rattle.board.proofs.Search.{Searching, search-start, search-tail, search-round, search-head, search-room}
use Rattle.board.proofs.Search.{search-level, search-turn, search-next, search-done}
use Rattle.typing.specs.Needs.{board_of, Needs, Ready}
use Rattle.typing.proofs.Boards.{pairs-bound, board-inside}
use Rattle.walks.specs.Cards.{Reciprocal}
use Rattle.walks.proofs.Cards.{some-card, place-below}
use Rattle.tally.specs.declared.Tally.{Tally}
use Rattle.tally.specs.Tally.{closed, HeadTally}
use Rattle.rounds.specs.Rounds.{SourceCardAsked, Roomy, Searched, StrikesLeft}
use Rattle.strikes.proofs.Needing.{needing-in}

-- From a grid and a queue that lists what is off in it, the search stands at the head; the tally has the rounds closed.
pub record Rounding (script names : List ℕ) (shapes : ℕ) (grid₀ queue₀ grid : List ℕ) (queue : Queue) (head : ℕ)
    (tally : Tally) : Type 0 where
  pub ready : Ready script names shapes
  pub lent : Roomy script shapes grid₀ queue₀
  pub search : Searching (board_of script names shapes grid₀) (length queue₀) (work grid queue) head
      tally.struck tally.rounds
  pub marks : Marks grid₀ → Marks grid

-- No round is closed yet.
abbrev pub none : Tally
none = record { rounds = 0; struck = 0 }

pub rounds-start : {script names : List ℕ} {shapes : ℕ} {grid : List ℕ} {queue : Queue} → Ready script names shapes
    → Roomy script shapes grid queue.places.now → Listed grid queue.places.now queue.len (length grid)
    → Rounding script names shapes grid queue.places.now grid queue 0 none
rounds-start {grid = grid} {queue = queue} ready lent listed = record {
  ready = ready;
  lent = lent;
  search = search-start grid queue.places.now queue.len lent.full (λ p l. refl) listed;
  marks = λ m. m;
}

module _ {script names : List ℕ} {shapes : ℕ} {grid₀ queue₀ grid : List ℕ} {queue : Queue} {head : ℕ} {tally : Tally}
    (r : Rounding script names shapes grid₀ queue₀ grid queue head tally) where
  -- ---- sizes
  pairs : get_or script 0 0 * shapes ≤ length queue₀
  pairs = omega (arith, r.lent.full, r.lent.room)

  few : get_or script 0 0 * shapes ≤ max_grid
  few = pairs-bound r.ready

  pub rounds-few : tally.rounds ≤ max_grid
  rounds-few = omega (arith, search-round r.search, few)

  pub rounds-tail : (queue.len ≤ length queue.places.now) × (queue.len ≤ length grid₀) × (queue.len ≤ max_grid)
  rounds-tail =
      let all = search-tail r.search in
      (omega (arith, all, r.search.space, pairs), omega (arith, all, r.lent.full), omega (arith, all, few))

  pub rounds-head : head < queue.len → get_or queue.places.now head 0 < get_or script 0 0 * shapes
  rounds-head more = search-head r.search more

  pub rounds-room : Room (work grid queue)
  rounds-room = search-room r.search pairs

  -- ---- a turn
  abbrev pub Within : Tally → Type 0
  Within t = Rounding script names shapes grid₀ queue₀ grid queue head t × (head < t.struck)

  closed-next : head < queue.len → head ≡ tally.struck → Within (closed tally queue.len)
  closed-next more level = (
    record {
      ready = r.ready;
      lent = r.lent;
      search = search-next r.search (board-inside r.ready grid₀) more level;
      marks = r.marks;
    },
    more,
  )

  pub rounds-level : head < queue.len → {t : Tally} → HeadTally tally head queue.len t → Within t
  rounds-level more h = ⊎_elim
      (λ e. subst Within (sym (h.closes e)) (closed-next more e))
      (λ ne. subst Within (sym (h.stays ne)) (r, search-level r.search more ne))
      (eq-or-ne head tally.struck)

  pub rounds-turn : head < tally.struck → {after : List ℕ} {queue-after : Queue}
      → Swept (λ p. Needs script names shapes p (get_or queue.places.now head 0)) (work grid queue)
      (work after queue-after)
      → Rounding script names shapes grid₀ queue₀ after queue-after (head + 1) tally
  rounds-turn inside swept = record {
    ready = r.ready;
    lent = r.lent;
    search = search-turn r.search pairs inside (λ p d. (needing-in r.ready p (get_or queue.places.now head 0) d, d))
        (λ p _ d. d) swept;
    marks = λ m. swept-marks swept (r.marks m);
  }

  -- ---- the end: the round that strikes none is closed like the others
  pub rounds-done : queue.len ≤ head → {t : Tally} → t ≡ closed tally queue.len
      → StrikesLeft script names shapes grid₀ grid t.rounds t.struck
  rounds-done used e = record {
    searched = subst (λ (t : Tally). Searched (board_of script names shapes grid₀) (on grid) t.rounds t.struck)
        (sym e) (record {
          striking = tally.rounds;
          counted = add-one tally.rounds;
          finished = search-done r.search (board-inside r.ready grid₀) used;
        });
    size = r.search.full ∙ sym r.lent.full;
    marks = r.marks;
  }

-- The card of the pair at the head, guessed by the last link to the card of the pair before.
module _ {script names : List ℕ} {shapes factor last q : ℕ} (ready : Ready script names shapes)
    (on-board : q < get_or script 0 0 * shapes) (by : Reciprocal shapes factor) (below : last ≤ get_or script 0 0 -
    1) where
  pub source-asked : {first next : List ℕ} → ArrivalsOf script first next (get_or script 0 0) (get_or script 1 0)
      → SourceCardAsked script first shapes factor last q
  source-asked {first = first} a =
      let some = some-card ready on-board in
      let here : last < length first = omega (arith, some, a.cards-in) in
      record {
        few-cards = ready.few-cards;
        words = ready.words;
        card-in = omega (arith, some);
        heads = here;
        link-in = omega (arith, a.chained.heads last here, last-le (to_at script) last (get_or script 1 0));
        by = by;
        on-board = place-below ready on-board;
      }
