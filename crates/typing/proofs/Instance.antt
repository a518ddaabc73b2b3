-- The board of a template's table of names, a script and a grid of fits stands for their sheet.
--   FitsGrid     a grid is 1 just where a card's counts fit a shape
--   counts_of     how many neighbours a card has of each label; none-past: none of an outgoing one past the kinds
--   fits-counted the test of these says whether what a shape looks at fits it; fits-grid: and the grid of these tests
--   entry-exact  an entry of the table is the shape declared
--   ready        a template and a script that are read are ready to be searched
--   represents   the board stands for the sheet
-- Assumes nothing.
use Prim.Native.Nat.{ℕ, zero, suc, ◌*◌, ◌≤◌, ◌<◌}
use mathlib.Core.Path.{◌≡◌, refl, sym, ap, ◌∙◌, subst, fun_ext}
use mathlib.Core.Logic.{◌↔◌}
use mathlib.Core.Bool.{true}
use mathlib.Core.List.{List, Memᴰ}
use native.Mathlib.Omega.{arith}
use lib.ListN.{length, get_or}
use Rattle.words.specs.Limits.{max_kinds, max_labels}
use Rattle.bags.specs.Label.{Way, outgoing, incoming}
use Rattle.bags.specs.Part.{Names, Declares}
use Rattle.bags.specs.Bag.{Fits}
use Rattle.bags.specs.Look.{seen}
use Rattle.bags.specs.Interval.{fits}
use Rattle.bags.specs.Choice.{to}
use Rattle.bags.specs.Proposition.{label_count}
use Rattle.bags.proofs.Naming.{names-dec, names-declares, declares-names, declares-below, declares-unique}
use Rattle.bags.proofs.Naming.{named-exact}
use Rattle.bags.proofs.Exact.{fits-exact}
use Rattle.bags.proofs.Looking.{looks-named, looked-exact, looked-count}
use Rattle.bags.proofs.Decide.{fits-decided}
use Rattle.bags.proofs.Choosing.{met-exact}
use Rattle.template.specs.Machine.{Tabled, entry_at}
use Rattle.script.specs.Link.{kind_at, near_at, label_at, far_at, neighbours}
use Rattle.script.proofs.Neighbours.{neighbours-exact, label-none}
use Rattle.board.specs.Grid.{on}
use Rattle.board.specs.Board.{Lawful}
use Rattle.typing.specs.Needs.{Needs, met_test, board_of, Ready}
use Rattle.words.proofs.Places.{card-of, shape_of}
use Rattle.typing.proofs.Boards.{board-lawful}
use Rattle.sheet.specs.Sheet.{Sheet, part_of, opens_of, neighbours_of, place}
use Rattle.typing.specs.Typing.{Pairs, Has, Met}
use Rattle.sheet.proofs.Accepted.{SheetAccepted}
use Rattle.typing.proofs.Represents.{Follows, Represents}
use Rattle.typing.proofs.Neighbours.{targets_of, targets-at, label-counted}

-- A grid is 1 just where the counts of the links of a card that a shape looks at fit it.
abbrev pub FitsGrid : Sheet → List ℕ → Type 0
FitsGrid s grid = (n t : ℕ) → n < s.cards → t < s.shapes
    → (on grid (place s n t) ≡ true) ↔ Fits s.shapes (part_of s t) (label_count (neighbours_of s n t))

-- How many neighbours card n has of each label.
abbrev pub counts_of : Sheet → ℕ → ℕ → ℕ
counts_of s n k = label_count (neighbours s.script n s.links) k

module _ {words : List ℕ} {kinds : ℕ} {s : Sheet} (read : SheetAccepted words kinds s) where
  -- ---- counts
  pub kind-in : (i : ℕ) → i < s.links → kind_at s.script i < max_kinds
  kind-in i l = omega (arith, read.links.kind-below i l, read.shapes.kinds-high)

  -- no link has a kind that is none of the template's
  pub none-past : (n k : ℕ) → kinds ≤ k → k < max_kinds → counts_of s n k ≡ 0
  none-past n k past few =
      label-none s.script n k s.links few (λ i l e. omega (arith, read.links.kind-below i l, e))

  fits-counted : (n t : ℕ) → t < s.shapes
      → (fits (opens_of s t) kinds (part_of s t) (counts_of s n) ≡ true)
      ↔ Fits s.shapes (part_of s t) (label_count (neighbours_of s n t))
  fits-counted n t lt =
      let p = part_of s t in
      let o = opens_of s t in
      let same : label_count (neighbours_of s n t) ≡ seen o p (counts_of s n) =
      fun_ext (looked-count o p (neighbours s.script n s.links)) in
      let decided = fits-decided o p (counts_of s n) kinds read.shapes.kinds-high (none-past n) s.shapes
      (read.shapes.single t lt) (read.shapes.shapes-below t lt) in (
        λ e. subst (λ (w : ℕ → ℕ). Fits s.shapes p w) (sym same) (decided.1 e),
        λ f. decided.0 (subst (λ (w : ℕ → ℕ). Fits s.shapes p w) same f),
      )

  pub fits-grid : (grid : List ℕ) → ((n t : ℕ) → n < s.cards → t < s.shapes
      → on grid (place s n t) ≡ fits (opens_of s t) kinds (part_of s t) (counts_of s n))
      → FitsGrid s grid
  fits-grid grid tested n t ln lt =
      let here = tested n t ln lt in
      let exact = fits-counted n t lt in
      (λ e. exact.0 (sym here ∙ e), λ f. here ∙ exact.1 f)

  -- the counts fit, so the part names the label of each neighbour
  neighbour-declared : (n t name card : ℕ) → t < s.shapes
      → Fits s.shapes (part_of s t) (label_count (neighbours_of s n t))
      → Memᴰ (to name card) (neighbours_of s n t) → (u : ℕ) × Declares (part_of s t) name u
  neighbour-declared n t name card lt f m = by_name (names-dec (part_of s t) name)
    where
      by_name : Dec (Names (part_of s t) name) → (u : ℕ) × Declares (part_of s t) name u
      by_name (yes h) = names-declares (part_of s t) name h
      by_name (no h) =
          let exact = fits-exact s.shapes (part_of s t) (label_count (neighbours_of s n t))
          (read.shapes.single t lt) (read.shapes.shapes-below t lt) in
          absurd (omega (arith, (exact.0 f).1 name h, label-counted (neighbours_of s n t) name card m))

  -- ---- the table
  label-in : (way : Way) (i : ℕ) → i < s.links → label_at way s.script i < max_labels
  label-in outgoing i l = omega (arith, kind-in i l)
  label-in incoming i l = omega (arith, kind-in i l)

  near-in : (way : Way) (i : ℕ) → i < s.links → near_at way s.script i < s.cards
  near-in outgoing i l = read.links.from-below i l
  near-in incoming i l = read.links.to_below i l

  far-in : (way : Way) (i : ℕ) → i < s.links → far_at way s.script i < s.cards
  far-in outgoing i l = read.links.to_below i l
  far-in incoming i l = read.links.from-below i l

  -- the script's own count of links
  links-below : {i : ℕ} → i < get_or s.script 1 0 → i < s.links
  links-below {i} l = subst (λ (x : ℕ). i < x) (sym read.links.links) l

  module _ (names : List ℕ) (table : Tabled s.parts names) where
    entry-exact : (t k u : ℕ) → t < s.shapes → k < max_labels
        → (entry_at names t k ≡ suc u) ↔ Declares (part_of s t) k u
    entry-exact t k u lt lk =
        let here = table t k (omega (arith, read.shapes.trees-length)) lk in
        let exact = named-exact (part_of s t) (read.shapes.single t lt) k u in
        (λ e. exact.0 (sym here ∙ e), λ d. here ∙ exact.1 d)

    entry_in : (t k : ℕ) → t < s.shapes → k < max_labels → entry_at names t k ≤ s.shapes
    entry_in t k lt lk = bounded (entry_at names t k) refl
      where
        bounded : (e : ℕ) → entry_at names t k ≡ e → e ≤ s.shapes
        bounded zero e = omega arith
        bounded (suc u) e =
            declares-below s.shapes (part_of s t) (read.shapes.shapes-below t lt) k u ((entry-exact t k u lt lk).0 e)

    pub ready : s.shapes * max_labels ≤ length names → Ready s.script names s.shapes
    ready room = record {
      one-shape = read.shapes.shapes-low;
      few-shapes = read.shapes.shapes-high;
      few-cards = omega (arith, read.links.cards, read.links.cards-bound);
      few-links = omega (arith, read.links.links, read.links.links-bound);
      words = omega (arith, read.links.links, read.links.size);
      near-in = λ way i l. omega (arith, near-in way i (links-below l), read.links.cards);
      label-in = λ way i l. label-in way i (links-below l);
      far-in = λ way i l. omega (arith, far-in way i (links-below l), read.links.cards);
      table = room;
      entry_in = entry_in;
    }

    -- ---- what a pair needs
    needs-follows : (n t q : ℕ) → t < s.shapes → Needs s.script names s.shapes (place s n t) q → Follows s n t q
    needs-follows n t q lt d =
        let l = links-below d.below in
        let k = label_at d.way s.script d.link in
        record {
          way = d.way;
          link = d.link;
          shape = d.shape;
          below = l;
          starts = d.starts ∙ card-of s.shapes read.shapes.shapes-low n t lt;
          declares = (entry-exact t k d.shape lt (label-in d.way d.link l)).0
              (ap (λ (x : ℕ). entry_at names x k)
              (sym (shape_of s.shapes read.shapes.shapes-low n t lt)) ∙ d.names-it);
          leads = d.leads;
        }

    follows-needs : (n t q : ℕ) → t < s.shapes → Follows s n t q → Needs s.script names s.shapes (place s n t) q
    follows-needs n t q lt f =
        let k = label_at f.way s.script f.link in
        record {
          way = f.way;
          link = f.link;
          below = subst (λ (x : ℕ). f.link < x) read.links.links f.below;
          starts = f.starts ∙ sym (card-of s.shapes read.shapes.shapes-low n t lt);
          shape = f.shape;
          names-it = ap (λ (x : ℕ). entry_at names x k) (shape_of s.shapes read.shapes.shapes-low n t lt)
              ∙ (entry-exact t k f.shape lt (label-in f.way f.link f.below)).1 f.declares;
          leads = f.leads;
        }

    -- ---- Proposition 8.1 on the board
    module _ (room : s.shapes * max_labels ≤ length names) (grid : List ℕ) (right : FitsGrid s grid) where
      abbrev law : Lawful (board_of s.script names s.shapes grid)
      law = board-lawful (ready room) grid

      test-met : (X : Pairs) (n t : ℕ) → n < s.cards → t < s.shapes
          → met_test s.script names s.shapes grid X (place s n t) ≡ true → Met s X n t
      test-met X n t ln lt e =
          let f = (right n t ln lt).0 (law.met-ok X (place s n t) e) in
          (met-exact s.shapes (Has s X) (neighbours_of s n t) (part_of s t) (read.shapes.single t lt)
          (read.shapes.shapes-below t lt)).1 (
            f,
            targets_of (Has s X) (part_of s t) (neighbours_of s n t) (λ name card m.
                let (u, d) = neighbour-declared n t name card lt f m in
                let looked = looked-exact (opens_of s t) (part_of s t) name card (neighbours s.script n s.links) in
                let l = (neighbours-exact s.script n name card s.links).0 (looked.0 m).0 in (
                  u,
                  d,
                  law.met-dep X (place s n t) (place s card u) e (follows-needs n t (place s card u) lt (record {
                    way = l.way;
                    link = l.link;
                    shape = u;
                    below = l.below;
                    starts = l.near-is;
                    declares = subst (λ (k : ℕ). Declares (part_of s t) k u) (sym l.label_is) d;
                    leads = ap (λ (x : ℕ). place s x u) (sym l.far-is);
                  })),
                )),
          )

      met-test : (X : Pairs) (n t : ℕ) → n < s.cards → t < s.shapes
          → Met s X n t → met_test s.script names s.shapes grid X (place s n t) ≡ true
      met-test X n t ln lt m =
          let (f, targets) = (met-exact s.shapes (Has s X) (neighbours_of s n t) (part_of s t)
          (read.shapes.single t lt) (read.shapes.shapes-below t lt)).0 m in
          law.met_of X (place s n t) ((right n t ln lt).1 f) (λ q d.
          let w = needs-follows n t q lt d in
          let k = label_at w.way s.script w.link in
          let there = far_at w.way s.script w.link in
          let all = neighbours s.script n s.links in
          let led = (neighbours-exact s.script n k there s.links).1 (record {
            way = w.way;
            link = w.link;
            below = w.below;
            near-is = w.starts;
            label_is = refl;
            far-is = refl;
          }) in
          let named = looks-named (opens_of s t) (part_of s t) k
          (declares-names (part_of s t) k w.shape w.declares) in
          let (u, declares, has) = targets-at (Has s X) (part_of s t) (neighbours_of s n t) targets k there
          ((looked-exact (opens_of s t) (part_of s t) k there all).1 (led, named)) in
          let same = declares-unique (part_of s t) (read.shapes.single t lt) k u w.shape declares w.declares in
          subst (λ (x : ℕ). X x ≡ true) (ap (λ (x : ℕ). place s there x) same ∙ sym w.leads) has)

      pub represents : Represents s (board_of s.script names s.shapes grid)
      represents = record {
        sized = ap (λ (x : ℕ). x * s.shapes) (sym read.links.cards);
        one-shape = read.shapes.shapes-low;
        lawful = law;
        met-exact = λ X n t ln lt. (test-met X n t ln lt, met-test X n t ln lt);
        needs-exact = λ n t q ln lt. (needs-follows n t q lt, follows-needs n t q lt);
        target-in = far-in;
        declared-in = λ t k u lt d.
            declares-below s.shapes (part_of s t) (read.shapes.shapes-below t lt) k u d;
      }
