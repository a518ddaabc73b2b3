-- The three demands on one page: what is promised of every call, over plain lists of words and bytes. proofs/Demands
-- proves each. The code of a call is proved to meet the `…Says` relation of its operation (the crates that the README's
-- table of operations names): on every input, without any premise, with its end reached and nothing undefined on the
-- way. What follows is said of every answer that such a relation allows. What is promised of grids that are judged, of
-- the two desks, of lists that are tidied and of pairs struck one at a time stands on the pages JudgedGrids,
-- ApartDesks, TidiedLists and SingleStrikes.
--
-- From the crates below, each defined there in a few lines:
--   Said                  what is said: values, or a refusal with its number and its place
--   Reading               accepted with what was read, or turned_down with a refusal's number and place
--   read_template, read_with, read_sheet, read_bookings, read_stored, fit_question, read_input, largest_reading,
--   smallest_reading, both_reading, desks_reading, tidy_reading
--                         the tests of docs/FORMAT.md in their order, a line each: the first that finds a fault turns
--                         down. read_with is of a script with its template, read_sheet of both, read_stored of a
--                         stored list, the last five of a call
--   template_says, script_says, FitSays, LargestSays, SmallestSays, BothSays, DesksSays, JudgeSays, TidySays
--                         what each operation may say and write; the judge of grids reads as the call for the
--                         smallest does, and writes nothing
--   card_links, links_start the words that "Links of a card" gives, and the word of the script at which they start.
--                         card_words: the words of a card's links
--   Template, Sheet       what is read of a template; of a template and a script. opens: whether a shape is open.
--                         part_of: the part of a shape. neighbours_of: the labels and far cards of a card's links, from
--                         either end, that a shape looks at. size: how many pairs there are
--   card_counts           the counts of a card's links: for each kind those from it, then for each kind those to it
--   listed, seen          such a list as counts of labels; of counts those that a shape looks at, and 0 else
--   Fits                  2.1: some bag of a part has just these counts
--   Pairs, Has, on        a set of pairs of a card and a shape, by their places in a grid; it has a pair; the set of a
--                         grid: where its byte is 1. place: the place of a pair
--   Typing, SoundTyping   a grid of zeros and ones of the right length; a sound one
--   Booked                some booking of the desk is of the card and the shape
--   Holds, Below          a set has every booking; a set is in another
--   Largest, bare_cards   docs/FORMAT.md, "Largest": from every pair, r rounds of which the last strikes nothing and no
--                         other, with m pairs struck in all, lead to the set X; how many cards have some link and
--                         no shape
--   IsClosure, tally      "Smallest": a set is the closure of the bookings; how many pairs a set has
--   Bag, Bags, total      2.1: a bag of (label, shape), the bags of a part, how many of a label a bag has
--   InputFormed, write_input   the limits of the printer's input, and the bytes of what keeps them
--
-- From the pages before this one: what is well-formed (Formed), and the numbers that an operation refuses with
-- (Listed).
--
-- Here:
--   FirstDemand                         faults get their refusals, and nothing else is refused
--   Neighbourhood, RuleTwo, Belong, SecondDemand   the bag language and sound typings are the paper's
--   LargestTyping, TwoTypings, ThirdDemand   the largest typing, and with it the smallest
-- Assumes nothing.
use Rattle.std.specs.Prelude.{ℕ, ◌+◌, ◌*◌, ◌≤◌, ◌<◌, ◌≡◌, ◌⊎◌, ◌↔◌, true, false, List, [], ◌∷◌, length, get_or, take}
use Rattle.std.specs.Prelude.{drop, replicate}
use Rattle.words.specs.Limits.{max_count}
use Rattle.words.specs.Said.{Said, values, refusal}
use Rattle.words.specs.Reading.{accepted, turned_down}
use Rattle.bags.specs.Part.{Part, Names}
use Rattle.bags.specs.Bag.{Bag, Bags, total, Fits}
use Rattle.bags.specs.Look.{seen, listed}
use Rattle.bags.specs.Proposition.{label_count}
use Rattle.bags.proofs.Adequate.{Flattened}
use Rattle.template.specs.Template.{opens, Template, read_template, template_says}
use Rattle.script.specs.Link.{card_words}
use Rattle.links.specs.Counts.{card_counts}
use Rattle.script.specs.Script.{read_with, script_says, card_links, links_start}
use Rattle.sheet.specs.Sheet.{Sheet, part_of, opens_of, neighbours_of, place, size, read_sheet}
use Rattle.bookings.specs.Bookings.{read_bookings, Booked}
use Rattle.stored.specs.Stored.{read_stored}
use Rattle.counts.specs.Fit.{fit_question, FitSays}
use Rattle.board.specs.Grid.{on, tally}
use Rattle.typing.specs.Typing.{Pairs, Has, Below, Holds, Typing, SoundTyping}
use Rattle.typing.specs.Largest.{Largest, bare_cards}
use Rattle.typing.specs.Smallest.{IsClosure}
use Rattle.typing.specs.Answer.{BothSaid, DesksSaid}
use Rattle.typing.specs.Calls.{Grids, largest_reading, smallest_reading, both_reading, LargestSays, SmallestSays}
use Rattle.typing.specs.Calls.{BothSays}
use Rattle.typing.specs.Desks.{DeskGrids, desks_reading, DesksSays}
use Rattle.typing.specs.Judge.{JudgeSays}
use Rattle.typing.specs.Tidy.{tidy_reading, TidySays}
use Rattle.input.specs.Input.{Input, read_input}
use Rattle.input.specs.Writer.{write_input, InputFormed, Bytes}
use Rattle.demands.specs.Formed.{FormedTemplate, Formed, BookingsFormed, StoredFormed}
use Rattle.demands.specs.Listed.{FromTo, TemplateListed, ScriptListed, FitListed, LargestListed, SmallestListed}
use Rattle.demands.specs.Listed.{TidyListed, JudgeListed, PrinterListed, Says50}

-- ================ the first demand
-- What breaks a limit or a layout rule gets the refusal of the first fault that the format lists, and no lent buffer
-- changes. What breaks none is not refused, but for 50, and a grid that is judged for 61 to 63.
pub record FirstDemand : Type 0 where
  -- ---- nothing is refused exactly where all is well-formed
  -- a template is read exactly if its words are those of a well-formed one,
  pub template-exact : (template : List ℕ) (t : Template) → (read_template template ≡ accepted t)
      ↔ FormedTemplate template t
  -- with a script exactly if the script is well-formed too,
  pub sheet-exact : (template script : List ℕ) (s : Sheet)
      → (read_sheet template script ≡ accepted s) ↔ Formed template script s
  -- with bookings exactly if these are too,
  pub bookings-exact : (cards shapes : ℕ) (bookings : List ℕ)
      → ((n : ℕ) × (read_bookings cards shapes bookings ≡ accepted n)) ↔ BookingsFormed cards shapes bookings
  pub stored_exact : (cards shapes : ℕ) (bookings : List ℕ)
      → ((n : ℕ) × (read_stored cards shapes bookings ≡ accepted n)) ↔ StoredFormed cards shapes bookings
  -- and with grids exactly if each has a byte for each pair, for desks 0 and 1
  pub largest-takes : (template script grid : List ℕ) (s : Sheet)
      → (largest_reading template script grid ≡ accepted s) ↔ (Formed template script s × (length grid ≡ size s))
  pub smallest-takes : (template script bookings : List ℕ) (desk : ℕ) (grid : List ℕ) (s : Sheet)
      → (smallest_reading template script bookings desk grid ≡ accepted s)
      ↔ (Formed template script s × BookingsFormed s.cards s.shapes bookings × (desk ≤ 1)
      × (length grid ≡ size s))
  pub both-takes : (template script bookings : List ℕ) (desk : ℕ) (grids : Grids) (s : Sheet)
      → (both_reading template script bookings desk grids ≡ accepted s)
      ↔ (Formed template script s × BookingsFormed s.cards s.shapes bookings × (desk ≤ 1)
      × (length grids.small ≡ size s) × (length grids.large ≡ size s))
  pub desks-takes : (template script bookings : List ℕ) (grids : DeskGrids) (s : Sheet)
      → (desks_reading template script bookings grids ≡ accepted s)
      ↔ (Formed template script s × BookingsFormed s.cards s.shapes bookings
      × (length grids.radio ≡ size s) × (length grids.television ≡ size s) × (length grids.large ≡ size s))
  -- a stored list is tidied exactly if it is well-formed, and the buffer has a word and three for each booking
  pub tidy-takes : (template script bookings out : List ℕ) (s : Sheet)
      → (tidy_reading template script bookings out ≡ accepted s)
      ↔ (Formed template script s × StoredFormed s.cards s.shapes bookings
      × (length out ≡ 1 + 3 * get_or bookings 0 0))
  -- the printer's bytes are taken exactly if they are those of three lists of words, with their counts, that are within
  -- the limits
  pub input-exact : (bytes : List ℕ) → Bytes bytes → (i : Input)
      → (read_input bytes ≡ accepted i) ↔ (InputFormed i × (bytes ≡ write_input i))
  -- ---- the first fault is said, and no grid and no buffer changes
  pub template-first : (template : List ℕ) (number at : ℕ) → read_template template ≡ turned_down number at
      → template_says template ≡ refusal number (at ∷ [])
  pub script-first : (template script : List ℕ) (number at : ℕ) → read_with template script ≡ turned_down number at
      → script_says template script ≡ refusal number (at ∷ [])
  pub largest-first : (template script before after : List ℕ) (said : Said) (number at : ℕ)
      → largest_reading template script before ≡ turned_down number at → LargestSays template script before after said
      → (said ≡ refusal number (at ∷ [])) × (after ≡ before)
  pub smallest-first : (template script bookings : List ℕ) (desk : ℕ) (before after : List ℕ) (said : Said)
      (number at : ℕ) → smallest_reading template script bookings desk before ≡ turned_down number at
      → SmallestSays template script bookings desk before after said
      → (said ≡ refusal number (at ∷ [])) × (after ≡ before)
  pub both_first : (template script bookings : List ℕ) (desk : ℕ) (before after : Grids) (said : BothSaid)
      (number at : ℕ) → both_reading template script bookings desk before ≡ turned_down number at
      → BothSays template script bookings desk before after said
      → (said.largest ≡ refusal number (at ∷ [])) × (said.smallest ≡ refusal number (at ∷ [])) × (after ≡ before)
  pub desks-first : (template script bookings : List ℕ) (before after : DeskGrids) (said : DesksSaid)
      (number at : ℕ) → desks_reading template script bookings before ≡ turned_down number at
      → DesksSays template script bookings before after said
      → (said.largest ≡ refusal number (at ∷ [])) × (said.radio ≡ refusal number (at ∷ []))
      × (said.television ≡ refusal number (at ∷ [])) × (after ≡ before)
  pub judge-first : (template script bookings : List ℕ) (desk : ℕ) (grid : List ℕ) (said : Said) (number at : ℕ)
      → smallest_reading template script bookings desk grid ≡ turned_down number at
      → JudgeSays template script bookings desk grid said → said ≡ refusal number (at ∷ [])
  pub tidy-first : (template script bookings before after : List ℕ) (said : Said) (number at : ℕ)
      → tidy_reading template script bookings before ≡ turned_down number at
      → TidySays template script bookings before after said
      → (said ≡ refusal number (at ∷ [])) × (after ≡ before)
  pub fit-first : (template : List ℕ) (shape : ℕ) (counts : List ℕ) (said : Said) (number at : ℕ)
      → fit_question template shape counts ≡ turned_down number at → FitSays template shape counts said
      → said ≡ refusal number (at ∷ [])
  -- ---- where all is well-formed, nothing but 50 is refused, and by the judge nothing but 61 to 63
  -- of a template its counts of kinds and of shapes are said, of a script those of cards and of links
  pub template-accepts : (template : List ℕ) (t : Template) → FormedTemplate template t
      → template_says template ≡ values (t.kinds ∷ t.shapes ∷ [])
  pub script-accepts : (template script : List ℕ) (s : Sheet) → Formed template script s
      → script_says template script ≡ values (s.cards ∷ s.links ∷ [])
  pub largest-accepts : (template script before after : List ℕ) (said : Said) (s : Sheet)
      → Formed template script s → length before ≡ size s → LargestSays template script before after said
      → (rounds : ℕ) × (struck : ℕ) × (bare : ℕ) × (said ≡ values (rounds ∷ struck ∷ bare ∷ []))
  pub smallest-accepts : (template script bookings : List ℕ) (desk : ℕ) (before after : List ℕ) (said : Said)
      (s : Sheet) → Formed template script s → BookingsFormed s.cards s.shapes bookings → desk ≤ 1
      → length before ≡ size s → SmallestSays template script bookings desk before after said
      → ((pairs : ℕ) × (said ≡ values (pairs ∷ []))) ⊎ Says50 said
  pub judge-accepts : (template script bookings : List ℕ) (desk : ℕ) (grid : List ℕ) (said : Said) (s : Sheet)
      → Formed template script s → BookingsFormed s.cards s.shapes bookings → desk ≤ 1 → length grid ≡ size s
      → JudgeSays template script bookings desk grid said
      → (said ≡ values []) ⊎ ((number : ℕ) × (at : List ℕ) × FromTo 61 63 number × (said ≡ refusal number at))
  pub tidy-accepts : (template script bookings before after : List ℕ) (said : Said) (s : Sheet)
      → Formed template script s → StoredFormed s.cards s.shapes bookings
      → length before ≡ 1 + 3 * get_or bookings 0 0
      → TidySays template script bookings before after said → (words : ℕ) × (said ≡ values (words ∷ []))
  -- ---- the links of a card are none where template or script is refused or there is no such card; else they are the
  -- words of the links that start at it, which stand side by side in the script
  pub links-refused : (template script : List ℕ) (card number at : ℕ)
      → read_with template script ≡ turned_down number at
      → card_links template script card ≡ []
  pub links-past : (template script : List ℕ) (s : Sheet) → Formed template script s
      → (card : ℕ) → s.cards ≤ card → card_links template script card ≡ []
  pub links-exact : (template script : List ℕ) (s : Sheet) → Formed template script s
      → (card : ℕ) → card < s.cards → let links = card_links template script card in
      (links ≡ card_words script card s.links)
      × (links ≡ take (length links) (drop (links_start template script card) script))
  -- ---- a refusal is a listed one, and but for 50 no grid and no buffer changes
  pub template-listed : (template : List ℕ) (number : ℕ) (at : List ℕ) → template_says template ≡ refusal number at
      → TemplateListed number
  pub script-listed : (template script : List ℕ) (number : ℕ) (at : List ℕ)
      → script_says template script ≡ refusal number at
      → ScriptListed number
  pub fit-listed : (template : List ℕ) (shape : ℕ) (counts : List ℕ) (number : ℕ) (at : List ℕ)
      → FitSays template shape counts (refusal number at) → FitListed number
  pub largest-listed : (template script before after : List ℕ) (number : ℕ) (at : List ℕ)
      → LargestSays template script before after (refusal number at) → LargestListed number × (after ≡ before)
  -- 50 leaves a grid of zeros
  pub smallest-listed : (template script bookings : List ℕ) (desk : ℕ) (before after : List ℕ) (number : ℕ)
      (at : List ℕ) → SmallestSays template script bookings desk before after (refusal number at)
      → (SmallestListed number × (after ≡ before)) ⊎ ((number ≡ 50) × (after ≡ replicate (length before) 0))
  pub both-listed : (template script bookings : List ℕ) (desk : ℕ) (before after : Grids) (said : BothSaid)
      → BothSays template script bookings desk before after said → (number : ℕ) (at : List ℕ)
      → ((said.largest ≡ refusal number at) → SmallestListed number × (after ≡ before))
      × ((said.smallest ≡ refusal number at) → (SmallestListed number × (after ≡ before))
      ⊎ ((number ≡ 50) × (after.small ≡ replicate (length before.small) 0)))
  pub desks-listed : (template script bookings : List ℕ) (before after : DeskGrids) (said : DesksSaid)
      → DesksSays template script bookings before after said → (number : ℕ) (at : List ℕ)
      → ((said.largest ≡ refusal number at) → SmallestListed number × (after ≡ before))
      × ((said.radio ≡ refusal number at) → (SmallestListed number × (after ≡ before))
      ⊎ ((number ≡ 50) × (after.radio ≡ replicate (length before.radio) 0)))
      × ((said.television ≡ refusal number at) → (SmallestListed number × (after ≡ before))
      ⊎ ((number ≡ 50) × (after.television ≡ replicate (length before.television) 0)))
  pub judge-listed : (template script bookings : List ℕ) (desk : ℕ) (grid : List ℕ) (number : ℕ) (at : List ℕ)
      → JudgeSays template script bookings desk grid (refusal number at) → JudgeListed number
  pub tidy-listed : (template script bookings before after : List ℕ) (number : ℕ) (at : List ℕ)
      → TidySays template script bookings before after (refusal number at) → TidyListed number × (after ≡ before)
  pub printer-listed : (bytes : List ℕ) (number at : ℕ)
      → read_input bytes ≡ turned_down number at → PrinterListed number

-- ================ the second demand
-- The paper's expression for what a card's links may count as under a typing (3.2): for each link one of the shapes
-- that the far card has, each as (label, shape); `Flattened` are the bags of that expression.
abbrev pub Neighbourhood : Sheet → Pairs → ℕ → ℕ → Bag → Type 0
Neighbourhood s X n t b = Flattened s.shapes (Has s X) (neighbours_of s n t) b

-- Rule 2: where the typing gives a card a shape, the expression and the shape's part have a bag in common.
abbrev pub RuleTwo : Sheet → Pairs → Type 0
RuleTwo s X = (n t : ℕ) → n < s.cards → t < s.shapes → Has s X n t
    → (b : Bag) × Neighbourhood s X n t b × Bags (part_of s t) b

-- Counts of links belong to the bag language of a shape: some bag of the shape's part has, over all shapes, just so
-- many of each label that the shape looks at, and none of the others. `Bags` is the bag language of section 2.1.
abbrev pub Belong : List ℕ → Template → ℕ → List ℕ → Type 0
Belong template t shape counts =
    let part = get_or t.parts shape Part.nothing in
    (b : Bag) × Bags part b
    × ((k : ℕ) → total t.shapes b k ≡ seen (opens template shape) part (listed t.kinds counts) k)

pub record SecondDemand : Type 0 where
  -- Asked of a shape of a well-formed template, and a count of at most 8,192 for each kind each way, "Fit counts" says
  -- 1 exactly where the counts belong to the shape's bag language, and else 0.
  pub counts-fit : (template : List ℕ) (t : Template) → FormedTemplate template t
      → (shape : ℕ) → shape < t.shapes
      → (counts : List ℕ) → length counts ≡ 2 * t.kinds → ((k : ℕ) → get_or counts k 0 ≤ max_count)
      → (said : Said) → FitSays template shape counts said
      → ((said ≡ values (1 ∷ [])) ↔ Belong template t shape counts)
      × ((said ≡ values (0 ∷ [])) ↔ (Belong template t shape counts → ⊥))
  -- Of an open shape it says 1 exactly where some bag of the part has so many of each label that the part names.
  pub open-fit : (template : List ℕ) (t : Template) → FormedTemplate template t
      → (shape : ℕ) → shape < t.shapes → opens template shape ≡ true
      → (counts : List ℕ) → length counts ≡ 2 * t.kinds → ((k : ℕ) → get_or counts k 0 ≤ max_count)
      → (said : Said) → FitSays template shape counts said
      → let part = get_or t.parts shape Part.nothing in
      (said ≡ values (1 ∷ []))
      ↔ ((b : Bag) × Bags part b × ((k : ℕ) → Names part k → total t.shapes b k ≡ listed t.kinds counts k))
  -- Of a card and a shape of a well-formed sheet: the neighbours that the shape looks at count as the card's own counts
  -- do, and "Fit counts" says 1 of these exactly where the neighbours' counts are those of a bag of the shape.
  pub card-fits : (template script : List ℕ) (s : Sheet) (formed : Formed template script s)
      → (n t : ℕ) → n < s.cards → t < s.shapes
      → let counts = card_counts s.script n s.links formed.kinds in
      ((k : ℕ) → label_count (neighbours_of s n t) k ≡ seen (opens_of s t) (part_of s t) (listed formed.kinds counts) k)
      × ((said : Said) → FitSays template t counts said
      → (said ≡ values (1 ∷ [])) ↔ Fits s.shapes (part_of s t) (label_count (neighbours_of s n t)))
  -- A grid is a sound typing exactly where it is a typing that meets rule 2.
  pub sound-typing : (s : Sheet) (grid : List ℕ) → SoundTyping s grid ↔ (Typing s grid × RuleTwo s (on grid))

-- ================ the third demand
-- The grid of "Largest" and what was said of it, with or without bookings.
pub record LargestTyping (s : Sheet) (large : List ℕ) (said : Said) : Type 0 where
  -- the grid is a sound typing, and every sound typing is in it
  pub sound : SoundTyping s large
  pub over : (h : List ℕ) → SoundTyping s h → Below s (on h) (on large)
  -- a card has no shape in it exactly if no sound typing gives the card one
  pub shapeless : (n : ℕ) → n < s.cards
      → ((t : ℕ) → t < s.shapes → on large (place s n t) ≡ false)
      ↔ ((h : List ℕ) → SoundTyping s h → (t : ℕ) → t < s.shapes → on h (place s n t) ≡ false)
  -- rounds, strikes and cards with some link and no shape are those that the definition by rounds counts, and it does
  -- count some
  pub numbers : (r m : ℕ) (X : Pairs) → Largest s r m X → said ≡ values (r ∷ m ∷ bare_cards s X ∷ [])
  pub some-numbers : (r : ℕ) × (m : ℕ) × (X : Pairs) × Largest s r m X
  -- there is at most one round more than there are strikes
  pub bound : (rounds struck bare : ℕ) → said ≡ values (rounds ∷ struck ∷ bare ∷ []) → rounds ≤ struck + 1

-- The grids of "Largest" and "Smallest" for a desk, and what was said of its bookings: those are the bookings here.
pub record TwoTypings (s : Sheet) (bookings : List ℕ) (desk : ℕ) (large small : List ℕ) (said : Said) : Type 0 where
  -- the bookings are turned down exactly if no sound typing has them all
  pub turned_down : Says50 said ↔ ((h : List ℕ) → SoundTyping s h → Holds s (Booked bookings desk) (on h) → ⊥)
  -- where they are not, both grids are sound typings that have the bookings,
  pub small-sound : (Says50 said → ⊥) → SoundTyping s small × Holds s (Booked bookings desk) (on small)
  pub large-sound : (Says50 said → ⊥) → SoundTyping s large × Holds s (Booked bookings desk) (on large)
  -- and each sound typing that has them lies between the two
  pub between : (Says50 said → ⊥) → (h : List ℕ) → SoundTyping s h → Holds s (Booked bookings desk) (on h)
      → Below s (on small) (on h) × Below s (on h) (on large)
  -- the pairs that are counted are those of the closure of the bookings, and there is one
  pub pairs : (Says50 said → ⊥) → (X : Pairs) → IsClosure s (Booked bookings desk) X
      → said ≡ values (tally X (size s) ∷ [])
  pub some_pairs : (X : Pairs) × IsClosure s (Booked bookings desk) X

-- For every well-formed template, script and list of bookings, either desk, and grids of the right size whatever their
-- bytes were:
pub record ThirdDemand : Type 0 where
  -- of the call for the largest,
  pub largest : (template script : List ℕ) (s : Sheet) → Formed template script s
      → (before : List ℕ) → length before ≡ size s → (large : List ℕ) (said : Said)
      → LargestSays template script before large said
      → LargestTyping s large said
  -- of this and the call for the smallest,
  pub smallest : (template script bookings : List ℕ) (desk : ℕ) (s : Sheet) → Formed template script s
      → BookingsFormed s.cards s.shapes bookings → desk ≤ 1
      → (large-before small-before : List ℕ) → length large-before ≡ size s → length small-before ≡ size s
      → (large small : List ℕ) (of-large of-small : Said)
      → LargestSays template script large-before large of-large
      → SmallestSays template script bookings desk small-before small of-small
      → TwoTypings s bookings desk large small of-small
  -- of the one call for both,
  pub both : (template script bookings : List ℕ) (desk : ℕ) (s : Sheet) → Formed template script s
      → BookingsFormed s.cards s.shapes bookings → desk ≤ 1
      → (before after : Grids) → length before.large ≡ size s → length before.small ≡ size s
      → (said : BothSaid) → BothSays template script bookings desk before after said
      → LargestTyping s after.large said.largest
      × TwoTypings s bookings desk after.large after.small said.smallest
  -- and of the one call for both desks
  pub desks : (template script bookings : List ℕ) (s : Sheet) → Formed template script s
      → BookingsFormed s.cards s.shapes bookings
      → (before after : DeskGrids) → length before.radio ≡ size s → length before.television ≡ size s
      → length before.large ≡ size s
      → (said : DesksSaid) → DesksSays template script bookings before after said
      → LargestTyping s after.large said.largest
      × TwoTypings s bookings 0 after.large after.radio said.radio
      × TwoTypings s bookings 1 after.large after.television said.television
