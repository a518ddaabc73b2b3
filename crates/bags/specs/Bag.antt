-- Bags of (label, shape) and the bags of a part (docs/FORMAT.md, "Bags and counts"; section 2.1 of the paper).
--   Bag, ∅, _⊕_, copies      a bag, the empty one, the sum of two, n of one (label, shape)
--   Language                 a set of bags; EmptyBag, Union, Sums, Power, Star, Plus, Copies are those of 2.1
--   Bags                     the bags of a part
--   Fits                     counts are those of a bag of the part
--   count                    the count of a label in a list of counts
-- Assumes nothing.
use Rattle.std.specs.Prelude.{ℕ, zero, suc, ◌+◌, ◌≤◌, ◌≡◌, ◌⊎◌, Bool, true, false, List, get_or, eqb}
use Rattle.bags.specs.Part.{Limit, at_most, no-limit, Part, nothing, star, plus, optional, choice, all, link}
use Rattle.bags.specs.Part.{Parts, none, more}

-- How many times each (label, shape) is there.
abbrev pub Bag : Type 0
Bag = ℕ → ℕ → ℕ

-- The empty bag.
abbrev pub ∅ : Bag
∅ k s = 0

-- The sum of two bags.
infixl 65 ◌⊕◌
abbrev pub ◌⊕◌ : Bag → Bag → Bag
◌⊕◌ x y k s = x k s + y k s

-- n where the test says yes, else 0.
abbrev pub when : Bool → ℕ → ℕ
when true n = n
when false n = 0

-- n copies of (label, shape).
abbrev pub copies : ℕ → ℕ → ℕ → Bag
copies n label shape k s = when (eqb k label) (when (eqb s shape) n)

-- A set of bags.
abbrev pub Language : Type 1
Language = Bag → Type 0

-- No bag at all.
abbrev pub NoBag : Language
NoBag b = ⊥

-- Only the empty bag: that of nothing.
abbrev pub EmptyBag : Language
EmptyBag b = b ≡ ∅

-- A bag of one of the two.
abbrev pub Union : Language → Language → Language
Union A B b = A b ⊎ B b

-- Sums of one bag from each.
abbrev pub Sums : Language → Language → Language
Sums A B b = (x : Bag) × (y : Bag) × A x × B y × (b ≡ x ⊕ y)

-- Sums of i bags of L.
abbrev pub Power : Language → ℕ → Language
Power L zero = EmptyBag
Power L (suc i) = Sums L (Power L i)

-- Sums of zero or more bags of L.
abbrev pub Star : Language → Language
Star L b = (i : ℕ) × Power L i b

-- Sums of one or more bags of L.
abbrev pub Plus : Language → Language
Plus L b = (i : ℕ) × (1 ≤ i) × Power L i b

-- n is at most the high of a link.
abbrev pub Under : ℕ → Limit → Type 0
Under n (at_most high) = n ≤ high
Under n no-limit = Unit {0}

-- A link takes n times (label, shape), for each n from its low to its high.
abbrev pub Copies : ℕ → ℕ → ℕ → Limit → Language
Copies label shape low high b = (n : ℕ) × (low ≤ n) × Under n high × (b ≡ copies n label shape)

-- The bags that a part takes: a choice those of any of its parts, all a bag of each put together, star any number of
-- its part's bags, plus one or more; optional by definition those of the run of nothing and the part.
abbrev mutual
  pub Bags : Part → Language
  Bags nothing = EmptyBag
  Bags (star p) = Star (Bags p)
  Bags (plus p) = Plus (Bags p)
  Bags (optional p) = Union EmptyBag (Union (Bags p) NoBag)
  Bags (choice ps) = BagsOfOne ps
  Bags (all ps) = BagsOfEach ps
  Bags (link label shape low high) = Copies label shape low high

  pub BagsOfOne : Parts → Language
  BagsOfOne none = NoBag
  BagsOfOne (more p ps) = Union (Bags p) (BagsOfOne ps)

  pub BagsOfEach : Parts → Language
  BagsOfEach none = EmptyBag
  BagsOfEach (more p ps) = Sums (Bags p) (BagsOfEach ps)

-- f 0 + .. + f (n - 1).
abbrev pub sum_below : ℕ → (ℕ → ℕ) → ℕ
sum_below zero f = 0
sum_below (suc n) f = sum_below n f + f n

-- How many (k, _) a bag has in all, over the shapes below S.
abbrev pub total : ℕ → Bag → ℕ → ℕ
total S b k = sum_below S (b k)

-- Counts fit a part that takes a bag with these counts. A label that the part does not name counts 0 in each of them.
abbrev pub Fits : ℕ → Part → (ℕ → ℕ) → Type 0
Fits S p counts = (b : Bag) × Bags p b × ((k : ℕ) → total S b k ≡ counts k)

-- The count of the label k in a list of counts, 0 past its end.
abbrev pub count : List ℕ → ℕ → ℕ
count xs k = get_or xs k 0
