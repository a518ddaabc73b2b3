-- The numbers that the refusals of an operation have (docs/FORMAT.md, "Refusals"), and 50, which stands apart.
-- TemplateListed, ScriptListed, FitListed, LargestListed, SmallestListed, TidyListed, JudgeListed, PrinterListed
-- Says50    the answer is 50: the bookings cannot be met
-- Assumes nothing.
use Rattle.std.specs.Prelude.{ℕ, ◌≤◌, ◌≡◌, ◌⊎◌, [], ◌∷◌}
use Rattle.words.specs.Said.{Said, refusal}

-- A number from low to high.
abbrev pub FromTo : ℕ → ℕ → ℕ → Type 0
FromTo low high n = (low ≤ n) × (n ≤ high)

-- "Read a template": 1 to 12, and 64.
abbrev pub TemplateListed : ℕ → Type 0
TemplateListed n = FromTo 1 12 n ⊎ (n ≡ 64)

-- "Read a script": the template's, and 20 to 25.
abbrev pub ScriptListed : ℕ → Type 0
ScriptListed n = TemplateListed n ⊎ FromTo 20 25 n

-- "Fit counts": the template's, and 41 to 43.
abbrev pub FitListed : ℕ → Type 0
FitListed n = TemplateListed n ⊎ FromTo 41 43 n

-- "Largest": those of the script, and 40.
abbrev pub LargestListed : ℕ → Type 0
LargestListed n = ScriptListed n ⊎ (n ≡ 40)

-- "Smallest", "Both" and both desks: these, 30 to 33, 65 and 66; 50 stands apart.
abbrev pub SmallestListed : ℕ → Type 0
SmallestListed n = LargestListed n ⊎ FromTo 30 33 n ⊎ FromTo 65 66 n

-- "Tidy": those of the script, 40, and 30 to 33.
abbrev pub TidyListed : ℕ → Type 0
TidyListed n = LargestListed n ⊎ FromTo 30 33 n

-- "Judge": those of the smallest, and 61 to 63.
abbrev pub JudgeListed : ℕ → Type 0
JudgeListed n = SmallestListed n ⊎ FromTo 61 63 n

-- The printer's input: 60.
abbrev pub PrinterListed : ℕ → Type 0
PrinterListed n = n ≡ 60

-- The answer is 50, with a card and a shape: the bookings are turned down.
abbrev pub Says50 : Said → Type 0
Says50 said = (card : ℕ) × (shape : ℕ) × (said ≡ refusal 50 (card ∷ shape ∷ []))
