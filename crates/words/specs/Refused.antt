-- The format's number of each case of the enum `Fault`, and what a refusal says (docs/FORMAT.md, "Operations").
-- number      the number of a fault
-- refused     what a refusal says: number and place
-- said_by     what an answer says: what its value says, or the refusal
-- read_as     the reading that an answer stands for
-- Assumes nothing.
use Rattle.std.specs.Prelude.{ℕ, [], ◌∷◌, Result, Ok, Err}
use Rattle.words.specs.Said.{Said, refusal}
use Rattle.words.specs.Reading.{Reading, accepted, turned_down}
use Rattle.words.specs.declared.refusal.Fault.{Fault}
use Rattle.words.specs.declared.refusal.Refusal.{Refusal}

abbrev pub number : Fault → ℕ
number Fault.TemplateLength = 1
number Fault.KindCount = 2
number Fault.ShapeCount = 3
number Fault.MissingWord = 4
number Fault.UnknownCode = 5
number Fault.Depth = 6
number Fault.UnknownKind = 7
number Fault.RepeatedKind = 8
number Fault.UnknownShape = 9
number Fault.LinkLimits = 10
number Fault.GroupSize = 11
number Fault.WordsLeft = 12
number Fault.ScriptLength = 20
number Fault.CardCount = 21
number Fault.LinkCount = 22
number Fault.LinkCard = 23
number Fault.LinkKind = 24
number Fault.LinkOrder = 25
number Fault.ListLength = 30
number Fault.BookingCount = 31
number Fault.BookedCard = 32
number Fault.BookedShape = 33
number Fault.BufferLength = 40
number Fault.CountsLength = 41
number Fault.CountedShape = 42
number Fault.CountRange = 43
number Fault.InputLength = 60
number Fault.GridByte = 61
number Fault.UnheldBooking = 63
number Fault.OpenInside = 64
number Fault.RepeatedBooking = 65
number Fault.UnknownDesk = 66

-- Its number, and its place.
abbrev pub refused : Refusal → Said
refused r = refusal (number r.0) (r.1 ∷ [])

abbrev pub said_by : {A : Type 0} → (A → Said) → Result A Refusal → Said
said_by said (Ok a) = said a
said_by said (Err r) = refused r

-- What was read, or the refusal's number and place.
abbrev pub read_as : {A : Type 0} → Result A Refusal → Reading A
read_as (Ok a) = accepted a
read_as (Err r) = turned_down (number r.0) r.1
