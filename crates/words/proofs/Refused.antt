-- Laws of the numbers of faults and of what a refusal says.
--   number-unique    different faults have different numbers
--   refused-unique   what a refusal says tells the refusal
--   said-by-unique   what an answer says tells the answer, where a value's words tell the value and are no refusal
-- Assumes nothing.
use mathlib.Core.Path.{◌≡◌, refl, sym, ap, ◌∙◌}
use mathlib.Core.Bool.{cond}
use Prim.Native.Nat.{ℕ}
use lib.Dec.{eqb}
use Rattle.std.specs.Prelude.{Result, Ok, Err}
use Rattle.words.specs.Said.{Said}
use Rattle.words.specs.Refused.{number, refused, said_by}
use Rattle.words.specs.declared.refusal.Fault.{Fault}
use Rattle.words.specs.declared.refusal.Refusal.{Refusal}
use Rattle.words.proofs.Said.{refusal-number, refusal-place}

-- The fault of a number: the first of them where there is none.
abbrev fault_of : ℕ → Fault
fault_of n =
    cond (eqb n 2) Fault.KindCount (
    cond (eqb n 3) Fault.ShapeCount (
    cond (eqb n 4) Fault.MissingWord (
    cond (eqb n 5) Fault.UnknownCode (
    cond (eqb n 6) Fault.Depth (
    cond (eqb n 7) Fault.UnknownKind (
    cond (eqb n 8) Fault.RepeatedKind (
    cond (eqb n 9) Fault.UnknownShape (
    cond (eqb n 10) Fault.LinkLimits (
    cond (eqb n 11) Fault.GroupSize (
    cond (eqb n 12) Fault.WordsLeft (
    cond (eqb n 20) Fault.ScriptLength (
    cond (eqb n 21) Fault.CardCount (
    cond (eqb n 22) Fault.LinkCount (
    cond (eqb n 23) Fault.LinkCard (
    cond (eqb n 24) Fault.LinkKind (
    cond (eqb n 25) Fault.LinkOrder (
    cond (eqb n 30) Fault.ListLength (
    cond (eqb n 31) Fault.BookingCount (
    cond (eqb n 32) Fault.BookedCard (
    cond (eqb n 33) Fault.BookedShape (
    cond (eqb n 40) Fault.BufferLength (
    cond (eqb n 41) Fault.CountsLength (
    cond (eqb n 42) Fault.CountedShape (
    cond (eqb n 43) Fault.CountRange (
    cond (eqb n 60) Fault.InputLength (
    cond (eqb n 61) Fault.GridByte (
    cond (eqb n 63) Fault.UnheldBooking (
    cond (eqb n 64) Fault.OpenInside (
    cond (eqb n 65) Fault.RepeatedBooking (
    cond (eqb n 66) Fault.UnknownDesk (
    Fault.TemplateLength)))))))))))))))))))))))))))))))

fault-of-number : (f : Fault) → fault_of (number f) ≡ f
fault-of-number Fault.TemplateLength = refl
fault-of-number Fault.KindCount = refl
fault-of-number Fault.ShapeCount = refl
fault-of-number Fault.MissingWord = refl
fault-of-number Fault.UnknownCode = refl
fault-of-number Fault.Depth = refl
fault-of-number Fault.UnknownKind = refl
fault-of-number Fault.RepeatedKind = refl
fault-of-number Fault.UnknownShape = refl
fault-of-number Fault.LinkLimits = refl
fault-of-number Fault.GroupSize = refl
fault-of-number Fault.WordsLeft = refl
fault-of-number Fault.ScriptLength = refl
fault-of-number Fault.CardCount = refl
fault-of-number Fault.LinkCount = refl
fault-of-number Fault.LinkCard = refl
fault-of-number Fault.LinkKind = refl
fault-of-number Fault.LinkOrder = refl
fault-of-number Fault.ListLength = refl
fault-of-number Fault.BookingCount = refl
fault-of-number Fault.BookedCard = refl
fault-of-number Fault.BookedShape = refl
fault-of-number Fault.BufferLength = refl
fault-of-number Fault.CountsLength = refl
fault-of-number Fault.CountedShape = refl
fault-of-number Fault.CountRange = refl
fault-of-number Fault.InputLength = refl
fault-of-number Fault.GridByte = refl
fault-of-number Fault.UnheldBooking = refl
fault-of-number Fault.OpenInside = refl
fault-of-number Fault.RepeatedBooking = refl
fault-of-number Fault.UnknownDesk = refl

pub number-unique : (f g : Fault) → number f ≡ number g → f ≡ g
number-unique f g e = sym (fault-of-number f) ∙ ap fault_of e ∙ fault-of-number g

same-refusal : {a b : Refusal} → a.0 ≡ b.0 → a.1 ≡ b.1 → a ≡ b
same-refusal {a} {b} e f =
    ap (λ (x : Fault). record { 0 = x; 1 = a.1 }) e ∙ ap (λ (x : ℕ). record { 0 = b.0; 1 = x }) f

pub refused-unique : (a b : Refusal) → refused a ≡ refused b → a ≡ b
refused-unique a b e =
    let at = refusal-place e in
    same-refusal (number-unique a.0 b.0 (refusal-number e)) cc

pub said-by-unique :
    {A : Type 0} (said : A → Said) → ((a b : A) → said a ≡ said b → a ≡ b) →
    ((a : A) (r : Refusal) → said a ≡ refused r → ⊥) → (x y : Result A Refusal) →
    said_by said x ≡ said_by said y → x ≡ y
said-by-unique said same apart (Ok a) (Ok b) e = ap Ok (same a b e)
said-by-unique said same apart (Ok a) (Err r) e = absurd (apart a r e)
said-by-unique said same apart (Err r) (Ok b) e = absurd (apart b r (sym e))
said-by-unique said same apart (Err r) (Err s) e = ap Err (refused-unique r s e)
