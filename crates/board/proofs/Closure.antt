-- The closure of the bookings: the least set that has them and, with a place, all that it needs.
--   closed-map      more bookings and more needs give more
--   closed-inside   it is on the board
--   flooded-ext     a set that agrees with the closure on the board is the closure
--   flooded-books   and so it is of bookings that are the same
-- Assumes nothing.
use mathlib.Core.Path.{◌≡◌, sym, ◌∙◌}
use mathlib.Core.Bool.{Bool}
use Prim.Native.Nat.{ℕ, ◌<◌}
use Rattle.board.specs.Board.{Board, Inside, Closed, booked, follow, Flooded}
use Rattle.board.proofs.Tally.{tally-ext}

closed-map : {B C : Board} {Book Seat : ℕ → Type 0}
    → ((p : ℕ) → Book p → Seat p) → ((p q : ℕ) → B.Dep p q → C.Dep p q) → {p : ℕ} → Closed B Book p → Closed C Seat p
closed-map f g (booked b) = booked (f _ b)
closed-map f g (follow {p} {q} c d) = follow (closed-map f g c) (g p q d)

pub closed-inside : {B : Board} {Book : ℕ → Type 0} → Inside B → ((p : ℕ) → Book p → p < B.size)
    → {p : ℕ} → Closed B Book p → p < B.size
closed-inside inside books (booked b) = books _ b
closed-inside inside books (follow {p} {q} c d) = inside p q (closed-inside inside books c) d

pub flooded-ext : {B : Board} {Book : ℕ → Type 0} {X Y : ℕ → Bool} {n : ℕ}
    → Inside B → ((p : ℕ) → Book p → p < B.size)
    → ((p : ℕ) → p < B.size → X p ≡ Y p) → Flooded B Book X n → Flooded B Book Y n
flooded-ext {B} {Book} {X} {Y} inside books e f = record {
  has = λ p c. sym (e p (closed-inside inside books c)) ∙ f.has p c;
  only = λ p l t. f.only p l (e p l ∙ t);
  count = f.count ∙ tally-ext X Y B.size e;
}

pub flooded-books : {B : Board} {Book Seat : ℕ → Type 0} {X : ℕ → Bool} {n : ℕ}
    → ((p : ℕ) → Book p → Seat p) → ((p : ℕ) → Seat p → Book p) → Flooded B Book X n → Flooded B Seat X n
flooded-books to from f = record {
  has = λ p c. f.has p (closed-map from (λ q r d. d) c);
  only = λ p l t. closed-map to (λ q r d. d) (f.only p l t);
  count = f.count;
}
