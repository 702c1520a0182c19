-- A line of which the front is held: the front is the whole of it, or as many bytes as a row has, and begins as it does.
use mathlib.Core.Path.{◌≡◌, refl, ap, sym, ◌∙◌}
use mathlib.Core.Bool.{Bool, true, false, ◌&&◌}
use mathlib.Core.Logic.{◌⊎◌, inl, inr}
use mathlib.Core.List.{List, [], ◌∷◌}
use Prim.Native.Nat.{ℕ, ◌≤◌, ◌<◌, min}
use native.Mathlib.Omega.{arith}
use lib.Dec.{leb, eqb}
use lib.ListN.{length, get_or, take}
use lib.Seq.{take_all, length-take-le}
use borrow.Author.Tests.{leb-true, leb-false, lt-leb}
use Rattle.std.specs.Prelude.{Err}
use Rattle.rules.specs.Layout.{fewest_rows, is_condition}
use Rattle.rules.specs.Outcome.{Ans, refused, got, ◌>>=◌}
use Rattle.rules.specs.Walk as walk
use Rattle.rules.specs.Walk.{header, ship_frame, closed}
use Rattle.rules.specs.Booklet.{row_at}
use Rattle.rules.specs.Parts.{be2}
use Rattle.rules.proofs.walk.Outcome.{bind_got, bind_refused}
use Rattle.book.specs.Book.{fault_number, refusal, Refuses, answered, plain_ship, plain_row}
use Rattle.book.specs.declared.Refusal.{Refusal}
use Rattle.book.specs.declared.Ship.{Ship}
use Rattle.book.proofs.Faults.{fault_number_lem}
use Rattle.frames.specs.Sizes.{row_bytes}
use Rattle.frames.specs.FrameAnswers.{ship_due, row_due, none_due, long_line}
use Rattle.frames.proofs.LongLines.{long_ship, long_row, long_closed}
use Rattle.reading.specs.Fronts.{Cut, Fronts, misplaced}
use Rattle.reading.specs.Moved.{moved_conditions}
use Rattle.reading.specs.declared.state.State.TheVariants.{Conditions, Refused}

-- The first bytes of a line are those of its front.
take_first : (l : List ℕ) → get_or (take row_bytes l) 0 0 ≡ get_or l 0 0
unfolding row_bytes
take_first [] = refl
take_first (a ∷ l) = refl

take_length : (l : List ℕ) → be2 (take row_bytes l) 1 ≡ be2 l 1
unfolding row_bytes
take_length [] = refl
take_length (a ∷ []) = refl
take_length (a ∷ b ∷ []) = refl
take_length (a ∷ b ∷ c ∷ l) = refl

-- No condition line in its place.
pub not_in_place : (l : List ℕ) (k : ℕ) (b : Bool) → b ≡ is_condition l → ((b ≡ true) × (k < fewest_rows)) ⊎ (b ≡ false) → (is_condition l && leb fewest_rows k) ≡ false
not_in_place l k b e (inl p) = rw (← e, p.0) (lt-leb fewest_rows k p.1)
not_in_place l k b e (inr p) = rw (← e, p)

-- What a buffer of a row's bytes holds of a line is such a front.
module _ (l out : List ℕ) (n : ℕ) where
  pub front_held : length l ≡ n → take (min n row_bytes) out ≡ take (min n row_bytes) l → Fronts (take (min n row_bytes) out) n l
  front_held long h = record { long = long; held = h ∙ go (leb n row_bytes) refl }
    where
      go : (b : Bool) → leb n row_bytes ≡ b → take (min n row_bytes) l ≡ take row_bytes l
      go true p = let k = leb-true n row_bytes p in take_all (min n row_bytes) l (omega arith) ∙ sym (take_all row_bytes l (omega arith))
      go false p = let k = leb-false n row_bytes p in let z : min n row_bytes ≡ row_bytes = omega arith in ap (λ m. take m l) z

pub held_cut : (out : List ℕ) (n : ℕ) → length out ≡ row_bytes → Cut (take (min n row_bytes) out) n
held_cut out n h = λ k. let q = length-take-le (min n row_bytes) out (omega arith) in omega arith

-- A misplaced line is refused as a frame after the condition's is.
closed_misplaced : (ln : ℕ) (l : List ℕ) (r : Refusal) → Refuses (closed ln (l ∷ [])) r → misplaced ln (header ln 0 l) ≡ r
unfolding closed
closed_misplaced ln l r e = go (header ln 0 l) e
  where
    same : (a b c : ℕ) → ◌≡◌ {A = Ans (Unit {0})} (refused a b c) (refused (fault_number r.fault) r.place.line r.place.offset) → refusal a b c ≡ r
    same a b c e =
        let p : a ≡ fault_number r.fault = cc in
        let q : b ≡ r.place.line = cc in
        let s : c ≡ r.place.offset = cc in
        rw (p, q, s, fault_number_lem r.fault)

    go : (m : Ans walk.Head) → ◌≡◌ {A = Ans (Unit {0})} (m >>= λ h. refused 4 ln 0) (refused (fault_number r.fault) r.place.line r.place.offset) → misplaced ln m ≡ r
    go (refused a b c) e = same a b c (sym (bind_refused _ refl) ∙ e)
    go (got h) e = same 4 ln 0 (sym (bind_got _ refl) ∙ e)

module _ (front : List ℕ) (n : ℕ) (l : List ℕ) (F : Fronts front n l) where
  pub begins_alike : is_condition front ≡ is_condition l
  begins_alike = ap (λ s. is_condition s) F.held ∙ ap (λ b. eqb b 0xA3) (take_first l)

  -- Nothing is left out ..
  pub front_whole : n ≤ length front → front ≡ l
  front_whole h = F.held ∙ go (leb (length l) row_bytes) refl
    where
      go : (b : Bool) → leb (length l) row_bytes ≡ b → take row_bytes l ≡ l
      go true p = take_all row_bytes l (leb-true (length l) row_bytes p)
      go false p =
          let k = leb-false (length l) row_bytes p in
          absurd (omega (arith, F.long, ap length F.held, length-take-le row_bytes l (omega arith)))

  -- .. or more than a ship or a row has.
  pub front_cut : length front < n → row_bytes < length l
  front_cut h = go (leb (length l) row_bytes) refl
    where
      go : (b : Bool) → leb (length l) row_bytes ≡ b → row_bytes < length l
      go true p = let k = ap length (take_all row_bytes l (leb-true (length l) row_bytes p)) in absurd (omega (arith, F.long, ap length F.held))
      go false p = leb-false (length l) row_bytes p

  -- So the head says the same.
  pub long_alike : (ln : ℕ) (due : ℕ → Bool) → long_line due ln front n ≡ long_line due ln l (length l)
  long_alike ln due = rw (F.held, take_first l, take_length l, F.long)

  -- Where the ship is due, a row, or neither.
  module _ (ln : ℕ) (h : length front < n) (r : Refusal) where
    pub ship_long : r ≡ long_line ship_due ln front n → Err r ≡ answered plain_ship (ship_frame ln l)
    ship_long e = ap Err (e ∙ long_alike ln ship_due) ∙ sym (long_ship ln l (front_cut h))

    pub row_long : (k p : ℕ) → r ≡ long_line (row_due k) ln front n → Err r ≡ answered plain_row (row_at ln k p l)
    row_long k p e = ap Err (e ∙ long_alike ln (row_due k)) ∙ sym (long_row ln l k p (front_cut h))

    pub misplaced_long : r ≡ long_line none_due ln front n → r ≡ misplaced ln (header ln 0 l)
    misplaced_long e = sym (closed_misplaced ln l r (rw (e, long_alike ln none_due) (long_closed ln l [])))

-- ---- behind a condition line
pub one_more_line : (s : Ship) (ln : ℕ) (l : List ℕ) → is_condition l ≡ true → Conditions s ≡ moved_conditions s ln l
one_more_line s ln l e = rw e

pub other_line : (s : Ship) (ln : ℕ) (l : List ℕ) (r : Refusal) → is_condition l ≡ false → r ≡ misplaced ln (header ln 0 l) → Refused r ≡ moved_conditions s ln l
other_line s ln l r e m = rw (e, m)
