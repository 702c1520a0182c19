-- Refusals 2, 4 and 3 of a block look at its head alone: whatever a body of the same length holds, they are the same.
use mathlib.Core.Path.{◌≡◌}
use mathlib.Core.Bool.{Bool, true, false}
use mathlib.Core.List.{List}
use Prim.Native.Nat.{ℕ, ◌≤◌}
use native.Mathlib.Omega.{arith}
use lib.ListN.{length}
use lib.Dec.{ltb}
use Rattle.rules.specs.Blocks.{Layout, row, weather, entry}
use Rattle.rules.specs.Outcome.{Ans, refused, got, test, ◌>>=◌, ◌>>◌}
use Rattle.rules.specs.Walk.{Head, fixed, Tag, load, nested, begun, block_at, weather_at, condition_in, fixed_in, row_in, Frame, a_row, a_condition, found}
use Rattle.rules.proofs.walk.Outcome.{bind_refused}
use Rattle.rules.proofs.walk.Refusals.{Refusal, given, weaker, test_refusal, inside_refusal}

-- Where the first is refused with 2, 4 or 3 at offset `at`, so is the second.
pub record ByHead {A : Type 0} (at : ℕ) (m m' : Ans A) : Type 0 where
  pub same : (n l o : ℕ) → n ≤ 4 → o ≡ at → m ≡ refused n l o → m' ≡ refused n l o

-- Any other number, or any other place.
abbrev Elsewhere : ℕ → ℕ → ℕ → ℕ → Type 0
Elsewhere at n l o = n ≤ 4 → o ≡ at → ⊥

elsewhere : {A : Type 0} {at : ℕ} {m m' : Ans A} → Refusal (Elsewhere at) m → ByHead at m m'
elsewhere h = record { same = λ n l o p q e. absurd (h.holds n l o e p q) }

-- A test that comes to the same in both.
pub test_by_head : {A : Type 0} {at : ℕ} (c : Bool) (n l o : ℕ) (k k' : Ans A) → ByHead at k k' → ByHead at (test c n l o >> k) (test c n l o >> k')
unfolding ◌>>◌ test
test_by_head true n l o k k' h = h
test_by_head false n l o k k' h = record { same = λ n l o p q e. e }

-- A first part that comes to the same in both; and one that is light, behind which nothing is.
bind_by_head : {A B : Type 0} {at : ℕ} (m : Ans A) (k k' : A → Ans B) → ((a : A) → ByHead at (k a) (k' a)) → ByHead at (m >>= k) (m >>= k')
unfolding ◌>>=◌
bind_by_head (refused n l o) k k' h = record { same = λ n l o p q e. e }
bind_by_head (got a) k k' h = h a

first_by_head : {A B : Type 0} {at : ℕ} (m m' : Ans A) (k k' : A → Ans B) → ByHead at m m' → ((a : A) → Refusal (Elsewhere at) (k a)) → ByHead at (m >>= k) (m' >>= k')
unfolding ◌>>=◌
first_by_head (refused n l o) m' k k' h g = record { same = λ n' l' o' p q e. bind_refused k' (h.same n' l' o' p q cc) }
first_by_head (got a) m' k k' h g = elsewhere (g a)

module _ (ln : ℕ) where
  fixed_by_head : {A : Type 0} (L : Layout A) (room : Bool) (at : ℕ) (body body' : List ℕ) → length body ≡ length body' → ByHead at (fixed ln L room at body) (fixed ln L room at body')
  unfolding fixed
  fixed_by_head L room at body body' e = rw e (test_by_head _ _ _ _ _ _ (elsewhere (test_refusal _ _ _ _ _ (λ p. omega arith) (test_refusal _ _ _ _ _ (λ p. omega arith) given))))

  pub block_by_head : (d n at t : ℕ) (body body' : List ℕ) → length body ≡ length body' → ByHead at (block_at ln d n at t body) (block_at ln d n at t body')
  unfolding block_at begun
  block_by_head d n at t body body' e = bind_by_head _ _ _ go
    where
      go : (x : Tag) → ByHead at (begun ln d n at body x) (begun ln d n at body' x)
      go (load k) = first_by_head _ _ _ _ (fixed_by_head (entry k) (ltb 0 n) at body body' e) (λ v. given)
      go nested = elsewhere (test_refusal _ _ _ _ _ (λ p. omega arith) (test_refusal _ _ _ _ _ (λ p. omega arith) given))

  pub weather_by_head : (t : ℕ) (body body' : List ℕ) → length body ≡ length body' → ByHead 3 (weather_at ln t body) (weather_at ln t body')
  unfolding weather_at
  weather_by_head t body body' e = bind_by_head _ _ _ (λ s. first_by_head _ _ _ _ (fixed_by_head (weather s) true 3 body body' e) (λ v. given))

  -- A frame.
  module _ (h h' : Head) (p : length h.body ≡ length h'.body) (q : length h.rest ≡ length h'.rest) where
    pub fixed_in_by_head : {A : Type 0} (L : Layout A) → ByHead 0 (fixed_in ln L h) (fixed_in ln L h')
    unfolding fixed_in
    fixed_in_by_head L = rw q (test_by_head _ _ _ _ _ _ (fixed_by_head L true 0 h.body h'.body p))

    pub found_by_head : (k w : ℕ) (t : Frame) → ByHead 0 (found ln k w h t) (found ln k w h' t)
    unfolding found row_in condition_in
    found_by_head k w a_row = test_by_head _ _ _ _ _ _ (first_by_head _ _ _ _ (first_by_head _ _ _ _ (fixed_in_by_head row) (λ v. test_refusal _ _ _ _ _ (λ p. omega arith) (test_refusal _ _ _ _ _ (λ p. omega arith) given))) (λ v. given))
    found_by_head k w a_condition = rw q (test_by_head _ _ _ _ _ _ (first_by_head _ _ _ _ (test_by_head _ _ _ _ _ _ (elsewhere (test_refusal _ _ _ _ _ (λ p. omega arith) (weaker (λ n l o x y z. omega (arith, x.3 y)) (inside_refusal ln h.body))))) (λ c. given)))
