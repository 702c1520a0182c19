-- What a reading comes to: a refusal with its number, line and offset, or what was read. 'The first fault met ends the reading.'
use Rattle.std.specs.Prelude.{Bool, true, false, ℕ, ◌≤◌, ◌≢◌}

infixl 20 ◌>>=◌
infixl 20 ◌>>◌
pub data Ans (A : Type 0) : Type 0 where
  refused : (number line offset : ℕ) → Ans A
  got : A → Ans A

-- First m, then with what it gave the rest; a refusal ends it.
unfoldable pub ◌>>=◌ : {A B : Type 0} → Ans A → (A → Ans B) → Ans B
refused n l o >>= k = refused n l o
got a >>= k = k a

-- A test, and the refusal where it fails.
unfoldable pub test : Bool → ℕ → ℕ → ℕ → Ans (Unit {0})
test true n l o = got tt
test false n l o = refused n l o

unfoldable pub ◌>>◌ : {A B : Type 0} → Ans A → Ans B → Ans B
unfolding ◌>>=◌
m >> k = m >>= λ u. k

-- 'Demand 3 reads 1 to 6 and 10' (request 4): the numbers of a text that is not read.
abbrev pub Unread : ℕ → Type 0
Unread n = (1 ≤ n) × (n ≤ 10) × (n ≢ 7) × (n ≢ 8) × (n ≢ 9)
