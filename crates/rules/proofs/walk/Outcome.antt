-- Laws of answers: what `>>=` and `test` come to where the first part is known, and what it must have been where the whole is.
use mathlib.Core.Path.{◌≡◌, refl, sym}
use mathlib.Core.Bool.{Bool, true, false}
use Prim.Native.Nat.{ℕ}
use native.Mathlib.Omega.{arith}
use Rattle.rules.specs.Outcome.{Ans, refused, got, test, ◌>>=◌, ◌>>◌}

-- A refusal is no reading.
pub refused_got : {A B : Type 0} {n l o : ℕ} {a : A} → ◌≡◌ {A = Ans A} (refused n l o) (got a) → B
refused_got e = absurd (let z : ◌≡◌ {A = ℕ} 0 1 = cc in omega arith)

-- ---- backwards
pub bind_inv : {A B : Type 0} (m : Ans A) (k : A → Ans B) {b : B} → (m >>= k) ≡ got b → (a : A) × (m ≡ got a) × (k a ≡ got b)
unfolding ◌>>=◌
bind_inv (refused n l o) k e = refused_got e
bind_inv (got a) k e = (a, refl, e)

pub test_inv : {B : Type 0} (c : Bool) (n l o : ℕ) (k : Ans B) {b : B} → (test c n l o >> k) ≡ got b → (c ≡ true) × (k ≡ got b)
unfolding ◌>>◌ test
test_inv true n l o k e = (refl, e)
test_inv false n l o k e = refused_got e

-- Where the first part refuses, its refusal is the whole's.
pub bind_first : {A B : Type 0} (m : Ans A) (k : A → Ans B) {x y z n l o : ℕ} → m ≡ refused x y z → (m >>= k) ≡ refused n l o → m ≡ refused n l o
unfolding ◌>>=◌
bind_first (refused x' y' z') k h e = cc
bind_first (got a) k h e = refused_got (sym h)

-- What ends in `got` refuses only where its first part does.
pub bind_last : {A B : Type 0} (m : Ans A) (f : A → B) {n l o : ℕ} → (m >>= λ a. got (f a)) ≡ refused n l o → m ≡ refused n l o
unfolding ◌>>=◌
bind_last (refused n' l' o') f e = cc
bind_last (got a) f e = refused_got (sym e)

-- A refusal at another offset is not this test's.
pub test_passed : {B : Type 0} (c : Bool) (n l o : ℕ) (k : Ans B) {n' l' o' : ℕ} → (o ≡ o' → ⊥) → (test c n l o >> k) ≡ refused n' l' o' → (c ≡ true) × (k ≡ refused n' l' o')
unfolding ◌>>◌ test
test_passed true n l o k h e = (refl, e)
test_passed false n l o k {o' = o'} h e = absurd (h (let z : o ≡ o' = cc in z))

-- ---- forwards
pub bind_got : {A B : Type 0} {m : Ans A} {a : A} (k : A → Ans B) → m ≡ got a → (m >>= k) ≡ k a
unfolding ◌>>=◌
bind_got k e = rw e

pub bind_refused : {A B : Type 0} {m : Ans A} {n l o : ℕ} (k : A → Ans B) → m ≡ refused n l o → (m >>= k) ≡ refused n l o
unfolding ◌>>=◌
bind_refused k e = rw e

pub test_got : {B : Type 0} {c : Bool} (n l o : ℕ) (k : Ans B) → c ≡ true → (test c n l o >> k) ≡ k
unfolding ◌>>◌ test
test_got n l o k e = rw e

pub test_refused : {B : Type 0} {c : Bool} (n l o : ℕ) (k : Ans B) → c ≡ false → (test c n l o >> k) ≡ refused n l o
unfolding ◌>>◌ test
test_refused n l o k e = rw e

-- ---- two readings that agree where the first part holds are one
pub bind_cong : {A B : Type 0} (m : Ans A) (k k' : A → Ans B) → ((a : A) → m ≡ got a → k a ≡ k' a) → (m >>= k) ≡ (m >>= k')
unfolding ◌>>=◌
bind_cong (refused n l o) k k' h = refl
bind_cong (got a) k k' h = h a refl

-- ---- what stands behind a test, or behind what only names its result, may be put together first
pub test_bind : {A B : Type 0} (c : Bool) (n l o : ℕ) (m : Ans A) (k : A → Ans B) → ((test c n l o >> m) >>= k) ≡ (test c n l o >> (m >>= k))
unfolding ◌>>=◌ ◌>>◌ test
test_bind true n l o m k = refl
test_bind false n l o m k = refl

pub bind_bind : {A B C : Type 0} (m : Ans A) (f : A → B) (k : B → Ans C) → ((m >>= λ a. got (f a)) >>= k) ≡ (m >>= λ a. k (f a))
unfolding ◌>>=◌
bind_bind (refused n l o) f k = refl
bind_bind (got a) f k = refl

pub bind_chain : {A B C : Type 0} (m : Ans A) (f : A → Ans B) (k : B → Ans C) → ((m >>= f) >>= k) ≡ (m >>= λ a. f a >>= k)
unfolding ◌>>=◌
bind_chain (refused n l o) f k = refl
bind_chain (got a) f k = refl
