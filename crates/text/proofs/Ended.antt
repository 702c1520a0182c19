-- What ends a line: one fact for each way out.
use mathlib.Core.Path.{◌≡◌, refl}
use mathlib.Core.Bool.{Bool, true, false, cond}
use mathlib.Core.List.{List, [], ◌∷◌}
use Prim.Native.Nat.{ℕ, zero, suc, ◌-◌, ◌*◌}
use native.Mathlib.Omega.{arith}
use lib.Dec.{eqb}
use borrow.Author.Tests.{eq-eqb, ne_eqb}
use lib.ListN.{length, get_or, take, drop, length-drop}
use lib.Seq.{take_all}
use Rattle.rules.specs.Text.{LF}
use Rattle.text.specs.Line.{decoded, no_line, ended, line_of}
use Rattle.std.specs.Prelude.{None, Some, Ok}

ended_tests : (n : ℕ) (s : List ℕ) → ended n s ≡ cond (eqb (length s) 0) (cond (eqb n 0) (Ok None) no_line) (cond (eqb n 0) no_line (cond (eqb (get_or s 0 0) LF) (Ok (Some n)) no_line))
unfolding ended
ended_tests zero [] = refl
ended_tests zero (c ∷ s) = rw (ne_eqb (suc (length s)) 0 (λ e. omega arith))
ended_tests (suc n) [] = rw (ne_eqb (suc n) 0 (λ e. omega arith))
ended_tests (suc n) (c ∷ s) = rw (ne_eqb (suc (length s)) 0 (λ e. omega arith), ne_eqb (suc n) 0 (λ e. omega arith))

-- After n bytes: nothing, or something; of which the first character is an LF, or not.
module _ (n : ℕ) (s : List ℕ) where
  pub ended_end : length s ≡ 0 → n ≡ 0 → ended n s ≡ Ok None
  ended_end h z = rw (ended_tests, eq-eqb (length s) 0 h, eq-eqb n 0 z)

  pub ended_open : length s ≡ 0 → (n ≡ 0 → ⊥) → ended n s ≡ no_line
  ended_open h z = rw (ended_tests, eq-eqb (length s) 0 h, ne_eqb n 0 z)

  module _ (h : length s ≡ 0 → ⊥) where
    pub ended_empty : n ≡ 0 → ended n s ≡ no_line
    ended_empty z = rw (ended_tests, ne_eqb (length s) 0 h, eq-eqb n 0 z)

    pub ended_line : (n ≡ 0 → ⊥) → get_or s 0 0 ≡ LF → ended n s ≡ Ok (Some n)
    ended_line z f = rw (ended_tests, ne_eqb (length s) 0 h, ne_eqb n 0 z, eq-eqb (get_or s 0 0) LF f)

    pub ended_other : (n ≡ 0 → ⊥) → (get_or s 0 0 ≡ LF → ⊥) → ended n s ≡ no_line
    ended_other z f = rw (ended_tests, ne_eqb (length s) 0 h, ne_eqb n 0 z, ne_eqb (get_or s 0 0) LF f)

-- After the decoded bytes it is the line's end.
pub line_ended : (t : List ℕ) (n : ℕ) → n ≡ length (decoded t) → ended n (take (length t - 2 * n) (drop (2 * n) t)) ≡ line_of t
unfolding line_of
line_ended t n e = rw (take_all (length t - 2 * n) (drop (2 * n) t) (rw (length-drop (2 * n) t) (omega arith)), e)

-- A line has as many bytes as it says.
ended_long : (k n : ℕ) (s : List ℕ) → ended k s ≡ Ok (Some n) → k ≡ n
unfolding ended
ended_long zero n [] e = absurd (let z : ◌≡◌ {A = ℕ} 0 1 = cc in omega arith)
ended_long zero n (c ∷ s) e = absurd (let z : ◌≡◌ {A = ℕ} 0 1 = cc in omega arith)
ended_long (suc k) n [] e = absurd (let z : ◌≡◌ {A = ℕ} 0 1 = cc in omega arith)
ended_long (suc k) n (c ∷ s) e = go (eqb c LF) e
  where
    go : (f : Bool) → cond f (Ok (Some (suc k))) no_line ≡ Ok (Some n) → suc k ≡ n
    go true e = cc
    go false e = absurd (let z : ◌≡◌ {A = ℕ} 0 1 = cc in omega arith)

pub line_long : (t : List ℕ) (n : ℕ) → line_of t ≡ Ok (Some n) → length (decoded t) ≡ n
unfolding line_of
line_long t n e = ended_long (length (decoded t)) n (drop (2 * length (decoded t)) t) e
