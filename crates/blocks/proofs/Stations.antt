-- The thirteen KN values of a row: read, and tested one by one.
use mathlib.Core.Path.{◌≡◌, refl, ap, sym, ◌∙◌}
use mathlib.Core.Bool.{Bool, true, false, ◌&&◌}
use mathlib.Core.List.{List, [], ◌∷◌}
use Prim.Native.Nat.{ℕ, zero, suc, ◌+◌, ◌*◌, ◌≤◌}
use native.Mathlib.Omega.{arith}
use native.Mathlib.Numerals.{add-one}
use lib.ListN.{length, get_or, set, replicate, take, drop}
use lib.Dec.{leb, eqb}
use borrow.Author.Tests.{le-leb, lt-leb, ne_eqb}
use Rattle.std.specs.Prelude.{Option, Some, None}
use Rattle.std.specs.Borrow.{Bor}
use Rattle.std.specs.List.{list_all, IsSubsliceAt}
use Rattle.std.specs.Bool.{MatchBool}
use Rattle.std.specs.Option.{IfSome, IsSomeAnd, option_map}
use Rattle.std.specs.Iterator.Runs.{Run, IsWindowsRun, AllItems, AnyItem}
use Rattle.rules.specs.Numbers.{num}
use Rattle.rules.specs.Blocks.{Field, field, within, values, row, unbent, smooth}
use Rattle.rules.specs.Parts.{values_at}
use Rattle.rules.proofs.layout.Parts.{values_at_lem}

abbrev lever : Field
lever = field 2 0 30_000

same_limits : (n : ℕ) (xs : List ℕ) → length xs ≡ n → within (replicate n lever) xs ≡ list_all (λ x. leb x 30_000) xs
unfolding within
same_limits zero [] h = refl
same_limits zero (x ∷ xs) h = absurd (omega arith)
same_limits (suc n) [] h = absurd (omega arith)
same_limits (suc n) (x ∷ xs) h = rw (le-leb 0 x (omega arith), same_limits n xs (omega arith))

-- The first is 0, and so within the limits of the others.
pub levers_within : (kn : List ℕ) → length kn ≡ 13 → within (field 2 0 0 ∷ replicate 12 lever) kn ≡ (eqb (get_or kn 0 0) 0 && list_all (λ x. leb x 30_000) kn)
unfolding within
levers_within [] h = absurd (omega arith)
levers_within (zero ∷ xs) h = same_limits 12 xs (omega arith)
levers_within (suc x ∷ xs) h = rw (le-leb 0 (suc x) (omega arith), lt-leb (suc x) 0 (omega arith), ne_eqb (suc x) 0 (λ e. omega arith))

-- Three values side by side, from place k on, of which the middle one is not bent.
abbrev pub straight : List ℕ → ℕ → Bool
straight kn k = unbent (get_or kn k 0) (get_or kn (suc k) 0) (get_or kn (suc (suc k)) 0)

and_false : (b : Bool) → (b && false) ≡ false
and_false true = refl
and_false false = refl

smooth_all : (kn : List ℕ) → ((k : ℕ) → k + 3 ≤ length kn → straight kn k ≡ true) → smooth kn ≡ true
unfolding smooth
smooth_all [] h = refl
smooth_all (a ∷ []) h = refl
smooth_all (a ∷ x ∷ []) h = refl
smooth_all (a ∷ x ∷ b ∷ s) h = rw (h 0 (omega arith), smooth_all (x ∷ b ∷ s) (λ k l. h (suc k) (omega arith)))

smooth_any : (kn : List ℕ) (k : ℕ) → k + 3 ≤ length kn → straight kn k ≡ false → smooth kn ≡ false
unfolding smooth
smooth_any [] k l e = absurd (omega arith)
smooth_any (a ∷ []) k l e = absurd (omega arith)
smooth_any (a ∷ x ∷ []) k l e = absurd (omega arith)
smooth_any (a ∷ x ∷ b ∷ s) zero l e = rw e
smooth_any (a ∷ x ∷ b ∷ s) (suc k) l e = rw (smooth_any (x ∷ b ∷ s) k (omega arith) e) (and_false (unbent a x b))

-- Of a window the three values are those of the row at its place.
at_window : (kn w : List ℕ) (k : ℕ) → IsSubsliceAt 3 kn k w → unbent (get_or w 0 0) (get_or w 1 0) (get_or w 2 0) ≡ straight kn k
at_window kn w k h =
    let p : k + 0 ≡ k = omega arith in
    let q : k + 1 ≡ suc k = omega arith in
    let r : k + 2 ≡ suc (suc k) = omega arith in
    let a : get_or w 0 0 ≡ get_or kn k 0 = h.2 0 0 (omega arith) ∙ ap (λ i. get_or kn i 0) p in
    let x : get_or w 1 0 ≡ get_or kn (suc k) 0 = h.2 1 0 (omega arith) ∙ ap (λ i. get_or kn i 0) q in
    let b : get_or w 2 0 ≡ get_or kn (suc (suc k)) 0 = h.2 2 0 (omega arith) ∙ ap (λ i. get_or kn i 0) r in
    λ i. unbent (a i) (x i) (b i)

-- What is said of the window at a place, if there is one.
abbrev At : List ℕ → ℕ → Option (Bor (List ℕ)) → Type 0
At kn k o = IfSome o (λ x. (length x.now ≡ 3) × (k + 3 ≤ length kn) × IsSubsliceAt 3 kn k x.now)

-- Whether the window's three values are straight.
abbrev pub Bends : (Bor (List ℕ) → Type 0) → Bool → Type 0
Bends C b = (x : Bor (List ℕ)) → C x → unbent (get_or x.now 0 0) (get_or x.now 1 0) (get_or x.now 2 0) ≡ b

module _ (kn : List ℕ) (k : ℕ) {C : Bor (List ℕ) → Type 0} where
  all_at : (o : Option (Bor (List ℕ))) → Bends C true → option_map (λ x. get_or x.now 0 0) o ≡ Some (get_or kn k 0) → At kn k o → IfSome o C → straight kn k ≡ true
  all_at None h e a b = absurd (let z : ◌≡◌ {A = ℕ} 0 1 = cc in omega arith)
  all_at (Some x) h e a b = sym (at_window kn x.now k a.2) ∙ h x b

  any_at : (o : Option (Bor (List ℕ))) → Bends C false → At kn k o → IsSomeAnd o C → smooth kn ≡ false
  any_at None h a b = absurd b
  any_at (Some x) h a b = smooth_any kn k a.1 (sym (at_window kn x.now k a.2) ∙ h x b)

-- A run over the windows of three says it: each is straight, to the last, or some one is not.
module _ {S : Type 0} {steps : S → Option (Bor (List ℕ)) → S → Type 0} (p : Run steps) (kn : List ℕ) (w : IsWindowsRun p 3 kn) where
  pub windows_said : {K : Type 0} {C D : Bor (List ℕ) → Type 0} (r : Bool) → MatchBool r ((p.whole ≡ true) × (K → AllItems p C)) (K → AnyItem p D) → K → Bends C true → Bends D false → r ≡ smooth kn
  windows_said true m k h g = sym (smooth_all kn (λ i l. all_at kn i (p.at i) h (w.3 i 0 (omega (arith, w.1 m.0))) (w.2 i) (m.1 k i)))
  windows_said false m k h g = let a = m k in sym (any_at kn a.0 (p.at a.0) g (w.2 a.0) a.2)

-- f 0, .., f (n - 1) at the front of a list.
unfoldable pub written : (ℕ → ℕ) → ℕ → List ℕ → List ℕ
written f zero out = out
written f (suc n) out = set (written f n out) n (f n)

pub written_more : (f : ℕ → ℕ) (n : ℕ) (out₀ out : List ℕ) (v : ℕ) → out ≡ written f n out₀ → v ≡ f n → set out n v ≡ written f (n + 1) out₀
unfolding written
written_more f n out₀ out v p q = rw (add-one, p, q)

pub levers_row : (s : List ℕ) → written (λ j. num (take 2 (drop (8 + 2 * j) s))) 13 (replicate 13 0) ≡ (row.named (values row.fields s)).kn
unfolding written values_at
levers_row s = sym (rw (values_at_lem row.fields 0 s))
