-- A table whose values fall, as those of X1, k and s do, gives no more at a greater argument: with arguments and values over any denominators.
use mathlib.Core.Path.{◌≡◌, refl, sym, subst}
use mathlib.Core.Bool.{Bool, true, ◌&&◌}
use mathlib.Core.List.{List, [], ◌∷◌, map}
use Prim.Native.Nat.{ℕ, ◌+◌, ◌-◌, ◌*◌, ◌≤◌, ◌<◌, max}
use native.Mathlib.Omega.{arith}
use native.Mathlib.Nat.{mul-le-mul_left, mul-le-mul_right, le_refl, le_trans, max-eq_left, max-eq_right}
use native.Mathlib.Decide.{dec_le}
use lib.Dec.{leb, ltb}
use borrow.Author.Tests.{ltb-true, leb-true, lt-ltb, le-leb}
use Rattle.rules.specs.Rounding.{Point, point, up, line, onward, table}
use Rattle.rules.proofs.rounding.Rounding.{ceiling_least}
use Rattle.rules.proofs.rounding.StraightLine.{line_rounded, line_from, line_to}
use Rattle.rules.proofs.layout.Fields.{both_true}
use Rattle.rules.proofs.rounding.Tables.{in_order, near, far}
use Rattle.earned.specs.Rolling.{finer_table}

-- The values do not rise from point to point.
abbrev pub falls : List Point → Bool
falls [] = true
falls (p ∷ []) = true
falls (p ∷ q ∷ ps) = leb q.value p.value && falls (q ∷ ps)

-- ---- what the two tests say
module _ (p q : Point) (ps : List Point) where
  rise : in_order (p ∷ q ∷ ps) ≡ true → p.place < q.place
  rise h = ltb-true p.place q.place (both_true (ltb p.place q.place) (in_order (q ∷ ps)) h).0

  rest : in_order (p ∷ q ∷ ps) ≡ true → in_order (q ∷ ps) ≡ true
  rest h = (both_true (ltb p.place q.place) (in_order (q ∷ ps)) h).1

  fall : falls (p ∷ q ∷ ps) ≡ true → q.value ≤ p.value
  fall h = leb-true q.value p.value (both_true (leb q.value p.value) (falls (q ∷ ps)) h).0

  rest_falls : falls (p ∷ q ∷ ps) ≡ true → falls (q ∷ ps) ≡ true
  rest_falls h = (both_true (leb q.value p.value) (falls (q ∷ ps)) h).1

-- ---- falling
onward_to : (p : Point) (ps : List Point) → in_order (p ∷ ps) ≡ true → falls (p ∷ ps) ≡ true → (x : ℕ) → p.place ≤ x → onward up p ps x ≤ p.value
unfolding onward
onward_to p [] h f x l = le_refl p.value
onward_to p (q ∷ ps) h f x l = elim (dec_le q.place x) [
  | yes k ↦ subst (λ (v : ℕ). v ≤ p.value) (sym (far up p q ps x k)) (le_trans (onward_to q ps (rest p q ps h) (rest_falls p q ps f) x k) (fall p q ps f))
  | no k ↦ subst (λ (v : ℕ). v ≤ p.value) (sym (near up p q ps x (omega arith))) (line_to up p q (rise p q ps h) x l (omega arith) p.value (le_refl p.value) (fall p q ps f))
]

line_falls : (p q : Point) (x x' : ℕ) → p.place < q.place → q.value ≤ p.value → p.place ≤ x → x ≤ x' → x' ≤ q.place → line up p q x' ≤ line up p q x
line_falls p q x x' rise fall l m n = ceiling_least (line_rounded up p q x' rise) (line up p q x) (le_trans (go p.value q.value (q.place - x') (x - p.place) (x' - x) (q.place - x) (x' - p.place) (omega arith) (omega arith) fall) (line_rounded up p q x rise).over)
  where
    go : (v w a b d a' b' : ℕ) → a' ≡ a + d → b' ≡ b + d → w ≤ v → v * a + w * b' ≤ v * a' + w * b
    go v w a b d a' b' e f h = rw (e, f) (omega (arith, mul-le-mul_right d h))

onward_falls : (p : Point) (ps : List Point) → in_order (p ∷ ps) ≡ true → falls (p ∷ ps) ≡ true → (x x' : ℕ) → p.place ≤ x → x ≤ x' → onward up p ps x' ≤ onward up p ps x
unfolding onward
onward_falls p [] h f x x' l m = le_refl p.value
onward_falls p (q ∷ ps) h f x x' l m = elim (dec_le q.place x) [
  | yes k ↦ let k' : q.place ≤ x' = omega arith in rw (far up p q ps x k, far up p q ps x' k') (onward_falls q ps (rest p q ps h) (rest_falls p q ps f) x x' k m)
  | no k ↦ elim (dec_le q.place x') [
    | yes k' ↦ let l' : x < q.place = omega arith in rw (near up p q ps x l', far up p q ps x' k') (le_trans (onward_to q ps (rest p q ps h) (rest_falls p q ps f) x' k') (line_from up p q (rise p q ps h) x l (omega arith) q.value (fall p q ps f) (le_refl q.value)))
    | no k' ↦ let l' : x < q.place = omega arith in let l'' : x' < q.place = omega arith in rw (near up p q ps x l', near up p q ps x' l'') (line_falls p q x x' (rise p q ps h) (fall p q ps f) l m (omega arith))
  ]
]

table_falls : (T : List Point) → in_order T ≡ true → falls T ≡ true → (x x' : ℕ) → x ≤ x' → table up T x' ≤ table up T x
unfolding table
table_falls [] h f x x' l = omega arith
table_falls (p ∷ ps) h f x x' l = onward_falls p ps h f (max x p.place) (max x' p.place) (omega arith) (omega arith)

-- ---- over denominators
module _ (D M : ℕ) (some : 0 < D) where
  abbrev cell : Point → Point
  cell p = point (D * p.place) (M * p.value)

  more : (a b : ℕ) → a < b → D * a < D * b
  more a b l = omega (arith, mul-le-mul_left D l)

  order_finer : (T : List Point) → in_order T ≡ true → in_order (finer_table D M T) ≡ true
  order_finer [] h = refl
  order_finer (p ∷ []) h = refl
  order_finer (p ∷ q ∷ ps) h = rw (lt-ltb (D * p.place) (D * q.place) (more p.place q.place (rise p q ps h))) (order_finer (q ∷ ps) (rest p q ps h))

  falls_finer : (T : List Point) → falls T ≡ true → falls (finer_table D M T) ≡ true
  falls_finer [] h = refl
  falls_finer (p ∷ []) h = refl
  falls_finer (p ∷ q ∷ ps) h = rw (le-leb (M * q.value) (M * p.value) (mul-le-mul_left M (fall p q ps h))) (falls_finer (q ∷ ps) (rest_falls p q ps h))

  line_finer : (p q : Point) (x : ℕ) → p.place < q.place → p.place ≤ x → x ≤ q.place → line up (cell p) (cell q) (D * x) ≤ M * line up p q x
  line_finer p q x rise l m = ceiling_least (line_rounded up (cell p) (cell q) (D * x) (more p.place q.place rise)) (M * line up p q x) (go p.value q.value p.place (x - p.place) (q.place - x) x q.place (line up p q x) (omega arith) (omega arith) (line_rounded up p q x rise).over)
    where
      go : (v w s b a x q' n : ℕ) → x ≡ s + b → q' ≡ x + a → v * (q' - x) + w * (x - s) ≤ n * (q' - s) → M * v * (D * q' - D * x) + M * w * (D * x - D * s) ≤ M * n * (D * q' - D * s)
      go v w s b a x q' n e f h =
          let e₁ : D * q' - D * x ≡ D * a = rw f (omega arith) in
          let e₂ : D * x - D * s ≡ D * b = rw e (omega arith) in
          let e₃ : D * q' - D * s ≡ D * (a + b) = rw (f, e) (omega arith) in
          let f₁ : q' - x ≡ a = omega arith in
          let f₂ : x - s ≡ b = omega arith in
          let f₃ : q' - s ≡ a + b = omega arith in
          let k = rw (f₁, f₂, f₃) at h in
          rw (e₁, e₂, e₃) (omega (arith, mul-le-mul_left (M * D) k))

  onward_finer : (p : Point) (ps : List Point) → in_order (p ∷ ps) ≡ true → (x : ℕ) → p.place ≤ x → onward up (cell p) (map cell ps) (D * x) ≤ M * onward up p ps x
  unfolding onward
  onward_finer p [] h x l = le_refl (M * p.value)
  onward_finer p (q ∷ ps) h x l = elim (dec_le q.place x) [
    | yes k ↦ rw (far up p q ps x k, far up (cell p) (cell q) (map cell ps) (D * x) (mul-le-mul_left D k)) (onward_finer q ps (rest p q ps h) x k)
    | no k ↦ let l' : x < q.place = omega arith in rw (near up p q ps x l', near up (cell p) (cell q) (map cell ps) (D * x) (more x q.place l')) (line_finer p q x (rise p q ps h) l (omega arith))
  ]

  -- At the same argument.
  pub table_finer : (T : List Point) → in_order T ≡ true → (x : ℕ) → table up (finer_table D M T) (D * x) ≤ M * table up T x
  unfolding table
  table_finer [] h x = omega arith
  table_finer (p ∷ ps) h x = elim (dec_le p.place x) [
    | yes k ↦ rw (max-eq_left k, max-eq_left (mul-le-mul_left D k)) (onward_finer p ps h x k)
    | no k ↦ let l : x ≤ p.place = omega arith in rw (max-eq_right l, max-eq_right (mul-le-mul_left D l)) (onward_finer p ps h p.place (le_refl p.place))
  ]

  -- And at a greater one, where the values fall.
  pub table_beyond : (T : List Point) → in_order T ≡ true → falls T ≡ true → (x x' : ℕ) → D * x ≤ x' → table up (finer_table D M T) x' ≤ M * table up T x
  table_beyond T h f x x' l = le_trans (table_falls (finer_table D M T) (order_finer T h) (falls_finer T f) (D * x) x' l) (table_finer T h x)
