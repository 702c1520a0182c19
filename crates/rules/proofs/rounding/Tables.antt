-- The rule of every table, proved once: 'linear between points, flat beyond'. A table only shows that its points are in order, by computation.
use mathlib.Core.Path.{◌≡◌, refl, ap, sym, ◌∙◌, subst}
use mathlib.Core.Bool.{Bool, true, false, ◌&&◌}
use mathlib.Core.List.{List, [], ◌∷◌, ◌++◌, append_assoc}
use Prim.Native.Nat.{ℕ, ◌≤◌, ◌<◌, max}
use native.Mathlib.Omega.{arith}
use native.Mathlib.Nat.{max-eq_left, max-eq_right}
use native.Mathlib.Decide.{dec_le}
use lib.Dec.{ltb, leb}
use borrow.Author.Tests.{ltb-true, leb-true, lt-ltb, le-ltb}
use Rattle.rules.specs.Numbers.{full}
use Rattle.rules.specs.Rounding.{Direction, up, Point, gap, span, line, onward, table}
use Rattle.rules.specs.Roll.{X1, X2, K, S}
use Rattle.rules.proofs.layout.Fields.{both_true}
use Rattle.rules.proofs.rounding.Rounding.{Rounded, rounded_unique}
use Rattle.rules.proofs.rounding.StraightLine.{line_rounded, line_at_first, line_at_second, line_from, line_to}

-- The places rise from point to point.
abbrev pub in_order : List Point → Bool
in_order [] = true
in_order (p ∷ []) = true
in_order (p ∷ q ∷ ps) = ltb p.place q.place && in_order (q ∷ ps)

-- What a table of these points is: at a point its value; between neighbours their straight line, rounded; flat beyond the ends.
pub record Linear (way : Direction) (ps : List Point) (f : ℕ → ℕ) : Type 0 where
  pub at : (a z : List Point) (p : Point) → a ++ (p ∷ z) ≡ ps → f p.place ≡ p.value
  pub amid : (a z : List Point) (p q : Point) → a ++ (p ∷ q ∷ z) ≡ ps → (x : ℕ) → p.place ≤ x → x ≤ q.place → Rounded way (span p q x) (gap p q) (f x)
  pub before : (z : List Point) (p : Point) → p ∷ z ≡ ps → (x : ℕ) → x ≤ p.place → f x ≡ p.value
  pub beyond : (a : List Point) (p : Point) → a ++ (p ∷ []) ≡ ps → (x : ℕ) → p.place ≤ x → f x ≡ p.value

-- ---- the order of the points
none : ◌≡◌ {A = Bool} false true → ⊥
none e = let z : ◌≡◌ {A = ℕ} 0 1 = cc in omega arith

rise : (p q : Point) (ps : List Point) → in_order (p ∷ q ∷ ps) ≡ true → p.place < q.place
rise p q ps h = ltb-true p.place q.place (both_true (ltb p.place q.place) (in_order (q ∷ ps)) h).0

rest : (p : Point) (ps : List Point) → in_order (p ∷ ps) ≡ true → in_order ps ≡ true
rest p [] h = refl
rest p (q ∷ ps) h = (both_true (ltb p.place q.place) (in_order (q ∷ ps)) h).1

from : (a ps : List Point) → in_order (a ++ ps) ≡ true → in_order ps ≡ true
from [] ps h = h
from (p ∷ a) ps h = from a ps (rest p (a ++ ps) h)

module _ (way : Direction) where
  -- ---- from a point on
  pub near : (p q : Point) (ps : List Point) (x : ℕ) → x < q.place → onward way p (q ∷ ps) x ≡ line way p q x
  unfolding onward
  near p q ps x l = ap (λ (b : Bool). elim b [ true ↦ line way p q x | false ↦ onward way q ps x ]) (lt-ltb x q.place l)

  pub far : (p q : Point) (ps : List Point) (x : ℕ) → q.place ≤ x → onward way p (q ∷ ps) x ≡ onward way q ps x
  unfolding onward
  far p q ps x l = ap (λ (b : Bool). elim b [ true ↦ line way p q x | false ↦ onward way q ps x ]) (le-ltb x q.place l)

  start : (p : Point) (ps : List Point) → in_order (p ∷ ps) ≡ true → onward way p ps p.place ≡ p.value
  unfolding onward
  start p [] h = refl
  start p (q ∷ ps) h = near p q ps p.place (rise p q ps h) ∙ line_at_first way p q (rise p q ps h)

  step : (p q : Point) (ps : List Point) (x : ℕ) → in_order (p ∷ q ∷ ps) ≡ true → p.place ≤ x → x ≤ q.place → onward way p (q ∷ ps) x ≡ line way p q x
  step p q ps x h l m = elim (dec_le q.place x) [
    | no n ↦ near p q ps x (omega arith)
    | yes n ↦ let z : q.place ≡ x = omega arith in
        far p q ps x n ∙ subst (λ (x : ℕ). onward way q ps x ≡ line way p q x) z (start q ps (rest p (q ∷ ps) h) ∙ sym (line_at_second way p q (rise p q ps h)))
  ]

  -- The points before p do not matter from p on.
  past : (c : Point) (a z : List Point) (p : Point) (x : ℕ) → in_order (c ∷ (a ++ (p ∷ z))) ≡ true → p.place ≤ x → (c.place < p.place) × (onward way c (a ++ (p ∷ z)) x ≡ onward way p z x)
  past c [] z p x h l = (rise c p z h, far c p z x l)
  past c (d ∷ a) z p x h l =
      let r = past d a z p x (rest c (d ∷ (a ++ (p ∷ z))) h) l in
      (omega (arith, rise c d (a ++ (p ∷ z)) h), far c d (a ++ (p ∷ z)) x (omega arith) ∙ r.1)

  enter : (a z : List Point) (p : Point) (x : ℕ) → in_order (a ++ (p ∷ z)) ≡ true → p.place ≤ x → table way (a ++ (p ∷ z)) x ≡ onward way p z x
  unfolding table
  enter [] z p x h l = rw (max-eq_left l)
  enter (c ∷ a) z p x h l = let r = past c a z p x h l in let m : c.place ≤ x = omega arith in rw (max-eq_left m) r.1

  first : (z : List Point) (p : Point) (x : ℕ) → in_order (p ∷ z) ≡ true → x ≤ p.place → table way (p ∷ z) x ≡ p.value
  unfolding table
  first z p x k l = rw (max-eq_right l) (start p z k)

  last : (a : List Point) (p : Point) (x : ℕ) → in_order (a ++ (p ∷ [])) ≡ true → p.place ≤ x → table way (a ++ (p ∷ [])) x ≡ p.value
  unfolding onward
  last a p x k l = enter a [] p x k l

  -- ---- the law
  pub table_is : (ps : List Point) → in_order ps ≡ true → Linear way ps (table way ps)
  table_is ps h = record {
    at = λ a z p e. subst (λ (l : List Point). table way l p.place ≡ p.value) e (enter a z p p.place (o a (p ∷ z) e) (omega arith) ∙ start p z (from a (p ∷ z) (o a (p ∷ z) e)));
    amid = λ a z p q e x l m. let k = from a (p ∷ q ∷ z) (o a (p ∷ q ∷ z) e) in
        subst (λ (l : List Point). Rounded way (span p q x) (gap p q) (table way l x)) e
        (subst (λ (v : ℕ). Rounded way (span p q x) (gap p q) v) (sym (enter a (q ∷ z) p x (o a (p ∷ q ∷ z) e) l ∙ step p q z x k l m)) (line_rounded way p q x (rise p q z k)));
    before = λ z p e x l. subst (λ (l : List Point). table way l x ≡ p.value) e (first z p x (o [] (p ∷ z) e) l);
    beyond = λ a p e x l. subst (λ (l : List Point). table way l x ≡ p.value) e (last a p x (o a (p ∷ []) e) l);
  }
    where
      o : (a b : List Point) → a ++ b ≡ ps → in_order (a ++ b) ≡ true
      o a b e = rw e h

  -- And nothing else is, of a table with a point.
  pub linear_unique : (ps : List Point) → full ps ≡ true → (f g : ℕ → ℕ) → Linear way ps f → Linear way ps g → (x : ℕ) → f x ≡ g x
  linear_unique [] h f g k l x = absurd (none h)
  linear_unique (p ∷ ps) h f g k l x = elim (dec_le x p.place) [
    | yes m ↦ k.before ps p refl x m ∙ sym (l.before ps p refl x m)
    | no m ↦ go [] p ps refl (omega arith)
  ]
    where
      go : (a : List Point) (q : Point) (z : List Point) → a ++ (q ∷ z) ≡ p ∷ ps → q.place ≤ x → f x ≡ g x
      go a q [] e m = k.beyond a q e x m ∙ sym (l.beyond a q e x m)
      go a q (r ∷ z) e m = elim (dec_le x r.place) [
        | yes n ↦ rounded_unique way (span q r x) (gap q r) (f x) (g x) (k.amid a z q r e x m n) (l.amid a z q r e x m n)
        | no n ↦ go (a ++ (q ∷ [])) r z (append_assoc a (q ∷ []) (r ∷ z) ∙ e) (omega arith)
      ]

-- ---- a table never leaves the range of its values
abbrev pub values_within : ℕ → ℕ → List Point → Bool
values_within low high [] = true
values_within low high (p ∷ ps) = leb low p.value && leb p.value high && values_within low high ps

module _ (way : Direction) (low high : ℕ) where
  abbrev Inside : ℕ → Type 0
  Inside v = (low ≤ v) × (v ≤ high)

  head : (p : Point) (ps : List Point) → values_within low high (p ∷ ps) ≡ true → Inside p.value × (values_within low high ps ≡ true)
  head p ps v =
      let a = both_true (leb low p.value && leb p.value high) (values_within low high ps) v in
      let b = both_true (leb low p.value) (leb p.value high) a.0 in
      ((leb-true low p.value b.0, leb-true p.value high b.1), a.1)

  onward_within : (p : Point) (ps : List Point) → in_order (p ∷ ps) ≡ true → values_within low high (p ∷ ps) ≡ true → (x : ℕ) → p.place ≤ x → Inside (onward way p ps x)
  unfolding onward
  onward_within p [] h v x l = (head p [] v).0
  onward_within p (q ∷ ps) h v x l =
      let a = head p (q ∷ ps) v in
      let b = head q ps a.1 in
      elim (dec_le q.place x) [
        | yes n ↦ subst Inside (sym (far way p q ps x n)) (onward_within q ps (rest p (q ∷ ps) h) a.1 x n)
        | no n ↦ let m : x ≤ q.place = omega arith in subst Inside (sym (near way p q ps x (omega arith)))
            (line_from way p q (rise p q ps h) x l m low a.0.0 b.0.0, line_to way p q (rise p q ps h) x l m high a.0.1 b.0.1)
      ]

  pub table_within : (ps : List Point) → full ps ≡ true → in_order ps ≡ true → values_within low high ps ≡ true → (x : ℕ) → (low ≤ table way ps x) × (table way ps x ≤ high)
  unfolding table
  table_within [] f h v x = absurd (none f)
  table_within (p ∷ ps) f h v x = onward_within p ps h v (max x p.place) (omega arith)

-- ---- the tables of criterion 8
pub X1-is : Linear up X1 (table up X1)
X1-is = table_is up X1 refl

pub X2-is : Linear up X2 (table up X2)
X2-is = table_is up X2 refl

pub K-is : Linear up K (table up K)
K-is = table_is up K refl

pub S-is : Linear up S (table up S)
S-is = table_is up S refl
