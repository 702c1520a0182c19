-- A hull that is no worse keeps every pass of criteria 1, 2, 3, 4, 6 and 7, across denominators.
use mathlib.Core.Path.{◌≡◌, refl, ap, ap₂, sym, ◌∙◌, fun_ext}
use mathlib.Core.Bool.{Bool, true, false, not, ◌&&◌, ◌||◌}
use mathlib.Core.List.{List, [], ◌∷◌, map}
use Prim.Native.Nat.{ℕ, zero, suc, ◌+◌, ◌-◌, ◌*◌, ◌/◌, ◌%◌, ◌≤◌, ◌<◌, min}
use native.Mathlib.Omega.{arith}
use native.Mathlib.Nat.{mul-le-mul_right, mul-zero}
use lib.Dec.{leb, ltb}
use lib.ListN.{get_or}
use lib.IntN.{ℤ, pos, negsuc, neg_ℤ, sub_ℕ}
use lib.Signed.{le_z}
use borrow.Author.Tests.{leb-true, le-leb}
use Rattle.rules.specs.Rounding.{peak}
use Rattle.rules.specs.Blocks.{Sky}
use Rattle.rules.specs.Loading.{millimetres}
use Rattle.rules.specs.Curve.{Loaded, fifty, sines, lever, lever_z, y, area}
use Rattle.rules.specs.Criteria as criteria
use Rattle.rules.specs.Criteria.{Criteria, set, uses, units, reaches, passes1, passes2, passes3, passes4, passes6, passes7, area1, area2, area3}
use Rattle.rules.specs.Columns.{slot_of}
use Rattle.rules.specs.Report.{slot, verdict, judgement}
use Rattle.rules.proofs.rounding.Signed.{at_least, le_true}
use Rattle.earned.specs.Order.{NoLess, Hull, Better, finer, curve, Follows}
use Rattle.earned.specs.Verdicts.{Criterion, one, two, three, four, six, seven, limit_over, greatest_lever, phi0, passes_over, passes, place, used, Behind}
use Rattle.earned.proofs.Order.{difference, reached, order}

-- ---- tests
both : (a b a' b' : Bool) → (a ≡ true → a' ≡ true) → (b ≡ true → b' ≡ true) → a && b ≡ true → a' && b' ≡ true
both true b true b' f g h = g h
both true b false b' f g h = f refl
both false b a' b' f g h = let z : ◌≡◌ {A = ℕ} 0 1 = cc in absurd (omega arith)

either : (a b b' : Bool) → (b ≡ true → b' ≡ true) → a || b ≡ true → a || b' ≡ true
either true b b' g h = refl
either false b b' g h = g h

pub same : (a b : Bool) → (a ≡ true → b ≡ true) → (b ≡ true → a ≡ true) → a ≡ b
same true b f g = sym (f refl)
same false true f g = g refl
same false false f g = refl

less : (a b n : ℕ) → b ≤ a → leb a n ≡ true → leb b n ≡ true
less a b n l h = le-leb b n (omega (arith, leb-true a n h))

-- ---- from the denominator D to D', under one sky
module _ (m n D D' : ℕ) (some : 0 < n) (scale : n * D' ≤ m * D) (s : Criteria) (c : Sky) (h h' : Hull) (better : Better m n h h') where
  follows : Follows m n (curve h) (curve h')
  follows = order m n some h h' better

  limit : (l : ℕ) → n * limit_over D' l ≤ m * limit_over D l
  limit l = omega (arith, mul-le-mul_right l scale)

  at_least_so : (l : ℕ) (a b : ℤ) → NoLess m n a b → le_z (pos (limit_over D l)) a ≡ true → le_z (pos (limit_over D' l)) b ≡ true
  at_least_so l a b k p = le_true (pos (limit_over D' l)) b (reached m n some (limit_over D l) (limit_over D' l) a b (limit l) k (at_least (pos (limit_over D l)) a p))

  area_keeps : (l p q : ℕ) → le_z (pos (limit_over D l)) (area (curve h) (pos p) (pos q)) ≡ true → le_z (pos (limit_over D' l)) (area (curve h') (pos p) (pos q)) ≡ true
  area_keeps l p q = at_least_so l (area (curve h) (pos p) (pos q)) (area (curve h') (pos p) (pos q)) (follows.areas p q)

  greatest_keeps : (e : ℕ) → NoLess m n (greatest_lever s.from e h) (greatest_lever s.from e h')
  unfolding greatest_lever
  greatest_keeps e = go (ltb e s.from)
    where
      go : (b : Bool) → NoLess m n (elim b [ true ↦ pos 0 | false ↦ curve h (pos (peak (λ t. curve h (pos t)) s.from (e - s.from))) ]) (elim b [ true ↦ pos 0 | false ↦ curve h' (pos (peak (λ t. curve h' (pos t)) s.from (e - s.from))) ])
      go true = omega arith
      go false = follows.greatest s.from (e - s.from)

  heel_keeps : (e : ℕ) → phi0 e h' ≤ phi0 e h
  unfolding phi0
  heel_keeps e = follows.level (5_000_000 * h.lw1) (5_000_000 * h'.lw1) (omega (arith, better.lw1)) 0 e

  pub keeps : (k : Criterion) → passes_over D k s c h ≡ true → passes_over D' k s c h' ≡ true
  unfolding passes_over
  keeps one = area_keeps s.area1 0 (min 300 c.flooding)
  keeps two = area_keeps s.area2 300 (min 400 c.flooding)
  keeps three = area_keeps s.area3 0 (min 400 c.flooding)
  keeps four =
      both (leb s.from c.flooding) (le_z (pos (limit_over D s.lever)) (greatest_lever s.from c.flooding h)) (leb s.from c.flooding) (le_z (pos (limit_over D' s.lever)) (greatest_lever s.from c.flooding h')) (λ p. p)
      (at_least_so s.lever (greatest_lever s.from c.flooding h) (greatest_lever s.from c.flooding h') (greatest_keeps c.flooding))
  keeps six = at_least_so s.gm (sub_ℕ h.km h.kg) (sub_ℕ h'.km h'.kg) (difference m n h.km h.kg h'.km h'.kg better.km (omega (arith, better.kg)))
  keeps seven = go (phi0 c.flooding h) (phi0 c.flooding h') (heel_keeps c.flooding)
    where
      go : (a b : ℕ) → b ≤ a → leb a c.flooding && leb a s.heel && (not s.deck || leb (10 * a) (8 * c.deck_edge)) ≡ true
          → leb b c.flooding && leb b s.heel && (not s.deck || leb (10 * b) (8 * c.deck_edge)) ≡ true
      go a b l =
          both (leb a c.flooding && leb a s.heel) (not s.deck || leb (10 * a) (8 * c.deck_edge)) (leb b c.flooding && leb b s.heel) (not s.deck || leb (10 * b) (8 * c.deck_edge))
          (both (leb a c.flooding) (leb a s.heel) (leb b c.flooding) (leb b s.heel) (less a b c.flooding l) (less a b s.heel l))
          (either (not s.deck) (leb (10 * a) (8 * c.deck_edge)) (leb (10 * b) (8 * c.deck_edge)) (less (10 * a) (10 * b) (8 * c.deck_edge) (omega arith)))

-- ---- the judgement's verdicts are these, over KG's unit
pub get_or_finer : (S : ℕ) (l : List ℕ) (i : ℕ) → get_or (map (λ v. S * v) l) i 0 ≡ S * get_or l i 0
get_or_finer S [] i = sym (mul-zero S)
get_or_finer S (v ∷ l) zero = refl
get_or_finer S (v ∷ l) (suc i) = get_or_finer S l i

module _ (c : Loaded) where
  fifty_used : (t : ℕ) → fifty (used c).kn t ≡ c.unit * fifty c.kn t
  fifty_used t = rw (get_or_finer c.unit c.kn (t / 50), get_or_finer c.unit c.kn (t / 50 + 1)) (go (get_or c.kn (t / 50) 0) (get_or c.kn (t / 50 + 1) 0) (50 - t % 50) (t % 50))
    where
      go : (a b m n : ℕ) → c.unit * a * m + c.unit * b * n ≡ c.unit * (a * m + b * n)
      go a b m n = omega arith

  pub lever_used : (t : ℕ) → lever millimetres (used c).kn c.kg t ≡ lever c.unit c.kn c.kg t
  unfolding lever
  lever_used t = ap (λ (a : ℕ). sub_ℕ a (c.kg * fifty sines t)) (ap (λ (a : ℕ). 100_000 * a) (fifty_used t) ∙ go (fifty c.kn t))
    where
      go : (a : ℕ) → 100_000 * (c.unit * a) ≡ c.unit * 100_000 * a
      go a = omega arith

  pub curve_used : curve (used c) ≡ y c
  unfolding lever_z
  curve_used = fun_ext at
    where
      at : (t : ℤ) → curve (used c) t ≡ y c t
      at (pos t) = lever_used t
      at (negsuc t) = ap neg_ℤ (lever_used (suc t))

  level_used : units millimetres (used c).lw1 ≡ units c.unit (criteria.lw1 c)
  level_used = ap pos (go (criteria.lw1 c))
    where
      go : (l : ℕ) → 5_000_000 * (c.unit * l) ≡ c.unit * 5_000_000 * l
      go l = omega arith

  abbrev end : ℕ
  end = c.weather.sky.flooding

limit_used : (D l : ℕ) → limit_over D l ≡ D * l
limit_used D l = omega arith

pub over_unit : (k : Criterion) (c : Loaded) → passes_over c.unit k (set c) c.weather.sky (used c) ≡ passes k c
unfolding passes_over greatest_lever phi0 passes1 passes2 passes3 passes4 passes6 passes7 area1 area2 area3 criteria.greatest_lever criteria.phi0
over_unit one c = ap₂ (λ (l : ℕ) (f : ℤ → ℤ). le_z (pos l) (area f (pos 0) (pos (min 300 (end c))))) (limit_used c.unit (set c).area1) (curve_used c)
over_unit two c = ap₂ (λ (l : ℕ) (f : ℤ → ℤ). le_z (pos l) (area f (pos 300) (pos (min 400 (end c))))) (limit_used c.unit (set c).area2) (curve_used c)
over_unit three c = ap₂ (λ (l : ℕ) (f : ℤ → ℤ). le_z (pos l) (area f (pos 0) (pos (min 400 (end c))))) (limit_used c.unit (set c).area3) (curve_used c)
over_unit four c = ap₂ (λ (l : ℕ) (f : ℤ → ℤ). leb (set c).from (end c) && le_z (pos l) (elim (ltb (end c) (set c).from) [ true ↦ pos 0 | false ↦ f (pos (peak (λ t. f (pos t)) (set c).from (end c - (set c).from))) ])) (limit_used c.unit (set c).lever) (curve_used c)
over_unit six c = ap (λ (l : ℕ). le_z (pos l) (criteria.gm c)) (limit_used c.unit (set c).gm)
over_unit seven c = ap (λ (t : ℕ). leb t (end c) && leb t (set c).heel && (not (set c).deck || leb (10 * t) (8 * c.weather.sky.deck_edge))) (ap₂ (λ (f : ℤ → ℤ) (z : ℤ). reaches f z 0 (end c)) (curve_used c) (level_used c))

-- What their slots read.
pub verdict_is : (k : Criterion) (c : Loaded) → slot_of (place k) (judgement c) ≡ slot (uses c (place k)) (verdict (passes k c))
unfolding judgement
verdict_is one c = refl
verdict_is two c = refl
verdict_is three c = refl
verdict_is four c = refl
verdict_is six c = refl
verdict_is seven c = refl

-- A pass with the numbers used is a pass with any exact values behind them.
pub earned : (D : ℕ) (h : Hull) (c : Loaded) → 0 < c.unit → Behind D h c → (k : Criterion) → passes k c ≡ true → passes_over D k (set c) c.weather.sky h ≡ true
earned D h c some b k p = keeps D c.unit c.unit D some (omega arith) (set c) c.weather.sky (used c) h b k (over_unit k c ∙ p)

-- ---- the verdict does not depend on the denominator
pub same_verdict : (S D : ℕ) → 0 < S → (s : Criteria) (c : Sky) (h : Hull) (k : Criterion) → passes_over (S * D) k s c (finer S h) ≡ passes_over D k s c h
same_verdict S D some s c h k = same (passes_over (S * D) k s c (finer S h)) (passes_over D k s c h)
    (keeps 1 S (S * D) D some (omega arith) s c (finer S h) h (record { kn = λ i. omega (arith, get_or_finer S h.kn i); km = omega arith; kg = omega arith; lw1 = omega arith }) k)
    (keeps S 1 D (S * D) (omega arith) (omega arith) s c h (finer S h) (record { kn = λ i. omega (arith, get_or_finer S h.kn i); km = omega arith; kg = omega arith; lw1 = omega arith }) k)
