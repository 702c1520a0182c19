-- KG in a unit n times as fine, n times as great, changes no verdict: every angle, the period and the roll are the same; KG, GM, areas, lever and net are n times as great.
use mathlib.Core.Path.{◌≡◌, refl, ap, ap₂, sym, ◌∙◌, fun_ext}
use mathlib.Core.Bool.{Bool, true, false, cond, not, ◌&&◌, ◌||◌}
use mathlib.Core.List.{[], ◌∷◌}
use Prim.Native.Nat.{ℕ, suc, ◌-◌, ◌*◌, ◌<◌, min}
use native.Mathlib.Omega.{arith}
use native.Mathlib.Nat.{mul_assoc, mul_left_comm, mul-sub}
use lib.Dec.{leb, ltb}
use lib.IntN.{ℤ, pos, negsuc, neg_ℤ, sub_ℕ, ◌+ℤ◌, ◌-ℤ◌, ◌*ℤ◌}
use lib.Signed.{le_z}
use Rattle.rules.specs.Rounding.{ceil_z, table, greatest, peak}
use Rattle.rules.specs.Curve.{Loaded, fifty, sines, lever, lever_z, y, E, area}
use Rattle.rules.specs.Criteria.{set, uses, area1, area2, area3, greatest_lever, angle_of_greatest, gm, lw1, lw2, units, reaches, phi0, phi0_figure, passes1, passes2, passes3, passes4, passes5, passes6, passes7}
use Rattle.rules.specs.Roll.{b, C, q, period, k, x1, x2, s, S, p, r_of, r, phi1, longest_period, start, farthest, u, stays, e, net, outside_range, not_judged, no_gust, passes8}
use Rattle.rules.specs.Report.{Verdict, verdict, slot, unjudged, fail, verdict8, where8, judgement}
use Rattle.rules.specs.Unit.{finer, goes_up, raised, manifold}
use Rattle.rules.proofs.rounding.Signed.{eq!, up_mull, dn_mull}
use Rattle.rules.proofs.rounding.Times.{times, times_sub, times_neg, times_diff, times_zero, area_times, le_times, leb_times, ltb_times, peak_times, reaches_times, stays_times, ceil_times}
use Rattle.rules.proofs.criteria.EitherSet.{verdicts_are, figures_are}
use Rattle.rules.proofs.criteria.Ranges.{Judged, judged, deep, deep_pos}

module _ (n : ℕ) (some : 0 < n) (c : Loaded) where
  abbrev c' : Loaded
  c' = finer n c

  -- The unit times a length.
  abbrev long : (a : ℕ) → n * c.unit * a ≡ n * (c.unit * a)
  long a = mul_assoc n c.unit a

  longer : (k a : ℕ) → n * c.unit * k * a ≡ n * (c.unit * k * a)
  longer k a = omega arith

  lever_finer : (t : ℕ) → lever c'.unit c.kn c'.kg t ≡ times n (lever c.unit c.kn c.kg t)
  unfolding lever
  lever_finer t = ap₂ sub_ℕ (longer 100_000 (fifty c.kn t)) (mul_assoc n c.kg (fifty sines t)) ∙ times_sub n (c.unit * 100_000 * fifty c.kn t) (c.kg * fifty sines t)

  y_at : (t : ℤ) → y c' t ≡ times n (y c t)
  unfolding lever_z
  y_at (pos t) = lever_finer t
  y_at (negsuc t) = ap neg_ℤ (lever_finer (suc t)) ∙ times_neg n (lever c.unit c.kn c.kg (suc t))

  y_finer : y c' ≡ (λ t. times n (y c t))
  y_finer = fun_ext y_at

  -- ---- 1, 2 and 3
  area_finer : (p q : ℤ) → area (y c') p q ≡ times n (area (y c) p q)
  area_finer p q = ap (λ (f : ℤ → ℤ). area f p q) y_finer ∙ area_times n (y c) p q

  area1_finer : area1 c' ≡ times n (area1 c)
  unfolding area1
  area1_finer = area_finer (pos 0) (pos (min 300 (E c)))

  area2_finer : area2 c' ≡ times n (area2 c)
  unfolding area2
  area2_finer = area_finer (pos 300) (pos (min 400 (E c)))

  area3_finer : area3 c' ≡ times n (area3 c)
  unfolding area3
  area3_finer = area_finer (pos 0) (pos (min 400 (E c)))

  -- A figure that is n times as great, against a limit that is.
  limit_finer : (l : ℕ) (z z' : ℤ) → z' ≡ times n z → le_z (pos (n * c.unit * l)) z' ≡ le_z (pos (c.unit * l)) z
  limit_finer l z z' h = ap₂ (λ (a : ℕ) (b : ℤ). le_z (pos a) b) (long l) h ∙ le_times n some (pos (c.unit * l)) z

  passes1_finer : passes1 c' ≡ passes1 c
  unfolding passes1
  passes1_finer = limit_finer _ (area1 c) (area1 c') area1_finer

  passes2_finer : passes2 c' ≡ passes2 c
  unfolding passes2
  passes2_finer = limit_finer _ (area2 c) (area2 c') area2_finer

  passes3_finer : passes3 c' ≡ passes3 c
  unfolding passes3
  passes3_finer = limit_finer _ (area3 c) (area3 c') area3_finer

  -- ---- 4 and 5
  peak_finer : (t m : ℕ) → peak (λ t. y c' (pos t)) t m ≡ peak (λ t. y c (pos t)) t m
  peak_finer t m = ap (λ (f : ℤ → ℤ). peak (λ t. f (pos t)) t m) y_finer ∙ peak_times n some (λ t. y c (pos t)) t m

  lever_greatest : greatest_lever c' ≡ times n (greatest_lever c)
  unfolding greatest_lever
  lever_greatest = go (ltb (E c) (set c).from)
    where
      go : (b : Bool) → elim b [ true ↦ pos 0 | false ↦ y c' (pos (peak (λ t. y c' (pos t)) (set c).from (E c - (set c).from))) ] ≡ times n (elim b [ true ↦ pos 0 | false ↦ y c (pos (peak (λ t. y c (pos t)) (set c).from (E c - (set c).from))) ])
      go true = times_zero n
      go false = y_at (pos (peak (λ t. y c' (pos t)) (set c).from (E c - (set c).from))) ∙ ap (λ (t : ℕ). times n (y c (pos t))) (peak_finer (set c).from (E c - (set c).from))

  passes4_finer : passes4 c' ≡ passes4 c
  unfolding passes4
  passes4_finer = rw (limit_finer (set c).lever (greatest_lever c) (greatest_lever c') lever_greatest)

  angle_finer : angle_of_greatest c' ≡ angle_of_greatest c
  unfolding angle_of_greatest
  angle_finer = peak_finer 0 (E c)

  passes5_finer : passes5 c' ≡ passes5 c
  unfolding passes5
  passes5_finer = ap (λ (t : ℕ). leb (set c).angle t) angle_finer

  -- ---- 6
  gm_finer : gm c' ≡ times n (gm c)
  gm_finer = ap (λ (a : ℕ). sub_ℕ a (n * c.kg)) (long c.km) ∙ times_sub n (c.unit * c.km) c.kg

  passes6_finer : passes6 c' ≡ passes6 c
  unfolding passes6
  passes6_finer = limit_finer _ (gm c) (gm c') gm_finer

  -- ---- 7
  lw1_finer : lw1 c' ≡ lw1 c
  unfolding lw1
  lw1_finer = refl

  lw2_finer : lw2 c' ≡ lw2 c
  unfolding lw1 lw2
  lw2_finer = refl

  units_finer : (l l' : ℕ) → l' ≡ l → units c'.unit l' ≡ times n (units c.unit l)
  units_finer l l' h = ap pos (ap (λ (l : ℕ). n * c.unit * 5_000_000 * l) h ∙ longer 5_000_000 l)

  reaches_finer : (l l' t t' e : ℕ) → l' ≡ l → t' ≡ t → reaches (y c') (units c'.unit l') t' e ≡ reaches (y c) (units c.unit l) t e
  reaches_finer l l' t t' e h i = ap₂ (λ (f : ℤ → ℤ) (z : ℤ). reaches f z t' e) y_finer (units_finer l l' h) ∙ ap (λ (t : ℕ). reaches (λ t. times n (y c t)) (times n (units c.unit l)) t e) i ∙ reaches_times n some (y c) (units c.unit l) t e

  phi0_finer : phi0 c' ≡ phi0 c
  unfolding phi0
  phi0_finer = reaches_finer (lw1 c) (lw1 c') 0 0 (E c) lw1_finer refl

  phi0_figure_finer : phi0_figure c' ≡ phi0_figure c
  phi0_figure_finer = ap (λ (t : ℕ). cond (leb t (E c)) (pos t) (negsuc 0)) phi0_finer

  passes7_finer : passes7 c' ≡ passes7 c
  unfolding passes7
  passes7_finer = ap (λ (t : ℕ). leb t (E c) && leb t (set c).heel && (not (set c).deck || leb (10 * t) (8 * c.weather.sky.deck_edge))) phi0_finer

  -- ---- 8: whether it is judged
  q_finer : q c' ≡ q c
  unfolding q C b
  q_finer = refl

  period_finer : period c' ≡ period c
  unfolding period
  period_finer = ap (λ (g : ℕ → Bool). greatest g longest_period) (fun_ext (λ m. ap₂ leb (left m) right ∙ leb_times n some (m * m * (c.unit * c.km - c.kg)) (c.unit * 10 * q c * q c)))
    where
      left : (m : ℕ) → m * m * (c'.unit * c.km - c'.kg) ≡ n * (m * m * (c.unit * c.km - c.kg))
      left m = ap (λ (a : ℕ). m * m * (a - n * c.kg)) (long c.km) ∙ ap (λ (a : ℕ). m * m * a) (sym (mul-sub n (c.unit * c.km) c.kg)) ∙ mul_left_comm (m * m) n (c.unit * c.km - c.kg)

      squared : (a : ℕ) → n * c.unit * 10 * a * a ≡ n * (c.unit * 10 * a * a)
      squared a = omega arith

      right : c'.unit * 10 * q c' * q c' ≡ n * (c.unit * 10 * q c * q c)
      right = ap (λ (a : ℕ). c'.unit * 10 * a * a) q_finer ∙ squared (q c)

  not_judged_finer : not_judged c' ≡ not_judged c
  unfolding not_judged outside_range
  not_judged_finer = five (leb (35 * c.draught) (10 * c.ship.breadth)) (ap (λ (a : ℕ). leb a (n * c.kg)) (long c.km) ∙ leb_times n some (c.unit * c.km) c.kg)
      (ap₂ ltb (mul_left_comm 10 n c.kg) (longer 7 c.draught) ∙ ltb_times n some (10 * c.kg) (c.unit * 7 * c.draught))
      (ap₂ ltb (longer 15 c.draught) (mul_left_comm 10 n c.kg) ∙ ltb_times n some (c.unit * 15 * c.draught) (10 * c.kg))
      (ap (leb longest_period) period_finer)
    where
      five : (w : Bool) {v v' x x' y y' z z' : Bool} → v' ≡ v → x' ≡ x → y' ≡ y → z' ≡ z → v' || w || x' || y' || z' ≡ v || w || x || y || z
      five w e f g h = rw (e, f, g, h)

  -- ---- 8: the gust
  u_finer : u c' ≡ u c
  unfolding u
  u_finer = reaches_finer (lw2 c) (lw2 c') (phi0 c) (phi0 c') (farthest c) lw2_finer phi0_finer

  no_gust_finer : no_gust c' ≡ no_gust c
  unfolding no_gust
  no_gust_finer = ap₂ (λ (a b : ℕ). ltb (E c) a || ltb (farthest c) b) phi0_finer u_finer

  e_finer : e c' ≡ e c
  unfolding e
  e_finer = ap₂ (λ (f : ℤ → ℤ) (z : ℤ). stays f z (u c') (farthest c)) y_finer (units_finer (lw2 c) (lw2 c') lw2_finer) ∙ ap (λ (t : ℕ). stays (λ t. times n (y c t)) (times n (units c.unit (lw2 c))) t (farthest c)) u_finer ∙ stays_times n some (y c) (units c.unit (lw2 c)) (u c) (farthest c)

  -- ---- 8: the roll, where it is judged
  p_finer : p c' ≡ p c
  unfolding p Rattle.rules.specs.Roll.k x1 x2 b
  p_finer = refl

  s_finer : s c' ≡ s c
  unfolding s
  s_finer = ap (table Rattle.rules.specs.Rounding.up S) period_finer

  module _ (j : Judged c) where
    r_finer : r c' ≡ r c
    unfolding r_of
    r_finer = ap (λ (z : ℤ). pos 730 +ℤ z) (ap (λ (d : ℕ). ceil_z (pos 600 *ℤ sub_ℕ (n * c.kg) d) d) (long c.draught) ∙ ap (λ (z : ℤ). ceil_z z (n * deep c j)) (ap (λ (z : ℤ). pos 600 *ℤ z) (times_sub n c.kg (deep c j)) ∙ turned (sub_ℕ c.kg (deep c j))) ∙ ceil_times n some (pos 600 *ℤ sub_ℕ c.kg (deep c j)) (deep c j) (deep_pos c j))
      where
        turned : (z : ℤ) → pos 600 *ℤ times n z ≡ times n (pos 600 *ℤ z)
        turned z = eq! (pos 600 *ℤ times n z) (times n (pos 600 *ℤ z)) (omega (arith, up_mull 600 (times n z), dn_mull 600 (times n z), up_mull n z, dn_mull n z, up_mull n (pos 600 *ℤ z), dn_mull n (pos 600 *ℤ z), ap (λ (x : ℕ). n * x) (up_mull 600 z), ap (λ (x : ℕ). n * x) (dn_mull 600 z)))

    phi1_finer : phi1 c' ≡ phi1 c
    unfolding phi1
    phi1_finer = rw (p_finer, r_finer, s_finer)

    start_finer : start c' ≡ start c
    unfolding start
    start_finer = go (le_z (y c' (pos (phi0 c'))) (units c'.unit (lw1 c'))) (le_z (y c (pos (phi0 c))) (units c.unit (lw1 c))) (ap₂ le_z (y_at (pos (phi0 c')) ∙ ap (λ (t : ℕ). times n (y c (pos t))) phi0_finer) (units_finer (lw1 c) (lw1 c') lw1_finer) ∙ le_times n some (y c (pos (phi0 c))) (units c.unit (lw1 c)))
      where
        from : Bool → ℕ → ℕ → ℤ
        from b h f = elim b [ true ↦ pos h -ℤ pos f | false ↦ pos h -ℤ pos 1 -ℤ pos f ]

        go : (b b' : Bool) → b ≡ b' → from b (phi0 c') (phi1 c') ≡ from b' (phi0 c) (phi1 c)
        go b b' h = rw (h, phi0_finer, phi1_finer)

    net_finer : net c' ≡ times n (net c)
    unfolding net
    net_finer =
        ap₂ (λ (z : ℤ) (a : ℕ). area (y c') z (pos a) -ℤ pos 2 *ℤ units c'.unit (lw2 c') *ℤ (pos a -ℤ z)) start_finer e_finer
        ∙ ap₂ (λ (a b : ℤ). a -ℤ pos 2 *ℤ b *ℤ (pos (e c) -ℤ start c)) (area_finer (start c) (pos (e c))) (units_finer (lw2 c) (lw2 c') lw2_finer)
        ∙ turned (area (y c) (start c) (pos (e c))) (c.unit * 5_000_000 * lw2 c) (pos (e c) -ℤ start c)
      where
        turned : (a : ℤ) (l : ℕ) (z : ℤ) → times n a -ℤ pos (2 * (n * l)) *ℤ z ≡ times n (a -ℤ pos (2 * l) *ℤ z)
        turned a l z = ap (λ (x : ℤ). times n a -ℤ x) (eq! (pos (2 * (n * l)) *ℤ z) (times n (pos (2 * l) *ℤ z)) (omega (arith, up_mull (2 * (n * l)) z, dn_mull (2 * (n * l)) z, up_mull n (pos (2 * l) *ℤ z), dn_mull n (pos (2 * l) *ℤ z), ap (λ (x : ℕ). n * x) (up_mull (2 * l) z), ap (λ (x : ℕ). n * x) (dn_mull (2 * l) z)))) ∙ times_diff n a (pos (2 * l) *ℤ z)

    passes8_finer : passes8 c' ≡ passes8 c
    unfolding passes8
    passes8_finer = ap₂ le_z (times_zero n) net_finer ∙ le_times n some (pos 0) (net c)

  verdict8_finer : verdict8 c' ≡ verdict8 c
  unfolding verdict8
  verdict8_finer = go (not_judged c) refl
    where
      given : Bool → Bool → Bool → Verdict
      given a b c = elim a [ true ↦ unjudged | false ↦ elim b [ true ↦ fail | false ↦ verdict c ] ]

      go : (b : Bool) → not_judged c ≡ b → given (not_judged c') (no_gust c') (passes8 c') ≡ given (not_judged c) (no_gust c) (passes8 c)
      go true h = rw (not_judged_finer, h)
      go false h = rw (not_judged_finer, h, no_gust_finer, passes8_finer (judged c h))

  -- A figure of 8, by what it is where 8 is judged.
  where8-finer : (f : ℤ → ℤ) → f (pos 0) ≡ pos 0 → (z z' : ℤ) → (Judged c → z' ≡ f z) → where8 c' z' ≡ f (where8 c z)
  unfolding where8
  where8-finer f f0 z z' i = go (not_judged c) (no_gust c) refl
    where
      go : (b g : Bool) → not_judged c ≡ b → elim (not_judged c') [ true ↦ pos 0 | false ↦ elim (no_gust c') [ true ↦ pos 0 | false ↦ z' ] ] ≡ f (elim (not_judged c) [ true ↦ pos 0 | false ↦ elim (no_gust c) [ true ↦ pos 0 | false ↦ z ] ])
      go true g h = rw (not_judged_finer, h) (sym f0)
      go false g h = rw (not_judged_finer, h, no_gust_finer) (inner (no_gust c))
        where
          inner : (g : Bool) → elim g [ true ↦ pos 0 | false ↦ z' ] ≡ f (elim g [ true ↦ pos 0 | false ↦ z ])
          inner true = sym f0
          inner false = i (judged c h)

-- ---- the judgement
verdicts_finer : (n : ℕ) → 0 < n → (c : Loaded) → (judgement (finer n c)).verdicts ≡ (judgement c).verdicts
verdicts_finer n some c = verdicts_are (finer n c) ∙ (λ i. slot (uses c 1) (verdict (passes1_finer n some c i)) ∷ slot (uses c 2) (verdict (passes2_finer n some c i)) ∷ slot (uses c 3) (verdict (passes3_finer n some c i)) ∷ slot (uses c 4) (verdict (passes4_finer n some c i)) ∷ slot (uses c 5) (verdict (passes5_finer n some c i)) ∷ slot (uses c 6) (verdict (passes6_finer n some c i)) ∷ slot (uses c 7) (verdict (passes7_finer n some c i)) ∷ slot (uses c 8) (verdict8_finer n some c i) ∷ []) ∙ sym (verdicts_are c)

figures_finer : (n : ℕ) → 0 < n → (c : Loaded) → (judgement (finer n c)).figures ≡ raised n goes_up (judgement c).figures
figures_finer n some c = figures_are (finer n c) ∙ (λ i. pos c.w ∷ pos (n * c.kg) ∷ gm_finer n some c i ∷ area1_finer n some c i ∷ area2_finer n some c i ∷ area3_finer n some c i ∷ lever_greatest n some c i ∷ pos (angle_finer n some c i) ∷ phi0_figure_finer n some c i ∷ where8-finer n some c (λ z. z) refl (pos (phi1 c)) (pos (phi1 (finer n c))) (λ j. ap pos (phi1_finer n some c j)) i ∷ where8-finer n some c (times n) (sym (times_zero n)) (net c) (net (finer n c)) (net_finer n some c) i ∷ []) ∙ sym (ap (raised n goes_up) (figures_are c))

pub judgement_finer : (n : ℕ) → 0 < n → (c : Loaded) → judgement (finer n c) ≡ manifold n (judgement c)
judgement_finer n some c = λ i. record { verdicts = verdicts_finer n some c i; figures = figures_finer n some c i }
