-- The heel of criterion 7, and criterion 8 against the Code's b - a: 01's own sentences, with a q-th part of a tenth of a degree where they say a tenth. The wind levers are those used, and the roll is phi1 or less.
-- At q-ths y is q times as high, and an area q² times as great.
use Rattle.std.specs.Prelude.{◌≡◌, true, List, ℕ, suc, ◌+◌, ◌-◌, ◌*◌, ◌/◌, ◌%◌, ◌≤◌, ◌<◌, get_or, ℤ, pos, negsuc, neg_ℤ, ◌+ℤ◌, ◌-ℤ◌, ◌*ℤ◌}
use Rattle.std.proofs.Math.IntN.{sub_ℕ}
use Rattle.rules.specs.Curve.{Loaded, sines, y, E, area}
use Rattle.rules.specs.Criteria.{set, lw1, lw2, units, reaches}
use Rattle.rules.specs.Roll.{start, farthest, stays}
use Rattle.rules.proofs.rounding.Signed.{Le}

-- D times the straight-line value of values at stations, D steps apart, at step x. (01's y is by 50 steps, tenths of a degree.)
abbrev pub stepped : ℕ → List ℕ → ℕ → ℕ
stepped D vs x = get_or vs (x / D) 0 * (D - x % D) + get_or vs (x / D + 1) 0 * (x % D)

-- y at q-ths of a tenth: the same straight line from station to station.
unfoldable pub lever_by : ℕ → Loaded → ℕ → ℤ
lever_by q c x = sub_ℕ (c.unit * 100_000 * stepped (q * 50) c.kn x) (c.kg * stepped (q * 50) sines x)

-- 'y(-t) = -y(t).'
unfoldable pub y_by : ℕ → Loaded → ℤ → ℤ
y_by q c (pos x) = lever_by q c x
y_by q c (negsuc x) = neg_ℤ (lever_by q c (suc x))

-- A wind lever, in mm, q times as high in KG's unit.
abbrev pub units_by : ℕ → ℕ → ℕ → ℤ
units_by q unit l = pos (q * (unit * 5_000_000 * l))

-- 'phi0 = first t in 0..E with y >= lw1.'
unfoldable pub phi0_by : ℕ → Loaded → ℕ
phi0_by q c = reaches (y_by q c) (units_by q c.unit (lw1 c)) 0 (q * E c)

-- Criterion 7 at q-ths: 'Pass: phi0 <= 160 and 10 phi0 <= 8 x deck edge', and none is no pass; the deck edge where the set counts it.
pub record PassesAt (q : ℕ) (c : Loaded) : Type 0 where
  pub reached : phi0_by q c ≤ q * E c
  pub upright : phi0_by q c ≤ q * (set c).heel
  pub dry : (set c).deck ≡ true → 10 * phi0_by q c ≤ q * (8 * c.weather.sky.deck_edge)

-- The Code's start: phi0 less the roll, in q-ths too.
unfoldable pub start_by : ℕ → ℕ → Loaded → ℤ
start_by q roll c = pos (phi0_by q c) -ℤ pos roll

-- 'u = first t from phi0 to min(E, 500) with y >= lw2.'
unfoldable pub u_by : ℕ → Loaded → ℕ
u_by q c = reaches (y_by q c) (units_by q c.unit (lw2 c)) (phi0_by q c) (q * farthest c)

-- 'e = the last .. up to which GZ stays at or above lw2 from u on, not beyond min(E, 500).'
unfoldable pub e_by : ℕ → Loaded → ℕ
e_by q c = stays (y_by q c) (units_by q c.unit (lw2 c)) (u_by q c) (q * farthest c)

-- b - a, summed over the whole range: 'area start to e, less 2 lw2 (e - start)'.
unfoldable pub net_by : ℕ → ℕ → Loaded → ℤ
net_by q roll c = area (y_by q c) (start_by q roll c) (pos (e_by q c)) -ℤ pos 2 *ℤ units_by q c.unit (lw2 c) *ℤ (pos (e_by q c) -ℤ start_by q roll c)

-- What the curve has over lw2 at both ends of a step: `net_by` is a sum of these.
abbrev pub gusts : ℕ → Loaded → ℤ → ℤ
gusts q c x = y_by q c x -ℤ units_by q c.unit (lw2 c) +ℤ (y_by q c (x +ℤ pos 1) -ℤ units_by q c.unit (lw2 c))

-- The q-ths are fine enough: the curve has lw1 at phi0 exactly, and lw2 at e, or e is min(E, 500). Then `net_by` is b - a with nothing left out.
pub record Exactly (q : ℕ) (c : Loaded) : Type 0 where
  pub heel : y_by q c (pos (phi0_by q c)) ≡ units_by q c.unit (lw1 c)
  pub end : e_by q c < q * farthest c → y_by q c (pos (e_by q c)) ≡ units_by q c.unit (lw2 c)

-- What the theorem asks of the curve: y lies nowhere below -lw2 from 0 to the reach of the windward side.
abbrev pub NowhereBelow : Loaded → Type 0
NowhereBelow c = (t : ℕ) → Le (start c) (neg_ℤ (pos t)) → Le (neg_ℤ (units c.unit (lw2 c))) (y c (pos t))
