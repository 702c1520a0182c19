-- The limits of the blocks of fixed size, as the code tests them.
use mathlib.Core.Path.{◌≡◌, refl, sym, ◌∙◌}
use mathlib.Core.Bool.{Bool, true, false, cond, ◌&&◌, ◌||◌}
use mathlib.Core.List.{List, ◌∷◌}
use Prim.Native.Nat.{ℕ, ◌*◌, ◌≤◌}
use native.Mathlib.Omega.{arith}
use lib.ListN.{replicate}
use lib.Dec.{ltb, leb, eqb}
use Rattle.std.specs.Prelude.{Some, None, Result, Ok, Err}
use Rattle.rules.specs.Blocks.{Layout, field, within, ok, ship, row, Set, weather, TankKind, ordinary, cargo, Load, item, tank, Values, entry}
use Rattle.rules.specs.Loading.{surface_counts}
use Rattle.rules.proofs.layout.Fields.{both_true, Limited, limited}
use Rattle.book.specs.Book.{bilge_of, plain_ship}
use Rattle.book.specs.declared.Fault.{Fault}
use Rattle.book.specs.declared.Fault.TheVariants.{OutsideLimits}
use Rattle.book.specs.declared.Sums.{Sums}
use Rattle.blocks.specs.BlockAnswers.{tank_kind_of, plain_kind, plain_load, Within, within_limits, sums_of_one}
use Rattle.blocks.specs.declared.entries.Contents.{Contents}
use Rattle.blocks.specs.declared.entries.Load as plain

abbrev pub fit : ℕ → ℕ → ℕ → Bool
fit x low high = leb low x && leb x high

and_right : (b : Bool) → (b && true) ≡ b
and_right true = refl
and_right false = refl

ok_item : (m c : ℕ) → ok (entry item) (record { mass = m; centre = c }) ≡ (fit m 0 600_000_000 && fit c 0 60_000)
unfolding ok within
ok_item m c = simp and_right

ok_tank : (k : TankKind) (m c f d i : ℕ) → ok (entry (tank k)) (record { mass = m; centre = c; fill = f; density = d; inertia = i }) ≡ ((fit m 0 600_000_000 && (fit c 0 60_000 && (fit f 0 1_000 && (fit d 0 2_000 && fit i 0 100_000)))) && (ltb 0 f || eqb m 0))
unfolding ok within
ok_tank k m c f d i = simp and_right

pub ok_weather_lem : (s : Set) (a z b f d : ℕ) → ok (weather s) (record { wind_area = a; z = z; cb = b; flooding = f; deck_edge = d }) ≡ (fit a 0 300_000 && (fit z 0 60_000 && (fit b 200 1_000 && (fit f 0 600 && fit d 1 600))))
unfolding ok within
ok_weather_lem s a z b f d = simp and_right

ok_ship : (l b k r : ℕ) → ok ship (record { hull_length = l; breadth = b; keel_area = k; bilge = r }) ≡ (fit l 24_000 400_000 && (fit b 3_000 70_000 && (fit k 0 20_000 && fit r 0 1)))
unfolding ok within
ok_ship l b k r = simp and_right

pub ship_told : (l b k r : ℕ) → within_limits ship plain_ship (record { hull_length = l; breadth = b; keel_area = k; bilge = r })
    ≡ cond (fit l 24_000 400_000 && (fit b 3_000 70_000 && (fit k 0 20_000 && fit r 0 1))) (Ok (record { length = l; breadth = b; keel = k; bilge = bilge_of r })) (Err OutsideLimits)
ship_told l b k r = rw (ok_ship l b k r)

pub ok_row : (w d k : ℕ) (kn : List ℕ) → ok row (record { mass = w; draught = d; km = k; kn = kn }) ≡ (fit w 100_000 600_000_000 && (fit d 500 30_000 && (fit k 0 60_000 && within (field 2 0 0 ∷ replicate 12 (field 2 0 30_000)) kn)))
unfolding ok within
ok_row w d k kn = and_right _

-- What an answer tells of the values.
module _ {A B : Type 0} (L : Layout A) (f : A → B) (v : A) (r : Result B Fault) (h : r ≡ within_limits L f v) where
  pub told_within : (b : B) → r ≡ Ok b → (ok L v ≡ true) × (b ≡ f v)
  told_within b q = go (ok L v) (sym q ∙ h)
    where
      go : (c : Bool) → Ok b ≡ cond c (Ok (f v)) (Err OutsideLimits) → (c ≡ true) × (b ≡ f v)
      go true p = (refl, cc)
      go false p = absurd (let z : ◌≡◌ {A = ℕ} 0 1 = cc in omega arith)

  pub told_outside : (e : Fault) → r ≡ Err e → ok L v ≡ false
  told_outside e q = go (ok L v) (sym q ∙ h)
    where
      go : (c : Bool) → Err e ≡ cond c (Ok (f v)) (Err OutsideLimits) → c ≡ false
      go true p = absurd (let z : ◌≡◌ {A = ℕ} 0 1 = cc in omega arith)
      go false p = refl

-- ---- an entry, as plain data
pub tank_kind_plain : (k : TankKind) → tank_kind_of (plain_kind k) ≡ k
tank_kind_plain ordinary = refl
tank_kind_plain cargo = refl

module _ (l : plain.Load) where
  pub load_item : (k : Load) (v : Values k) → l ≡ plain_load k v → l.contents ≡ None → ok (entry k) v ≡ (fit l.mass 0 600_000_000 && fit l.centre 0 60_000)
  load_item item v e n = rw e (ok_item v.mass v.centre)
  load_item (tank k) v e n = absurd (let z : ◌≡◌ {A = ℕ} 0 1 = cc in omega arith)

  pub load_tank : (t : Contents) (k : Load) (v : Values k) → l ≡ plain_load k v → l.contents ≡ Some t
      → ok (entry k) v ≡ ((fit l.mass 0 600_000_000 && (fit l.centre 0 60_000 && (fit t.fill 0 1_000 && (fit t.density 0 2_000 && fit t.inertia 0 100_000)))) && (ltb 0 t.fill || eqb l.mass 0))
  load_tank t item v e n = absurd (let z : ◌≡◌ {A = ℕ} 0 1 = cc in omega arith)
  load_tank t (tank k) v e n = let q : t ≡ record { kind = plain_kind k; fill = v.fill; density = v.density; inertia = v.inertia } = cc in rw (e, q) (ok_tank k v.mass v.centre v.fill v.density v.inertia)

  -- Mass and centre within their limits, and what a tank's free surface rests on.
  pub limits_load : (w : Within l) → (l.mass ≤ 600_000_000) × (l.centre ≤ 60_000)
  unfolding ok Limited
  limits_load w = go w.kind w.values w.is w.ok
    where
      go : (k : Load) (v : Values k) → l ≡ plain_load k v → ok (entry k) v ≡ true → (l.mass ≤ 600_000_000) × (l.centre ≤ 60_000)
      go item v e o = let h = limited _ _ (both_true _ _ o).0 in rw e (omega arith)
      go (tank k) v e o = let h = limited _ _ (both_true _ _ o).0 in rw e (omega arith)

  pub limits_tank : (t : Contents) (w : Within l) → l.contents ≡ Some t → (t.density ≤ 2_000) × (t.inertia ≤ 100_000)
  unfolding ok Limited
  limits_tank t w n = go w.kind w.values w.is w.ok
    where
      go : (k : Load) (v : Values k) → l ≡ plain_load k v → ok (entry k) v ≡ true → (t.density ≤ 2_000) × (t.inertia ≤ 100_000)
      go item v e o = absurd (let z : ◌≡◌ {A = ℕ} 0 1 = cc in omega arith)
      go (tank k) v e o =
          let h = limited _ _ (both_true _ _ o).0 in
          let q : t ≡ record { kind = plain_kind k; fill = v.fill; density = v.density; inertia = v.inertia } = cc in
          rw q (omega arith)

  -- What it adds to the sums.
  module _ (k : Load) (v : Values k) (e : l ≡ plain_load k v) where
    pub sums_none : (f : ℕ) → l.contents ≡ None → f ≡ 0 → ◌≡◌ {A = Sums} (record { count = 1; mass = l.mass; moment = l.mass * l.centre; free = f }) (sums_of_one k v)
    sums_none f n z = go k v e
      where
        go : (k : Load) (v : Values k) → l ≡ plain_load k v → ◌≡◌ {A = Sums} (record { count = 1; mass = l.mass; moment = l.mass * l.centre; free = f }) (sums_of_one k v)
        go item v e = rw (e, z)
        go (tank k) v e = absurd (let z : ◌≡◌ {A = ℕ} 0 1 = cc in omega arith)

    pub sums_some : (f : ℕ) (t : Contents) → l.contents ≡ Some t → f ≡ cond (surface_counts (tank_kind_of t.kind) t.fill) (1000 * t.density * t.inertia) 0
        → ◌≡◌ {A = Sums} (record { count = 1; mass = l.mass; moment = l.mass * l.centre; free = f }) (sums_of_one k v)
    sums_some f t n z = go k v e
      where
        go : (k : Load) (v : Values k) → l ≡ plain_load k v → ◌≡◌ {A = Sums} (record { count = 1; mass = l.mass; moment = l.mass * l.centre; free = f }) (sums_of_one k v)
        go item v e = absurd (let z : ◌≡◌ {A = ℕ} 0 1 = cc in omega arith)
        go (tank k) v e = let q : t ≡ record { kind = plain_kind k; fill = v.fill; density = v.density; inertia = v.inertia } = cc in rw (e, z, q, tank_kind_plain k)
