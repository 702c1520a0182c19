-- What one entry within its limits adds at most: to the masses, to the moments, to the free surface moments.
use mathlib.Core.Path.{◌≡◌}
use mathlib.Core.Bool.{Bool, true, false, cond}
use Prim.Native.Nat.{ℕ, ◌*◌, ◌≤◌}
use native.Mathlib.Omega.{arith}
use native.Mathlib.Nat.{mul-le-mul, mul-le-mul_left}
use Rattle.rules.specs.Blocks.{ok, Load, item, tank, Values, entry}
use Rattle.rules.specs.Loading.{Entry, mass, moment, surface_counts, free_surface}
use Rattle.rules.proofs.layout.Fields.{ok_at}

abbrev pub Each : (Entry → ℕ) → ℕ → Type 0
Each f n = (k : Load) (v : Values k) → ok (entry k) v ≡ true → f (record { kind = k; values = v }) ≤ n

pub masses : Each mass 600_000_000
masses item v e = (ok_at (entry item) v e 0).1
masses (tank k) v e = (ok_at (entry (tank k)) v e 0).1

pub moments : Each moment (600_000_000 * 60_000)
moments item v e = let l = ok_at (entry item) v e in mul-le-mul (l 0).1 (l 1).1
moments (tank k) v e = let l = ok_at (entry (tank k)) v e in mul-le-mul (l 0).1 (l 1).1

pub surfaces : Each free_surface (1000 * 2_000 * 100_000)
surfaces item v e = omega arith
surfaces (tank k) v e = let l = ok_at (entry (tank k)) v e in or_none (surface_counts k v.fill) (mul-le-mul (mul-le-mul_left 1000 (l 3).1) (l 4).1)
  where
    or_none : {a n : ℕ} (b : Bool) → a ≤ n → cond b a 0 ≤ n
    or_none true h = h
    or_none false h = omega arith
