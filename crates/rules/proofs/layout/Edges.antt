-- 01's table of blocks, restated and tried at its edges: tag, bytes, and each field's limits. The lowest and the highest values are allowed; one beyond, in any one field, is not.
use mathlib.Core.Path.{◌≡◌, refl}
use mathlib.Core.Bool.{Bool, true, false, ◌&&◌, not}
use mathlib.Core.List.{List, [], ◌∷◌, map}
use Prim.Native.Nat.{ℕ, zero, suc, ◌*◌}
use lib.Dec.{eqb}
use lib.ListN.{replicate}
use Rattle.rules.specs.Blocks.{Layout, Field, field, size, within, ok, ship, row, code, timber, weather, Tank, TankKind, ordinary, cargo, item, tank, entry}
use Rattle.rules.specs.Loading.{free_surface_of}

-- The lists that have one number one lower, or one higher, than this one.
abbrev lowered : List ℕ → List (List ℕ)
lowered [] = []
lowered (zero ∷ v) = map (λ w. zero ∷ w) (lowered v)
lowered (suc x ∷ v) = (x ∷ v) ∷ map (λ w. suc x ∷ w) (lowered v)

abbrev raised : List ℕ → List (List ℕ)
raised [] = []
raised (x ∷ v) = (suc x ∷ v) ∷ map (λ w. x ∷ w) (raised v)

module _ {A : Type 0} (L : Layout A) where
  abbrev allowed : List ℕ → Bool
  allowed v = ok L (L.named v)

  abbrev refuses_all : List (List ℕ) → Bool
  refuses_all [] = true
  refuses_all (v ∷ vs) = not (allowed v) && refuses_all vs

  abbrev edges : List ℕ → List ℕ → Bool
  edges lows highs = allowed lows && allowed highs && refuses_all (lowered lows) && refuses_all (raised highs)

abbrev same_widths : List Field → List Field → Bool
same_widths [] [] = true
same_widths [] (g ∷ gs) = false
same_widths (f ∷ fs) [] = false
same_widths (f ∷ fs) (g ∷ gs) = eqb f.width g.width && same_widths fs gs

-- The block is as the table prints it.
abbrev pub printed : {A : Type 0} → Layout A → (tag bytes : ℕ) → List Field → Bool
printed L tag bytes fs = eqb L.tag tag && eqb (size L.fields) bytes && same_widths L.fields fs && edges L (map (λ f. f.low) fs) (map (λ f. f.high) fs)

-- The line of C3, which is C5's too.
abbrev tank_fields : List Field
tank_fields = field 4 0 600_000_000 ∷ field 2 0 60_000 ∷ field 2 0 1_000 ∷ field 2 0 2_000 ∷ field 4 0 100_000 ∷ []

-- The line of C1, which is C6's too.
abbrev weather_fields : List Field
weather_fields = field 4 0 300_000 ∷ field 2 0 60_000 ∷ field 2 200 1_000 ∷ field 2 0 600 ∷ field 2 1 600 ∷ []

abbrev pub blocks : List Bool
blocks =
    printed ship 0xA1 13 (field 4 24_000 400_000 ∷ field 4 3_000 70_000 ∷ field 4 0 20_000 ∷ field 1 0 1 ∷ [])
    ∷ printed row 0xA2 34 (field 4 100_000 600_000_000 ∷ field 2 500 30_000 ∷ field 2 0 60_000 ∷ field 2 0 0 ∷ replicate 12 (field 2 0 30_000))
    ∷ printed (weather code) 0xC1 12 weather_fields
    ∷ printed (weather timber) 0xC6 12 weather_fields
    ∷ printed (entry item) 0xC2 6 (field 4 0 600_000_000 ∷ field 2 0 60_000 ∷ [])
    ∷ printed (entry (tank ordinary)) 0xC3 14 tank_fields
    ∷ printed (entry (tank cargo)) 0xC5 14 tank_fields
    ∷ []

pub blocks_printed : blocks ≡ replicate 7 true
unfolding ok within size
blocks_printed = refl

-- ---- a tank's own rules
abbrev tank_of : (mass fill : ℕ) → Tank
tank_of m f = record { mass = m; centre = 0; fill = f; density = 1_000; inertia = 7 }

-- 'Fill 0 only with mass 0', in both kinds.
pub fill_rule_lem : (k : TankKind) → (ok (entry (tank k)) (tank_of 0 0) ≡ true) × (ok (entry (tank k)) (tank_of 1 0) ≡ false) × (ok (entry (tank k)) (tank_of 1 1) ≡ true)
unfolding ok within
fill_rule_lem ordinary = (refl, refl, refl)
fill_rule_lem cargo = (refl, refl, refl)

-- '1000 x density x inertia if 0 < fill < 980, else 0.'
pub free_surface_lem : map (λ f. free_surface_of (tank ordinary) (tank_of 0 f)) (0 ∷ 1 ∷ 979 ∷ 980 ∷ 1_000 ∷ []) ≡ 0 ∷ 1000 * 1_000 * 7 ∷ 1000 * 1_000 * 7 ∷ 0 ∷ 0 ∷ []
free_surface_lem = refl

-- A cargo tank's 'counts from fill 1 upward, 1,000 included'.
pub cargo_surface : map (λ f. free_surface_of (tank cargo) (tank_of 0 f)) (0 ∷ 1 ∷ 979 ∷ 980 ∷ 1_000 ∷ []) ≡ 0 ∷ replicate 4 (1000 * 1_000 * 7)
cargo_surface = refl
