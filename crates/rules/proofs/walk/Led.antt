-- A ship and rows as they must be (`Led` of specs/Met), and one row more: what a walk has behind it grows line by line.
use mathlib.Core.Path.{◌≡◌, refl, ap}
use mathlib.Core.Bool.{true}
use mathlib.Core.List.{List, [], ◌∷◌, ◌++◌}
use Prim.Native.Nat.{ℕ, ◌<◌}
use native.Mathlib.Omega.{arith}
use lib.ListN.{length, length-append}
use Rattle.rules.specs.Blocks.{ok, spell_block, Ship, ship, Row, row, smooth}
use Rattle.rules.specs.Layout.{Rising, NoSlips, most_rows}
use Rattle.rules.specs.Met.{Led, behind_rows, lead}
use Rattle.rules.specs.Loading.{last_mass}
use Rattle.rules.proofs.walk.Frames.{RowPasses}

-- ---- the last row's W
-- That of the last of these rows, or p where there is none.
unfoldable pub last_from : ℕ → List Row → ℕ
last_from p [] = p
last_from p (v ∷ vs) = last_from v.mass vs

pub last_from_lem : (vs : List Row) → last_from 0 vs ≡ last_mass vs
unfolding last_from last_mass
last_from_lem [] = refl
last_from_lem (v ∷ vs) = go v vs
  where
    go : (v : Row) (vs : List Row) → last_from v.mass vs ≡ last_mass (v ∷ vs)
    go v [] = refl
    go v (u ∷ vs) = go u vs

pub last_snoc : (vs : List Row) (v : Row) → last_mass (vs ++ (v ∷ [])) ≡ v.mass
unfolding last_mass
last_snoc [] v = refl
last_snoc (u ∷ []) v = refl
last_snoc (u ∷ w ∷ vs) v = last_snoc (w ∷ vs) v

-- ---- one row more
rows_snoc : (vs : List Row) (v : Row) (ls : List (List ℕ)) → behind_rows (vs ++ (v ∷ [])) ls ≡ behind_rows vs (spell_block row v ∷ ls)
unfolding behind_rows
rows_snoc [] v ls = refl
rows_snoc (u ∷ vs) v ls = ap (spell_block row u ∷◌) (rows_snoc vs v ls)

pub lead_snoc : (s : Ship) (vs : List Row) (v : Row) (ls : List (List ℕ)) → lead s (vs ++ (v ∷ [])) ls ≡ lead s vs (spell_block row v ∷ ls)
lead_snoc s vs v ls = ap (spell_block ship s ∷◌) (rows_snoc vs v ls)

rising_snoc : (vs : List Row) (v : Row) (p : ℕ) → Rising p vs → ok row v ≡ true → last_from p vs < v.mass → Rising p (vs ++ (v ∷ []))
unfolding Rising last_from
rising_snoc [] v p R e h = (e, h, tt)
rising_snoc (u ∷ vs) v p R e h = (R.0, R.1, rising_snoc vs v u.mass R.2 e h)

slips_snoc : (vs : List Row) (v : Row) → NoSlips vs → smooth v.kn ≡ true → NoSlips (vs ++ (v ∷ []))
unfolding NoSlips
slips_snoc [] v S e = (e, tt)
slips_snoc (u ∷ vs) v S e = (S.0, slips_snoc vs v S.1 e)

pub led_none : (s : Ship) → ok ship s ≡ true → Led s []
unfolding Rising NoSlips
led_none s h = record { hull = h; rising = tt; no_slips = tt; many = omega arith }

pub led_snoc : (s : Ship) (vs : List Row) (v : Row) (p : ℕ) → Led s vs → p ≡ last_mass vs → RowPasses p v → length vs < most_rows → Led s (vs ++ (v ∷ []))
led_snoc s vs v p L e F m = record {
  hull = L.hull;
  rising = rising_snoc vs v 0 L.rising F.0 (omega (arith, e, last_from_lem vs, F.1));
  no_slips = slips_snoc vs v L.no_slips F.2;
  many = omega (arith, length-append vs (v ∷ []));
}
