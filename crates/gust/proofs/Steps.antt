-- What the steps of criterion 8 read is what the rules say: lw1 and lw2 in the machine, phi0, u and e.
use mathlib.Core.Path.{◌≡◌, ap, sym, ◌∙◌}
use Prim.Native.Nat.{ℕ, ◌≤◌}
use native.Mathlib.Omega.{arith}
use lib.IntN.{pos}
use lib.Signed.{le_z}
use mathlib.Core.Bool.{true, false}
use mir.Syntax.{w64}
use mir.Val.{to_z, of_z}
use Rattle.std.specs.Prelude.{None, Some}
use Rattle.rules.specs.Loading.{tenths}
use Rattle.rules.specs.Curve.{Loaded, E, y}
use Rattle.rules.specs.Criteria.{lw1, lw2, units, reaches, phi0}
use Rattle.rules.specs.Roll.{farthest, u, stays, e, not_judged, no_gust}
use Rattle.rules.proofs.rounding.Signed.{le_true}
use Rattle.rules.proofs.criteria.Angles.{u_is}
use Rattle.curve.specs.declared.tenths.Curve.{Curve}
use Rattle.curve.specs.Heeled.{heeled, not_past}
use Rattle.roll.proofs.Limits.{lw1_to, lw2_to}
use Rattle.gust.specs.declared.Wind.{Wind}
use Rattle.gust.specs.Gusts.{wind_of, Blown}
use Rattle.gust.proofs.Machine.{seen}
use Rattle.gust.proofs.Eighth.{past, within, no_heel, never_met, met}

module _ (k : Curve) (w : Wind) (is : w ≡ wind_of (heeled k)) where
  abbrev c : Loaded
  c = heeled k

  -- ---- the wind levers
  pub lw1_seen : to_z w64 (of_z w64 w.lw1) ≡ units tenths (lw1 c)
  lw1_seen = seen _ _ (ap (λ (w : Wind). w.lw1) is) (omega (arith, lw1_to c k.ship.now.fair))

  pub lw2_seen : to_z w64 (of_z w64 w.lw2) ≡ units tenths (lw2 c)
  lw2_seen = seen _ _ (ap (λ (w : Wind). w.lw2) is) (omega (arith, lw2_to c k.ship.now.fair))

  -- ---- phi0
  pub none_heeled : w.phi0 ≡ None → no_gust c ≡ true
  none_heeled h = no_heel c (past (E c) (phi0 c) (sym (ap (λ (w : Wind). w.phi0) is) ∙ h))

  module _ (p : ℕ) (there : w.phi0 ≡ Some p) where
    pub heeled_at : (p ≡ phi0 c) × (phi0 c ≤ E c)
    heeled_at = within (E c) (phi0 c) p (sym (ap (λ (w : Wind). w.phi0) is) ∙ there)

    -- ---- u and e
    module _ (far : ℕ) (end : far ≡ farthest c) where
      searched : reaches (y c) (to_z w64 (of_z w64 w.lw2)) p far ≡ u c
      unfolding u
      searched = rw (lw2_seen, heeled_at.0, end)

      pub none_met : not_past far (reaches (y c) (to_z w64 (of_z w64 w.lw2)) p far) ≡ None → no_gust c ≡ true
      none_met h = never_met c heeled_at.1 (past (farthest c) (u c) (rw (searched, end) at h))

      module _ (n : ℕ) (found : not_past far (reaches (y c) (to_z w64 (of_z w64 w.lw2)) p far) ≡ Some n) where
        pub met_at : (n ≡ u c) × (u c ≤ farthest c)
        met_at = within (farthest c) (u c) n (rw (searched, end) at found)

        pub blown : not_judged c ≡ false → Blown c
        blown judged = record { fair = k.ship.now.fair; judged = judged; met = met c heeled_at.1 met_at.1 }

        -- There it is at the level, and stays from there on.
        pub levelled : le_z (to_z w64 (of_z w64 w.lw2)) (y c (pos n)) ≡ true
        levelled = rw (lw2_seen, met_at.0) (le_true (units tenths (lw2 c)) (y c (pos (u c))) ((u_is c).hit met_at.1))

        pub stayed : stays (y c) (to_z w64 (of_z w64 w.lw2)) n far ≡ e c
        unfolding e
        stayed = rw (lw2_seen, met_at.0, end)
