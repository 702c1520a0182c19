-- What the code answers of the wind and of the gust, by the rules.
use Rattle.std.specs.Prelude.{◌≡◌, false, cond, ℤ, pos, Option, None, Some}
use Rattle.rules.specs.Curve.{Loaded, E}
use Rattle.rules.specs.Criteria.{lw1, lw2, units, phi0}
use Rattle.rules.specs.Roll.{phi1, net, not_judged, no_gust}
use Rattle.rules.specs.Ranges.{Fair}
use Rattle.curve.specs.Heeled.{not_past}
use Rattle.gust.specs.declared.Wind.{Wind}
use Rattle.gust.specs.declared.Gust.{Gust}
use Rattle.gust.specs.declared.Gust.TheVariants.{NotJudged, Failed, Net}

-- 'Either becomes y units'; and phi0, none where it is past the flooding angle.
abbrev pub wind_of : Loaded → Wind
wind_of c = record { lw1 = units c.unit (lw1 c); lw2 = units c.unit (lw2 c); phi0 = not_past (E c) (phi0 c) }

-- Criterion 8 is judged, and there is a phi0 and a u.
pub record Blown (c : Loaded) : Type 0 where
  pub fair : Fair c
  pub judged : not_judged c ≡ false
  pub met : no_gust c ≡ false

-- The net area, or none where there is no phi0 or no u.
unfoldable pub withstood_of : Loaded → Option ℤ
withstood_of c = cond (no_gust c) None (Some (net c))

unfoldable pub gust_of : Loaded → Gust
gust_of c = cond (not_judged c) NotJudged (cond (no_gust c) Failed (Net (pos (phi1 c)) (net c)))
