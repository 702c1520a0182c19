-- Any two results that the contract of a public function admits are the same.
use mathlib.Core.Path.{◌≡◌, sym, ◌∙◌}
use Rattle.roll.proofs.wind_levers.Reads as wind-levers
use Rattle.roll.proofs.rolling.Reads as rolling

pub wind_levers_one : (κs a r r' s s' : _) → wind-levers.Post κs a r s → wind-levers.Post κs a r' s' → r ≡ r'
wind_levers_one κs a r r' s s' p q = p ∙ sym q

pub rolling_one : (κs a r r' s s' : _) → rolling.Post κs a r s → rolling.Post κs a r' s' → r ≡ r'
rolling_one κs a r r' s s' p q = p ∙ sym q
