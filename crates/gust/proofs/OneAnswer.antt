-- Any two results that the contract of a public function admits are the same.
use mathlib.Core.Path.{◌≡◌, sym, ◌∙◌}
use Rattle.gust.proofs.steady.Reads as steady
use Rattle.gust.proofs.weathered.Reads as weathered

pub steady_one : (κs a r r' s s' : _) → steady.Post κs a r s → steady.Post κs a r' s' → r ≡ r'
steady_one κs a r r' s s' p q = p ∙ sym q

pub weathered_one : (κs a r r' s s' : _) → weathered.Post κs a r s → weathered.Post κs a r' s' → r ≡ r'
weathered_one κs a r r' s s' p q = p ∙ sym q
