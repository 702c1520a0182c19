-- Any two results that the contract of a public function admits are the same.
use mathlib.Core.Path.{◌≡◌, sym, ◌∙◌}
use Rattle.numbers.proofs.number_at.Reads as number-at
use Rattle.numbers.proofs.fits.Reads as fits
use Rattle.numbers.proofs.character.Reads as character

pub number_at_one : (n f κs a r r' s s' : _) → number-at.Post n f κs a r s → number-at.Post n f κs a r' s' → r ≡ r'
number_at_one n f κs a r r' s s' p q = p.0 ∙ sym q.0

pub fits_one : (κs a r r' s s' : _) → fits.Post κs a r s → fits.Post κs a r' s' → r ≡ r'
fits_one κs a r r' s s' p q = p ∙ sym q

pub character_one : (κs a r r' s s' : _) → character.Post κs a r s → character.Post κs a r' s' → r ≡ r'
character_one κs a r r' s s' p q = p ∙ sym q
