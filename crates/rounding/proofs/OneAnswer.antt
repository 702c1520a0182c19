-- Any two results that the contract of a public function admits are the same.
use mathlib.Core.Path.{◌≡◌, sym, ◌∙◌}
use Rattle.rounding.proofs.ceil.Reads as ceil
use Rattle.rounding.proofs.ceil_signed.Reads as ceil-signed
use Rattle.rounding.proofs.line.Reads as line
use Rattle.rounding.proofs.table_up.Reads as table_up
use Rattle.rounding.proofs.greatest_square.Reads as greatest-square

pub ceil_one : (κs a r r' s s' : _) → ceil.Post κs a r s → ceil.Post κs a r' s' → r ≡ r'
ceil_one κs a r r' s s' p q = p ∙ sym q

pub ceil_signed_one : (κs a r r' s s' : _) → ceil-signed.Post κs a r s → ceil-signed.Post κs a r' s' → r ≡ r'
ceil_signed_one κs a r r' s s' p q = p ∙ sym q

pub line_one : (κs a r r' s s' : _) → line.Post κs a r s → line.Post κs a r' s' → r ≡ r'
line_one κs a r r' s s' p q = p ∙ sym q

pub table_up_one : (κs a r r' s s' : _) → table_up.Post κs a r s → table_up.Post κs a r' s' → r ≡ r'
table_up_one κs a r r' s s' p q = p ∙ sym q

pub greatest_square_one : (κs a r r' s s' : _) → greatest-square.Post κs a r s → greatest-square.Post κs a r' s' → r ≡ r'
greatest_square_one κs a r r' s s' p q = p ∙ sym q
