-- Any two results and buffers that the contract of a public function admits are the same.
use mathlib.Core.Path.{◌≡◌, sym, ◌∙◌}
use native.Mathlib.Omega.{arith}
use lib.Seq.{ext_get_or}
use Rattle.text.proofs.line_at.Reads as line
use Rattle.text.proofs.pairs.Digits.new.Reads as new
use Rattle.text.proofs.pairs.Digits.decode.Reads as decode
use Rattle.text.proofs.pairs.Digits.all_pairs.Reads as all-pairs

pub line_at_one : (κs a r r' s s' : _) → line.Post κs a r s → line.Post κs a r' s' → (r ≡ r') × (s.1.0.now ≡ s'.1.0.now)
line_at_one κs a r r' s s' p q = (p.0 ∙ sym q.0, p.1 ∙ sym q.1)

-- A table of digits has the same values.
pub digits_new_one : (κs a r r' s s' : _) → new.Post κs a r s → new.Post κs a r' s' → r.values.now ≡ r'.values.now
digits_new_one κs a r r' s s' p q = ext_get_or 0 r.values.now r'.values.now (r.all.all ∙ sym r'.all.all) (λ i h. r.all.each i (omega (arith, r.all.all)) ∙ sym (r'.all.each i (omega (arith, r.all.all))))

pub decode_one : (κs a r r' s s' : _) → decode.Post κs a r s → decode.Post κs a r' s' → (r ≡ r') × (s.1.1.0.now ≡ s'.1.1.0.now)
decode_one κs a r r' s s' p q = (p.0 ∙ sym q.0, p.1 ∙ sym q.1)

pub all_pairs_one : (κs a r r' s s' : _) → all-pairs.Post κs a r s → all-pairs.Post κs a r' s' → r ≡ r'
all_pairs_one κs a r r' s s' p q = p ∙ sym q
