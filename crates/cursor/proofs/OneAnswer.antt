-- Any two results that the contract of a public function admits are the same. (A reader over a part is settled by its bytes, their place in memory, and their place in the text.)
use mathlib.Core.Path.{◌≡◌, sym, ◌∙◌}
use Rattle.cursor.specs.declared.Reader.{Reader}
use Rattle.cursor.proofs.Reader.new.Reads as new
use Rattle.cursor.proofs.Reader.is_empty.Reads as is-empty
use Rattle.cursor.proofs.Reader.begins.Reads as begins
use Rattle.cursor.proofs.Reader.body.Reads as body
use Rattle.cursor.proofs.Reader.rest.Reads as rest

pub new_one : (κs a r r' s s' : _) → new.Post κs a r s → new.Post κs a r' s' → r ≡ r'
new_one κs a r r' s s' p q = λ i. record { src = (p.0 ∙ sym q.0) i; place = (p.1 ∙ sym q.1) i }

pub is_empty_one : (κs a r r' s s' : _) → is-empty.Post κs a r s → is-empty.Post κs a r' s' → r ≡ r'
is_empty_one κs a r r' s s' p q = p ∙ sym q

pub begins_one : (κs a r r' s s' : _) → begins.Post κs a r s → begins.Post κs a r' s' → r ≡ r'
begins_one κs a r r' s s' p q = p ∙ sym q

-- Two readers that are the same but for what their memory holds further on.
abbrev Same : Reader → Reader → Type 0
Same q q' = (q.src.now ≡ q'.src.now) × (q.src.ref_ptr ≡ q'.src.ref_ptr) × (q.place ≡ q'.place)

pub body_one : (κs a r r' s s' : _) → body.Post κs a r s → body.Post κs a r' s' → Same r r'
body_one κs a r r' s s' p q = (p.bytes ∙ sym q.bytes, p.memory ∙ sym q.memory, p.place ∙ sym q.place)

pub rest_one : (κs a r r' s s' : _) → rest.Post κs a r s → rest.Post κs a r' s' → Same r r'
rest_one κs a r r' s s' p q = (p.bytes ∙ sym q.bytes, p.memory ∙ sym q.memory, p.place ∙ sym q.place)
