-- Any two results and buffers that the contract of a public function admits are the same. Of `judge` itself `one_answer` says so, in Promises.
use mathlib.Core.Path.{◌≡◌, sym, ◌∙◌}
use Rattle.instrument.proofs.judge_within.Reads as within
use Rattle.instrument.proofs.room.Reads as room

pub judge_within_one : (κs a r r' s s' : _) → within.Post κs a r s → within.Post κs a r' s' → (r.number ≡ r'.number) × (r.length ≡ r'.length) × (s.1.1.0.now ≡ s'.1.1.0.now)
judge_within_one κs a r r' s s' p q = (p.0 ∙ sym q.0, p.1.0 ∙ sym q.1.0, p.1.1.0 ∙ sym q.1.1.0)

pub room_one : (κs a r r' s s' : _) → room.Post κs a r s → room.Post κs a r' s' → r ≡ r'
room_one κs a r r' s s' p q = p ∙ sym q
