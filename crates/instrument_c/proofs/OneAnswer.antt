-- Any two results and buffers that the contract of an exported function admits are the same.
use mathlib.Core.Path.{◌≡◌, sym, ◌∙◌}
use Rattle.instrument_c.proofs.rostblume_judge.Reads as exported
use Rattle.instrument_c.proofs.rostblume_room.Reads as exported-room

pub rostblume_judge_one : (κs a r r' s s' : _) → exported.Post κs a r s → exported.Post κs a r' s' → (r ≡ r') × (s.1.0.now ≡ s'.1.0.now)
rostblume_judge_one κs a r r' s s' p q = (p.0 ∙ sym q.0, p.1 ∙ sym q.1)

pub rostblume_room_one : (κs a r r' s s' : _) → exported-room.Post κs a r s → exported-room.Post κs a r' s' → r ≡ r'
rostblume_room_one κs a r r' s s' p q = p ∙ sym q
