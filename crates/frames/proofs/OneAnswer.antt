-- Any two results that the contract of a public function admits are the same.
use mathlib.Core.Path.{◌≡◌, sym, ◌∙◌}
use Rattle.frames.proofs.ship_frame.Reads as ship-frame
use Rattle.frames.proofs.row_frame.Reads as row_frame
use Rattle.frames.proofs.condition_frame.Reads as condition_frame
use Rattle.frames.proofs.long.LongLine.frame.Reads as long-frame
use Rattle.frames.proofs.long.LongLine.condition.Reads as long_condition_lem

pub ship_frame_one : (κs a r r' s s' : _) → ship-frame.Post κs a r s → ship-frame.Post κs a r' s' → r ≡ r'
ship_frame_one κs a r r' s s' p q = p ∙ sym q

pub row_frame_one : (κs a r r' s s' : _) → row_frame.Post κs a r s → row_frame.Post κs a r' s' → r ≡ r'
row_frame_one κs a r r' s s' p q = p ∙ sym q

pub condition_frame_one : (κs a r r' s s' : _) → condition_frame.Post κs a r s → condition_frame.Post κs a r' s' → r ≡ r'
condition_frame_one κs a r r' s s' p q = p ∙ sym q

pub long_frame_one : (κs a r r' s s' : _) → long-frame.Post κs a r s → long-frame.Post κs a r' s' → r ≡ r'
long_frame_one κs a r r' s s' p q = p ∙ sym q

pub long_condition_one : (κs a r r' s s' : _) → long_condition_lem.Post κs a r s → long_condition_lem.Post κs a r' s' → r ≡ r'
long_condition_one κs a r r' s s' p q = p ∙ sym q
