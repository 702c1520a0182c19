-- Any two results that the contract of a public function admits are the same.
use mathlib.Core.Path.{◌≡◌, sym, ◌∙◌}
use Rattle.blocks.proofs.header.Reads as header
use Rattle.blocks.proofs.entries.block_at.Reads as block_at
use Rattle.blocks.proofs.weather.weather_at.Reads as weather-at
use Rattle.blocks.proofs.frame.Frame.fills_line.Reads as fills-line
use Rattle.blocks.proofs.ship.ship_in.Reads as ship_in
use Rattle.blocks.proofs.row.row_in.Reads as row_in
use Rattle.blocks.proofs.entries.TagTryFromU8.try_from.Reads as tag

pub header_one : (κs a r r' s s' : _) → header.Post κs a r s → header.Post κs a r' s' → r ≡ r'
header_one κs a r r' s s' p q = p ∙ sym q

pub block_at_one : (κs a r r' s s' : _) → block_at.Post κs a r s → block_at.Post κs a r' s' → r ≡ r'
block_at_one κs a r r' s s' p q = p ∙ sym q

pub weather_at_one : (κs a r r' s s' : _) → weather-at.Post κs a r s → weather-at.Post κs a r' s' → r ≡ r'
weather_at_one κs a r r' s s' p q = p ∙ sym q

pub fills_line_one : (κs a r r' s s' : _) → fills-line.Post κs a r s → fills-line.Post κs a r' s' → r ≡ r'
fills_line_one κs a r r' s s' p q = p ∙ sym q

pub ship_in_one : (κs a r r' s s' : _) → ship_in.Post κs a r s → ship_in.Post κs a r' s' → r ≡ r'
ship_in_one κs a r r' s s' p q = p ∙ sym q

pub row_in_one : (κs a r r' s s' : _) → row_in.Post κs a r s → row_in.Post κs a r' s' → r ≡ r'
row_in_one κs a r r' s s' p q = p ∙ sym q

pub tag_one : (κs a r r' s s' : _) → tag.Post κs a r s → tag.Post κs a r' s' → r ≡ r'
tag_one κs a r r' s s' p q = p ∙ sym q
