-- Any two results that a contract admits are the same, and any two buffers. Of `read_text`: what was read, each row of the table, each refusal with its place, and the count of condition lines.
use mathlib.Core.Path.{◌≡◌, sym, ◌∙◌}
use mathlib.Core.List.{List}
use Prim.Native.Nat.{ℕ}
use Rattle.reading.specs.Fronts.{Fronts}
use Rattle.reading.proofs.read_text.Reads as read-text
use Rattle.reading.proofs.read_condition.Reads as read-condition
use Rattle.reading.proofs.held.Held.new.Reads as new
use Rattle.reading.proofs.held.Held.begins_a3.Reads as begins-a3
use Rattle.reading.proofs.held.Held.ship.Reads as ship
use Rattle.reading.proofs.held.Held.row.Reads as row
use Rattle.reading.proofs.held.Held.misplaced.Reads as misplaced
use Rattle.reading.proofs.state.State.moved.Reads as moved
use Rattle.reading.proofs.state.Tally.tallied.Reads as tallied

pub read_text_one : (κs a r r' s s' : _) → read-text.Post κs a r s → read-text.Post κs a r' s' → r ≡ r'
read_text_one κs a r r' s s' p q = p ∙ sym q

pub read_condition_one : (κs a r r' s s' : _) → read-condition.Post κs a r s → read-condition.Post κs a r' s' → (r ≡ r') × (s.1.1.0.now ≡ s'.1.1.0.now)
read_condition_one κs a r r' s s' p q = (p.0 ∙ sym q.0, p.1 ∙ sym q.1)

-- What is held of a line: the same bytes, of as many, and the same number.
pub held_new_one : (κs a r r' s s' : _) → new.Post κs a r s → new.Post κs a r' s' → (r.front.now ≡ r'.front.now) × (r.n ≡ r'.n) × (r.line ≡ r'.line)
held_new_one κs a r r' s s' p q = (p.0 ∙ sym q.0, p.1 ∙ sym q.1, p.2 ∙ sym q.2)

-- Of any line that begins with what is held.
pub begins_a3_one : (κs a r r' s s' : _) → begins-a3.Post κs a r s → begins-a3.Post κs a r' s' → (l : List ℕ) → Fronts a.0.front.now a.0.n l → r ≡ r'
begins_a3_one κs a r r' s s' p q l F = p l F ∙ sym (q l F)

pub held_ship_one : (κs a r r' s s' : _) → ship.Post κs a r s → ship.Post κs a r' s' → (l : List ℕ) → Fronts a.0.front.now a.0.n l → r ≡ r'
held_ship_one κs a r r' s s' p q l F = p l F ∙ sym (q l F)

pub held_row_one : (κs a r r' s s' : _) → row.Post κs a r s → row.Post κs a r' s' → (l : List ℕ) → Fronts a.0.front.now a.0.n l → r ≡ r'
held_row_one κs a r r' s s' p q l F = p l F ∙ sym (q l F)

pub misplaced_one : (κs a r r' s s' : _) → misplaced.Post κs a r s → misplaced.Post κs a r' s' → (l : List ℕ) → Fronts a.0.front.now a.0.n l → r ≡ r'
misplaced_one κs a r r' s s' p q l F = p l F ∙ sym (q l F)

pub moved_one : (κs a r r' s s' : _) → moved.Post κs a r s → moved.Post κs a r' s' → (l : List ℕ) → Fronts a.1.0.front.now a.1.0.n l → r ≡ r'
moved_one κs a r r' s s' p q l F = p l F ∙ sym (q l F)

pub tallied_one : (κs a r r' s s' : _) → tallied.Post κs a r s → tallied.Post κs a r' s' → (l : List ℕ) → Fronts a.1.0.front.now a.1.0.n l → r ≡ r'
tallied_one κs a r r' s s' p q l F = p l F ∙ sym (q l F)
