-- Any two results that the contract of a public function admits are the same.
use mathlib.Core.Path.{◌≡◌, sym, ◌∙◌}
use Rattle.book.proofs.Refusal.at.Reads as at
use Rattle.book.proofs.Refusal.in_line.Reads as in-line
use Rattle.book.proofs.afloat.Afloat.new.Reads as new
use Rattle.book.proofs.table.Table.new.Reads as table-new
use Rattle.book.proofs.table.Table.push.Reads as push
use Rattle.book.proofs.table.Table.len.Reads as len
use Rattle.book.proofs.table.Table.as_slice.Reads as as-slice
use Rattle.book.proofs.U8FromFault.from.Reads as fault-number
use Rattle.book.proofs.RefusalFromFault.from.Reads as nowhere
use Rattle.book.proofs.BilgeTryFromU8.try_from.Reads as bilge
use Rattle.book.proofs.SetTryFromU8.try_from.Reads as set
use Rattle.book.proofs.VerdictFromBool.from.Reads as verdict
use Rattle.book.proofs.U8FromVerdict.from.Reads as verdict-number

pub at_one : (κs a r r' s s' : _) → at.Post κs a r s → at.Post κs a r' s' → r ≡ r'
at_one κs a r r' s s' p q = p ∙ sym q

pub in_line_one : (κs a r r' s s' : _) → in-line.Post κs a r s → in-line.Post κs a r' s' → r ≡ r'
in_line_one κs a r r' s s' p q = p ∙ sym q

-- A loaded ship within its ranges: the same ship.
pub afloat_new_one : (κs a r r' s s' : _) → new.Post κs a r s → new.Post κs a r' s' → r.loaded ≡ r'.loaded
afloat_new_one κs a r r' s s' p q = p ∙ sym q

-- A table: the same rows.
pub table_new_one : (κs a r r' s s' : _) → table-new.Post κs a r s → table-new.Post κs a r' s' → r ≡ r'
table_new_one κs a r r' s s' p q = p ∙ sym q

pub push_one : (κs a r r' s s' : _) → push.Post κs a r s → push.Post κs a r' s' → s.0.now ≡ s'.0.now
push_one κs a r r' s s' p q = p ∙ sym q

pub len_one : (κs a r r' s s' : _) → len.Post κs a r s → len.Post κs a r' s' → r ≡ r'
len_one κs a r r' s s' p q = p.0 ∙ sym q.0

pub as_slice_one : (κs a r r' s s' : _) → as-slice.Post κs a r s → as-slice.Post κs a r' s' → r.now ≡ r'.now
as_slice_one κs a r r' s s' p q = p.0 ∙ sym q.0

-- The conversions.
pub fault_number_one : (κs a r r' s s' : _) → fault-number.Post κs a r s → fault-number.Post κs a r' s' → r ≡ r'
fault_number_one κs a r r' s s' p q = p ∙ sym q

pub nowhere_one : (κs a r r' s s' : _) → nowhere.Post κs a r s → nowhere.Post κs a r' s' → r ≡ r'
nowhere_one κs a r r' s s' p q = p ∙ sym q

pub bilge_one : (κs a r r' s s' : _) → bilge.Post κs a r s → bilge.Post κs a r' s' → r ≡ r'
bilge_one κs a r r' s s' p q = p ∙ sym q

pub set_one : (κs a r r' s s' : _) → set.Post κs a r s → set.Post κs a r' s' → r ≡ r'
set_one κs a r r' s s' p q = p ∙ sym q

pub verdict_one : (κs a r r' s s' : _) → verdict.Post κs a r s → verdict.Post κs a r' s' → r ≡ r'
verdict_one κs a r r' s s' p q = p ∙ sym q

pub verdict_number_one : (κs a r r' s s' : _) → verdict-number.Post κs a r s → verdict-number.Post κs a r' s' → r ≡ r'
verdict_number_one κs a r r' s s' p q = p ∙ sym q
