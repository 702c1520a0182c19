-- What the code answers at a condition, from what the rules answer, and at a line of which it holds the front alone.
use Rattle.std.specs.Prelude.{Bool, false, cond, ◌&&◌, List, ℕ, ◌+◌, ltb, eqb, get_or}
use Rattle.rules.specs.Blocks.{ship, row}
use Rattle.rules.specs.Layout.{Entries, most_rows}
use Rattle.rules.specs.Layout as rules
use Rattle.rules.specs.Parts.{be2}
use Rattle.book.specs.Book.{refusal, plain_weather, sums_of}
use Rattle.book.specs.declared.Refusal.{Refusal}
use Rattle.book.specs.declared.Sums.{Sums}
use Rattle.frames.specs.Sums.{plus}
use Rattle.frames.specs.declared.Condition.{Condition}
use Rattle.frames.specs.declared.Due.{Due}
use Rattle.frames.specs.declared.Due.TheVariants as due

-- The sums of the entries, on top of t.
abbrev pub on_top : Sums → Entries → Sums
on_top t F = plus t (sums_of F)

abbrev pub plain_condition : rules.Condition → Condition
plain_condition c = record { weather = plain_weather c.weather; sums = sums_of c.load }

-- ---- which tag is due: the ship's; a row's, with k rows before it; none behind a condition line
abbrev pub ship_due : ℕ → Bool
ship_due t = eqb t ship.tag

abbrev pub row_due : ℕ → ℕ → Bool
row_due k t = eqb t row.tag && ltb k most_rows

abbrev pub none_due : ℕ → Bool
none_due t = false

abbrev pub due_of : Due → ℕ → Bool
due_of due.Ship = ship_due
due_of (due.Row k) = row_due k
due_of due.Nothing = none_due

-- ---- a line of n bytes by its head alone, whose length is len
-- More than a ship or a row has: 2, then 4 where the tag is not due, else 3.
abbrev pub long_frame : ℕ → Bool → ℕ → ℕ → Refusal
long_frame ln due len n = cond (ltb n (3 + len)) (refusal 2 ln 0) (cond due (refusal 3 ln 0) (refusal 4 ln 0))

abbrev pub long_line : (ℕ → Bool) → ℕ → List ℕ → ℕ → Refusal
long_line due ln head n = long_frame ln (due (get_or head 0 0)) (be2 head 1) n

-- A condition line of more than any may have: 2, 3, else 5.
abbrev pub long_condition : ℕ → ℕ → ℕ → Refusal
long_condition ln len n = cond (ltb n (3 + len)) (refusal 2 ln 0) (cond (eqb n (3 + len)) (refusal 5 ln 0) (refusal 3 ln 0))
