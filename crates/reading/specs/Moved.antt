-- How far a text has been read, and how each line moves that on.
use Rattle.std.specs.Prelude.{cond, ◌&&◌, List, [], ◌∷◌, ◌++◌, ℕ, ◌+◌, ◌-◌, leb, eqb, Option, None, Some, Result, Ok, Err}
use Rattle.rules.specs.Layout.{fewest_rows, most_conditions, is_condition}
use Rattle.rules.specs.Walk.{header, ship_frame}
use Rattle.rules.specs.Booklet.{row_at}
use Rattle.book.specs.Book.{refusal, answered, plain_ship, plain_row}
use Rattle.book.specs.declared.Refusal.{Refusal}
use Rattle.book.specs.declared.Ship.{Ship}
use Rattle.book.specs.declared.Row.{Row}
use Rattle.reading.specs.Fronts.{misplaced}
use Rattle.reading.specs.TextAnswers.{refused_read, whole_read}
use Rattle.reading.specs.declared.state.State.{State}
use Rattle.reading.specs.declared.state.State.TheVariants.{Awaited, Rows, Conditions, Refused}
use Rattle.reading.specs.declared.state.Moved.{Moved}
use Rattle.reading.specs.declared.state.Tally.{Tally}
use Rattle.reading.specs.declared.TextRead.{TextRead}

-- ---- how a line moves the state
-- A line that tells no row.
abbrev pub rowless : State → Moved
rowless s = record { state = s; row = None }

-- The first line is the ship's.
abbrev pub after_ship : Result Ship Refusal → State
after_ship (Ok s) = Rows s 0
after_ship (Err r) = Refused r

-- Then rows.
abbrev pub after_row : Ship → Result Row Refusal → Moved
after_row s (Ok r) = record { state = Rows s r.mass; row = Some r }
after_row s (Err r) = rowless (Refused r)

-- From the second row on a condition line is in its place.
abbrev pub moved_rows : Ship → ℕ → ℕ → ℕ → List ℕ → Moved
moved_rows s p k ln l = cond (is_condition l && leb fewest_rows k) (rowless (Conditions s)) (after_row s (answered plain_row (row_at ln k p l)))

-- Behind it no other line is.
abbrev pub moved_conditions : Ship → ℕ → List ℕ → State
moved_conditions s ln l = cond (is_condition l) (Conditions s) (Refused (misplaced ln (header ln 0 l)))

-- A line with the number ln, with k rows before it. Once refused, blocks are no longer looked at.
unfoldable pub moved : State → ℕ → ℕ → List ℕ → Moved
moved Awaited k ln l = rowless (after_ship (answered plain_ship (ship_frame ln l)))
moved (Rows s p) k ln l = moved_rows s p k ln l
moved (Conditions s) k ln l = rowless (moved_conditions s ln l)
moved (Refused r) k ln l = rowless (Refused r)

-- The rows after a line.
abbrev pub kept : List Row → Option Row → List Row
kept rs None = rs
kept rs (Some r) = rs ++ r ∷ []

-- ---- the condition lines, wherever they stand
-- The 25th is kept in mind by its number.
abbrev pub one_more : Tally → ℕ → Tally
one_more t ln = record { conditions = t.conditions + 1; over = cond (eqb t.conditions most_conditions) (Some ln) t.over }

abbrev pub tallied : Tally → ℕ → List ℕ → Tally
tallied t ln l = cond (is_condition l) (one_more t ln) t

-- ---- where the text ends, before line ln
-- 5: 'empty text', 'no A3', at the number of lines.
abbrev pub ended : State → List Row → ℕ → ℕ → TextRead
ended Awaited rs ln k = refused_read (refusal 5 (ln - 1) 0) k
ended (Rows s p) rs ln k = refused_read (refusal 5 (ln - 1) 0) k
ended (Conditions s) rs ln k = whole_read s rs k
ended (Refused r) rs ln k = refused_read r k

-- 5: 'a 25th condition line' goes before.
abbrev pub unless_over : Option ℕ → TextRead → TextRead
unless_over None r = r
unless_over (Some ln) r = refused_read (refusal 5 ln 0) 0

abbrev pub finished : State → List Row → ℕ → Tally → TextRead
finished s rs ln y = unless_over y.over (ended s rs ln y.conditions)
