-- What the code answers to a text, from what the rules answer: the ship, the rows and where the conditions begin, or the refusal; and what it answers to a condition line.
use Rattle.std.specs.Prelude.{List, map, ℕ, ◌+◌, ◌*◌, length, None, Some, Ok, Err}
use Rattle.rules.specs.Outcome.{Ans, refused, got}
use Rattle.rules.specs.Layout.{condition_lines, Booklet}
use Rattle.rules.specs.Booklet.{book_frames, condition_at}
use Rattle.book.specs.Book.{refusal, answered, plain_ship, plain_row}
use Rattle.book.specs.declared.Refusal.{Refusal}
use Rattle.book.specs.declared.Ship.{Ship}
use Rattle.book.specs.declared.Row.{Row}
use Rattle.text.specs.Line.{decoded, LineRead, line_of}
use Rattle.frames.specs.Sizes.{ship_bytes, row_bytes}
use Rattle.frames.specs.FrameAnswers.{plain_condition}
use Rattle.reading.specs.declared.TextRead.{TextRead}
use Rattle.reading.specs.declared.ConditionLine.{ConditionLine}

-- The characters of a line of n bytes, the LF among them.
abbrev pub line_characters : ℕ → ℕ
line_characters n = 2 * n + 1

-- Those before the first condition line: the ship's and each row's.
abbrev pub front_characters : ℕ → ℕ
front_characters rows = line_characters ship_bytes + line_characters row_bytes * rows

abbrev pub refused_read : Refusal → ℕ → TextRead
refused_read r k = record { conditions = k; front = Err r }

-- A text that is read as a whole, with k condition lines.
abbrev pub whole_read : Ship → List Row → ℕ → TextRead
whole_read s rs k = record { conditions = k; front = Ok (record { ship = s; rows = rs; at = front_characters (length rs) }) }

-- The blocks of a text with k condition lines.
abbrev pub book_read : ℕ → Ans Booklet → TextRead
book_read k (refused n l o) = refused_read (refusal n l o) k
book_read k (got b) = whole_read (plain_ship b.ship) (map plain_row b.rows) k

-- Where 1 or the 25th condition line refuses the text none is counted.
abbrev pub told : Ans (List (List ℕ)) → TextRead
told (refused n l o) = refused_read (refusal n l o) 0
told (got ls) = book_read (condition_lines ls) (book_frames ls)

-- ---- a condition line
-- 1: what stands here is no line, and none of it is taken.
abbrev pub no_line : ℕ → ConditionLine
no_line ln = record { read = Err (refusal 1 ln 0); taken = 0 }

-- A line of n bytes, which are these.
abbrev pub line_read : ℕ → List ℕ → LineRead → ConditionLine
line_read ln l (Ok (Some n)) = record { read = answered plain_condition (condition_at ln l); taken = line_characters n }
line_read ln l (Ok None) = no_line ln
line_read ln l (Err e) = no_line ln

-- The line at the front of a text.
unfoldable pub condition_line : ℕ → List ℕ → ConditionLine
condition_line ln t = line_read ln (decoded t) (line_of t)
