-- The line at the front of a text, as the code reads it: pair after pair up to the first that is none, and then what ends it.
use Rattle.std.specs.Prelude.{◌≡◌, Bool, cond, List, [], ◌∷◌, ℕ, zero, suc, ◌+◌, ◌*◌, ◌≤◌, ◌<◌, eqb, ltb, length, take, drop, get_or, set, replicate, Option, None, Some, Result, Ok, Err}
use Rattle.std.specs.Option.{is_some}
use Rattle.rules.specs.Text.{LF, digit}
use Rattle.rules.specs.Outcome.{Ans, refused, got, ◌>>=◌}
use Rattle.rules.specs.Walk.{nibble, lines_from}
use Rattle.text.specs.declared.NoLine.{NoLine}

-- ---- digits
-- The value of a character: what `nibble` says in any line, and 16 where it is no digit.
abbrev pub value_of : Ans ℕ → ℕ
value_of (refused n l o) = 16
value_of (got x) = x

unfoldable pub digit_of : ℕ → ℕ
digit_of c = value_of (nibble 0 c)

-- The table of digits, when the first n of them stand in it.
unfoldable pub digits_up_to : ℕ → List ℕ
digits_up_to zero = replicate 256 16
digits_up_to (suc n) = set (digits_up_to n) (digit n) n

-- A table of digits has the value of each character.
pub record HasDigits (d : List ℕ) : Type 0 where
  pub all : length d ≡ 256
  pub each : (c : ℕ) → c < 256 → get_or d c 0 ≡ digit_of c

-- ---- pairs
-- Two digits to a byte.
abbrev pub byte_of : ℕ → ℕ → Option ℕ
byte_of h l = cond (ltb 15 h) None (cond (ltb 15 l) None (Some (16 * h + l)))

unfoldable pub pair_of : ℕ → ℕ → Option ℕ
pair_of a b = byte_of (digit_of a) (digit_of b)

-- Two characters that are a pair of digits.
abbrev pub is_pair : List ℕ → Bool
is_pair p = is_some (pair_of (get_or p 0 0) (get_or p 1 0))

-- A pair's byte and those after it; nothing where it is none.
abbrev pub before : Option ℕ → List ℕ → List ℕ
before None s = []
before (Some x) s = x ∷ s

-- The bytes of the pairs at the front, up to the first pair that is none.
unfoldable pub decoded : List ℕ → List ℕ
decoded [] = []
decoded (a ∷ []) = []
decoded (a ∷ b ∷ s) = before (pair_of a b) (decoded s)

-- Bytes at the front of a buffer, as many as it holds; its others stay as they are.
unfoldable pub over : List ℕ → List ℕ → List ℕ
over [] out = out
over (x ∷ b) [] = []
over (x ∷ b) (o ∷ out) = x ∷ over b out

-- ---- lines
-- A line of so many bytes, or none where the text has ended; or what stands here is no line.
abbrev pub LineRead : Type 0
LineRead = Result (Option ℕ) NoLine

abbrev pub no_line : LineRead
no_line = Err (record {})

-- What stands after n bytes: one LF, or these were no line.
unfoldable pub ended : ℕ → List ℕ → LineRead
ended zero [] = Ok None
ended zero (c ∷ s) = no_line
ended (suc n) [] = no_line
ended (suc n) (c ∷ s) = cond (eqb c LF) (Ok (Some (suc n))) no_line

-- 'A line is an even, nonzero number of digits 0-9 A-F, then one LF.'
unfoldable pub line_of : List ℕ → LineRead
line_of t = ended (length (decoded t)) (drop (2 * length (decoded t)) t)

-- ---- what an answer says in the document's terms
-- The first line has n bytes, of which the buffer holds the first, and the other lines stand after its LF.
pub record Leads (t out : List ℕ) (n : ℕ) : Type 0 where
  pub some : 0 < n
  pub within : 2 * n < length t
  pub line : List ℕ
  pub spelt : line ≡ decoded t
  pub long : length line ≡ n
  pub held : (m : ℕ) → m ≤ n → m ≤ length out → take m out ≡ take m line
  pub lines : (ln : ℕ) → lines_from ln t ≡ (lines_from (ln + 1) (drop (2 * n + 1) t) >>= λ r. got (line ∷ r))

abbrev pub LineIs : List ℕ → List ℕ → LineRead → Type 0
LineIs t out (Ok None) = t ≡ []
LineIs t out (Err e) = (ln : ℕ) → lines_from ln t ≡ refused 1 ln 0
LineIs t out (Ok (Some n)) = Leads t out n
