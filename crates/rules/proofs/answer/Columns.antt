-- What stands in each column of a report: its refusal, line and offset, each verdict and each figure.
use mathlib.Core.Path.{◌≡◌, refl, ap, sym, ◌∙◌}
use mathlib.Core.Bool.{cond}
use mathlib.Core.List.{List, [], ◌∷◌, ◌++◌, map}
use Prim.Native.Nat.{ℕ, zero, suc, ◌+◌, ◌-◌, ◌*◌, ◌≤◌, ◌<◌}
use native.Mathlib.Omega.{arith}
use lib.IntN.{ℤ, pos}
use lib.Dec.{eqb}
use lib.ListN.{length, take, drop, get_or, length-drop, length-map, get_or-map}
use lib.Seq.{take-append-le, drop-append-le, drop-append-add, drop-drop}
use Rattle.rules.specs.Numbers.{digits, twos, Bytes}
use Rattle.rules.specs.Text.{LF, hex}
use Rattle.rules.specs.Blocks.{block}
use Rattle.rules.specs.Report.{Verdict, fail, pass, unjudged, void, unused, verdict_number, Judgement, concat, report_tag, report_body, report_line}
use Rattle.rules.specs.Walk.{unhex}
use Rattle.rules.specs.Columns.{characters, figure_in, slot_of, verdict_in}
use Rattle.rules.proofs.layout.Lines.{length_hex, unhex_got}
use Rattle.rules.proofs.layout.Numbers.{length_digits}
use Rattle.rules.proofs.answer.Length.{sized_part, sized_map, frame_length}

-- ---- two characters to a byte
hex_drop : (n : ℕ) (s : List ℕ) → drop (2 * n) (hex s) ≡ hex (drop n s)
unfolding hex
hex_drop zero s = refl
hex_drop (suc n) [] = let e : 2 * suc n ≡ suc (suc (2 * n)) = omega arith in rw e
hex_drop (suc n) (b ∷ s) = let e : 2 * suc n ≡ suc (suc (2 * n)) = omega arith in rw e (hex_drop n s)

hex_take : (n : ℕ) (s : List ℕ) → take (2 * n) (hex s) ≡ hex (take n s)
unfolding hex
hex_take zero s = refl
hex_take (suc n) [] = let e : 2 * suc n ≡ suc (suc (2 * n)) = omega arith in rw e
hex_take (suc n) (b ∷ s) = let e : 2 * suc n ≡ suc (suc (2 * n)) = omega arith in rw (e, hex_take n s)

-- The characters of n bytes from byte a on, of a line with something behind it.
hex_part : (s rest : List ℕ) (a n : ℕ) → a + n ≤ length s → characters (2 * a) (2 * n) (hex s ++ rest) ≡ hex (take n (drop a s))
hex_part s rest a n h =
    rw (drop-append-le (2 * a) (hex s) rest (omega (arith, length_hex s)), hex_drop a s, take-append-le (2 * n) (hex (drop a s)) rest (omega (arith, length_hex (drop a s), length-drop a s)))
    (hex_take n (drop a s))

-- One byte.
one_at : (xs ys : List ℕ) (i : ℕ) → i < length xs → take 1 (drop i (xs ++ ys)) ≡ get_or xs i 0 ∷ []
one_at [] ys i h = absurd (omega arith)
one_at (x ∷ xs) ys zero h = refl
one_at (x ∷ xs) ys (suc i) h = one_at xs ys i (omega arith)

hex_one : (x y : ℕ) → x < 256 → y < 256 → hex (x ∷ []) ≡ hex (y ∷ []) → x ≡ y
unfolding Bytes
hex_one x y h g e = let q = sym (unhex_got 0 (x ∷ []) (h, tt)) ∙ (ap (unhex 0) e ∙ unhex_got 0 (y ∷ []) (g, tt)) in let z : x ≡ y = cc in z

-- ---- the columns
-- A figure in its eight bytes.
abbrev eight_bytes : ℤ → List ℕ
eight_bytes z = digits 8 (twos z)

-- What stands behind a report does not touch them.
pub column_front : (s rest : List ℕ) (at n : ℕ) → at + n ≤ length s → characters at n (s ++ rest) ≡ characters at n s
column_front s rest at n h = rw (drop-append-le at s rest (omega arith)) (take-append-le n (drop at s) rest (omega (arith, length-drop at s)))

module _ (number line offset : ℕ) (verdicts : List ℕ) (figures : List ℤ) (eight : length verdicts ≡ 8) (eleven : length figures ≡ 11) where
  abbrev frame : List ℕ
  frame = block report_tag (report_body number line offset verdicts figures)

  abbrev long : length frame ≡ 104
  long = frame_length number line offset verdicts figures eight eleven

  column : (a n : ℕ) → a + n ≤ 104 → characters (2 * a) (2 * n) (report_line number line offset verdicts figures) ≡ hex (take n (drop a frame))
  unfolding report_line
  column a n h = hex_part frame (LF ∷ []) a n (omega (arith, long))

  -- Behind the head stand the verdicts, and then the figures.
  abbrev G : List ℕ
  G = concat (map eight_bytes figures)

  verdicts_behind : drop 8 frame ≡ verdicts ++ G
  unfolding block report_body digits
  verdicts_behind = refl

  figure_behind : (i : ℕ) → drop (16 + 8 * i) frame ≡ drop (8 * i) G
  figure_behind i =
      let k : 16 + 8 * i ≡ 8 + (length verdicts + 8 * i) = omega arith in
      rw (k, ← (drop-drop (length verdicts + 8 * i) 8 frame), verdicts_behind) (drop-append-add verdicts G (8 * i))

  pub figure_column : (i : ℕ) → i < 11 → figure_in i (report_line number line offset verdicts figures) ≡ hex (digits 8 (twos (get_or figures i (pos 0))))
  figure_column i h =
      let e : 32 + 16 * i ≡ 2 * (16 + 8 * i) = omega arith in
      let s = sized_part 8 (map eight_bytes figures) (sized_map eight_bytes 8 (λ z. length_digits 8 (twos z)) figures) (eight_bytes (pos 0)) i (omega (arith, length-map figures eight_bytes)) in
      rw e (column (16 + 8 * i) 8 (omega arith) ∙ ap (λ (s : List ℕ). hex (take 8 s)) (figure_behind i) ∙ ap hex (s ∙ get_or-map eight_bytes figures i (pos 0)))

  pub verdict_column : (i : ℕ) → i < 8 → verdict_in (suc i) (report_line number line offset verdicts figures) ≡ hex (get_or verdicts i 0 ∷ [])
  verdict_column i h =
      let e : 14 + 2 * suc i ≡ 2 * (8 + i) = omega arith in
      rw (e, column (8 + i) 1 (omega arith), ← (drop-drop i 8 frame), verdicts_behind) (ap hex (one_at verdicts G i (omega arith)))

-- ---- the verdicts
-- A verdict is told by its number, and its number by what is written.
abbrev verdict_by : ℕ → Verdict
verdict_by n = cond (eqb n 0) fail (cond (eqb n 1) pass (cond (eqb n 2) unjudged (cond (eqb n 3) void unused)))

by_number : (v : Verdict) → (verdict_by (verdict_number v) ≡ v) × (verdict_number v < 256)
by_number fail = (refl, omega arith)
by_number pass = (refl, omega arith)
by_number unjudged = (refl, omega arith)
by_number void = (refl, omega arith)
by_number unused = (refl, omega arith)

pub verdict_written : (v w : Verdict) → hex (verdict_number v ∷ []) ≡ hex (verdict_number w ∷ []) → v ≡ w
verdict_written v w e = sym (by_number v).0 ∙ (ap verdict_by (hex_one (verdict_number v) (verdict_number w) (by_number v).1 (by_number w).1 e) ∙ (by_number w).0)

numbers_at : (vs : List Verdict) (i : ℕ) → i < length vs → get_or (map verdict_number vs) i 0 ≡ verdict_number (get_or vs i void)
numbers_at [] i h = absurd (omega arith)
numbers_at (v ∷ vs) zero h = refl
numbers_at (v ∷ vs) (suc i) h = numbers_at vs i (omega arith)

pub slot_column : (n l o : ℕ) (j : Judgement) → length j.verdicts ≡ 8 → length j.figures ≡ 11 → (i : ℕ) → i < 8 → verdict_in (suc i) (report_line n l o (map verdict_number j.verdicts) j.figures) ≡ hex (verdict_number (slot_of (suc i) j) ∷ [])
slot_column n l o j e f i h =
    let k : suc i - 1 ≡ i = omega arith in
    verdict_column n l o (map verdict_number j.verdicts) j.figures (length-map j.verdicts verdict_number ∙ e) f i h ∙ ap (λ (m : ℕ). hex (m ∷ [])) (numbers_at j.verdicts i (omega arith) ∙ ap (λ (m : ℕ). verdict_number (get_or j.verdicts m void)) (sym k))
