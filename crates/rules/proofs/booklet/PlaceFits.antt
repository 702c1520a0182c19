-- Every place that a report names fits its two bytes: a refusal for the whole has offset 0 and a line of the text, which has no line of fewer than three characters; a condition's has its line and an offset inside the longest condition.
use mathlib.Core.Path.{◌≡◌, ap}
use mathlib.Core.List.{List, [], ◌∷◌, ◌++◌}
use Prim.Native.Nat.{ℕ, ◌+◌, ◌*◌, ◌≤◌, ◌<◌}
use native.Mathlib.Omega.{arith}
use lib.ListN.{length, length-append}
use borrow.Author.Tests.{leb-true}
use Rattle.rules.specs.Text.{LF, hex, text, Lines}
use Rattle.rules.specs.Layout.{most_bytes, most_characters, Booklet}
use Rattle.rules.specs.Outcome.{refused, got}
use Rattle.rules.specs.Met.{FirstNoLine, bad_line, open_end}
use Rattle.rules.specs.Booklet.{counted_lines, read_whole, condition_at}
use Rattle.rules.proofs.layout.Lines.{length_hex, lines_sound}
use Rattle.rules.proofs.layout.Parts.{full_length}
use Rattle.rules.proofs.walk.Refusals.{Refusal, given, weaker, bind_refusal, test_cases}
use Rattle.rules.proofs.walk.BadLine.{lines_bad}
use Rattle.rules.proofs.booklet.Counted.{counted_lines_steps}
use Rattle.rules.proofs.booklet.Refusals.{counted_refusal, book_frames_refusal, condition_at_refusal}
use Rattle.rules.proofs.booklet.WholeText.{counted_lines_sound, sound}

-- ---- the lines of a text
three_each : (ls : List (List ℕ)) → Lines ls → 3 * length ls ≤ length (text ls)
unfolding Lines text
three_each [] B = omega arith
three_each (l ∷ ls) B =
    let a = three_each ls B.2 in
    let b = full_length l B.0 in
    let c = length_hex l in
    let d = length-append (hex l) (LF ∷ text ls) in
    omega arith

no_line_place : {t : List ℕ} {l : ℕ} → FirstNoLine t l → 3 * l ≤ 2 + length t
no_line_place (bad_line front p rest L N) = let a = length-append (text front) (p ++ (LF ∷ rest)) in omega (arith, three_each front L, length-append p (LF ∷ rest))
no_line_place (open_end front p L N s) = let a = length-append (text front) p in omega (arith, three_each front L)

-- ---- for the whole
-- Three characters a line, but for one that is none.
abbrev Placed : ℕ → ℕ → ℕ → ℕ → Type 0
Placed most n l o = (3 * l ≤ 2 + most) × (o ≡ 0)

counted_place : (most : ℕ) (t : List ℕ) → Refusal (Placed most) (counted_lines most t)
counted_place most t =
    rw (counted_lines_steps most t)
    (test_cases _ 1 0 0 _ (λ c. omega arith) (λ c.
    let m = leb-true (length t) most c in
    bind_refusal _ _ (weaker (λ n l o x. (let y = no_line_place x.4 in omega (arith, x.3), x.1)) (lines_bad 1 t)) (λ ls els.
    let s = lines_sound 1 t ls els in
    let a = three_each ls s.1 in
    let d = ap length s.0 in
    bind_refusal _ _ (weaker (λ n l o x. omega arith) (counted_refusal ls 1 _)) (λ u eu. given))))

whole_place : (most : ℕ) (t : List ℕ) → Refusal (Placed most) (read_whole most t)
unfolding read_whole
whole_place most t =
    bind_refusal _ _ (counted_place most t) (λ ls els.
    let C = counted_lines_sound most t ls els in
    let a = three_each ls C.lines in
    let d = ap length C.spells in
    let m = C.long in
    weaker (λ n l o x. omega arith) (book_frames_refusal ls))

pub whole_fits : (most : ℕ) (t : List ℕ) {n l o : ℕ} → most ≤ most_characters → read_whole most t ≡ refused n l o → (l ≤ 60_000) × (o ≡ 0)
whole_fits most t h e = let x = (whole_place most t).holds _ _ _ e in omega arith

-- ---- of a condition
pub condition_fits : (ln : ℕ) (l : List ℕ) {n m o : ℕ} → condition_at ln l ≡ refused n m o → (m ≡ ln) × (o < 3 + most_bytes)
condition_fits ln l e = let x = (condition_at_refusal ln l).holds _ _ _ e in omega arith

-- The number of a condition line.
pub line_fits : (most : ℕ) (t : List ℕ) (b : Booklet) → read_whole most t ≡ got b → (k : ℕ) → k < length b.conditions → 2 + length b.rows + k ≤ 65
line_fits most t b e k h = let w = (sound most t b e).0 in omega (arith, w.many, w.at_most)
