-- The place of a refusal by the walk lies within the text: its line is one of the text's own, and its offset that of a byte of that line.
use mathlib.Core.Path.{◌≡◌, refl}
use mathlib.Core.Bool.{Bool, true, false}
use mathlib.Core.List.{List, [], ◌∷◌}
use Prim.Native.Nat.{ℕ, ◌+◌, ◌*◌, ◌≤◌, ◌<◌}
use native.Mathlib.Omega.{arith}
use lib.Dec.{leb}
use lib.ListN.{length}
use borrow.Author.Tests.{leb-true, leb-false}
use Rattle.rules.specs.Text.{hex, text, Lines}
use Rattle.rules.specs.Layout.{most_characters}
use Rattle.rules.specs.Walk.{Found, table_row, the_condition, closed, after, tail, read_frames, read}
use Rattle.rules.specs.Met.{FirstNoLine, bad_line, open_end}
use Rattle.rules.specs.Places.{LineAt, first_line, open_line, later_line, Placed, too_long, at_line, empty_text, at_byte, at_row}
use Rattle.rules.proofs.layout.Lines.{length_hex, hex_no_lf, lines_sound}
use Rattle.rules.proofs.layout.LineAt.{line_behind}
use Rattle.rules.proofs.layout.Parts.{full_length}
use Rattle.rules.proofs.walk.WholeText.{read_steps}
use Rattle.rules.proofs.walk.Refusals.{Refusal, given, plain, weaker, bind_refusal, test_cases, UnreadAt, frame_at_refusal, ship_frame_refusal, closed_refusal}
use Rattle.rules.proofs.walk.BadLine.{Bad, lines_bad}

-- ---- 2 to 6 and 10: a byte of a line
-- A byte of one of these lines, of which the first has the number ln; with 10, the first byte.
record ByteOf (ls : List (List ℕ)) (ln n l o : ℕ) : Type 0 where
  number : UnreadAt 2 n o
  before : ℕ
  counted : ln + before ≡ l
  characters : List ℕ
  line : LineAt (text ls) (1 + before) characters
  inside : 2 * o + 1 < length characters

of_first : (b : List ℕ) (ls : List (List ℕ)) {ln n l o : ℕ} → UnreadAt 2 n o → l ≡ ln → o < length b → ByteOf (b ∷ ls) ln n l o
unfolding text
of_first b ls a q h = record { number = a; before = 0; counted = omega arith; characters = hex b; line = first_line (hex b) (text ls) (hex_no_lf b); inside = rw (length_hex b) (omega arith) }

of_later : (b : List ℕ) (ls : List (List ℕ)) {ln n l o : ℕ} → ByteOf ls (ln + 1) n l o → ByteOf (b ∷ ls) ln n l o
unfolding text
of_later b ls x = record { number = x.number; before = 1 + x.before; counted = omega (arith, x.counted); characters = x.characters; line = later_line (hex b) (text ls) (hex_no_lf b) x.line; inside = x.inside }

closed_within : (ls : List (List ℕ)) (ln : ℕ) → Lines ls → Refusal (ByteOf ls ln) (closed ln ls)
unfolding closed Lines
closed_within [] ln B = given
closed_within (l ∷ ls) ln B = let g = full_length l B.0 in weaker (λ n l' o x. of_first l ls (omega arith) x.1 (omega arith)) (closed_refusal ln (l ∷ ls))

-- With no A3, the place is the last line's: so x, the line before, is counted in.
tail_within : (ls : List (List ℕ)) (x : List ℕ) (ln k p : ℕ) → 0 < length x → Lines ls → Refusal (ByteOf (x ∷ ls) ln) (tail ls (ln + 1) k p)
unfolding tail after Lines
tail_within [] x ln k p f B = plain (of_first x [] (omega arith) (omega arith) f)
tail_within (l ∷ ls) x ln k p f B =
    let g = full_length l B.0 in
    bind_refusal _ _ (weaker (λ n l' o y. of_later x (l ∷ ls) (of_first l ls y.0 y.1 (omega arith))) (frame_at_refusal (ln + 1) k p l)) (λ y ey. go (λ k p. tail_within ls l (ln + 1) k p g B.2) y)
  where
    go : ((k p : ℕ) → Refusal (ByteOf (l ∷ ls) (ln + 1)) (tail ls (ln + 1 + 1) k p)) → (y : Found) → Refusal (ByteOf (x ∷ l ∷ ls) ln) (after (tail ls) ls (ln + 1) k y)
    go w (table_row v) = bind_refusal _ _ (weaker (λ n l' o y. of_later x (l ∷ ls) y) (w (k + 1) v.mass)) (λ y ey. given)
    go w (the_condition c) = bind_refusal _ _ (weaker (λ n l' o y. of_later x (l ∷ ls) (of_later l ls y)) (closed_within ls (ln + 1 + 1) B.2)) (λ u eu. given)

frames_within : (l : List ℕ) (ls : List (List ℕ)) → Lines (l ∷ ls) → Refusal (ByteOf (l ∷ ls) 1) (read_frames (l ∷ ls))
unfolding read_frames Lines
frames_within l ls B =
    let g = full_length l B.0 in
    bind_refusal _ _ (weaker (λ n l' o x. of_first l ls (omega arith) x.1 (omega arith)) (ship_frame_refusal 1 l)) (λ v ev. bind_refusal _ _ (tail_within ls l 1 0 0 g B.2) (λ x ex. given))

-- Its place, by its number.
pub byte_placed : {t : List ℕ} {n l o : ℕ} {p : List ℕ} → UnreadAt 2 n o → length t ≤ most_characters → LineAt t l p → 2 * o + 1 < length p → Placed t n l o
byte_placed {t = t} {n = n} {l = l} {o = o} {p = p} u c x h = go (leb n 6) refl
  where
    go : (b : Bool) → leb n 6 ≡ b → Placed t n l o
    go true q = at_byte {o = o} u.0.0 (leb-true n 6 q) c x (omega (arith, h))
    go false q =
        let m = leb-false n 6 q in
        let e : n ≡ 10 = omega arith in
        let f : o ≡ 0 = u.1 m in
        rw (e, f) (at_row c x (omega arith))

frames_placed : (ls : List (List ℕ)) → Lines ls → length (text ls) ≤ most_characters → Refusal (Placed (text ls)) (read_frames ls)
unfolding read_frames text
frames_placed [] B c = plain (empty_text refl)
frames_placed (l ∷ ls) B c = weaker (λ n l' o x. byte_placed x.number c (rw x.counted at x.line) (omega (arith, x.inside))) (frames_within l ls B)

-- ---- 1: a line
no_line_at : {t : List ℕ} {l : ℕ} → FirstNoLine t l → (p : List ℕ) × LineAt t l p
no_line_at (bad_line front p rest L N) = (p, line_behind front (1 + length front) (omega arith) (first_line p rest N.0))
no_line_at (open_end front p L N s) = (p, line_behind front (1 + length front) (omega arith) (open_line p N s))

line_placed : (t : List ℕ) {n l o : ℕ} → length t ≤ most_characters → Bad 1 t n l o → Placed t n l o
line_placed t c x = rw (x.0, x.1, ← x.3) (at_line c (no_line_at x.4).1)

-- ---- a whole text
pub read_placed : (t : List ℕ) → Refusal (Placed t) (read t)
read_placed t =
    rw (read_steps t)
    (test_cases _ 1 0 0 _ (λ c. too_long (leb-false _ _ c)) (λ c.
    let m = leb-true (length t) most_characters c in
    bind_refusal _ _ (weaker (λ n l o x. line_placed t m x) (lines_bad 1 t)) (λ ls els.
    let s = lines_sound 1 t ls els in
    rw s.0 at (frames_placed ls s.1 (rw s.0 m)))))
