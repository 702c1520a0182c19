-- Where a refusal stands: that of the whole text in one of its own lines, that of a condition at a byte of its own line.
use mathlib.Core.Path.{◌≡◌, refl, ap, ◌∙◌}
use mathlib.Core.List.{List, [], ◌∷◌}
use mathlib.Core.Logic.{◌⊎◌, inl, inr}
use Prim.Native.Nat.{ℕ, zero, suc, ◌+◌, ◌-◌, ◌≤◌, ◌<◌}
use native.Mathlib.Omega.{arith}
use lib.ListN.{length, get_or}
use borrow.Author.Tests.{leb-true, leb-false}
use Rattle.rules.specs.Text.{hex, text, Lines}
use Rattle.rules.specs.Blocks.{Row, condition_tag}
use Rattle.rules.specs.Layout.{most_characters}
use Rattle.rules.specs.Met.{behind_rows}
use Rattle.rules.specs.Places.{LineAt, first_line, later_line, Placed, too_long, empty_text, unweighed}
use Rattle.rules.specs.Booklet.{counted_lines, book_frames, read_whole}
use Rattle.rules.specs.Apart.{lines_of, spell_booklet, AllowedWhole, line_at, reading_at, line_number}
use Rattle.rules.proofs.layout.Lines.{length_hex, hex_no_lf, lines_sound}
use Rattle.rules.proofs.layout.Parts.{full_length}
use Rattle.rules.proofs.walk.Outcome.{bind_refused, test_got}
use Rattle.rules.proofs.walk.WholeText.{read_steps}
use Rattle.rules.proofs.walk.Refusals.{Refusal, given, plain, weaker, bind_refusal, test_cases, UnreadFrom, UnreadAt}
use Rattle.rules.proofs.walk.PlaceWithin.{byte_placed, read_placed}
use Rattle.rules.proofs.booklet.Counted.{counted_lines_steps}
use Rattle.rules.proofs.booklet.Refusals.{counted_refusal, book_frames_refusal}
use Rattle.rules.proofs.booklet.WholeText.{counted_lines_sound}
use Rattle.rules.proofs.booklet.Frames.{framed, Lines-booklet}
use Rattle.rules.proofs.booklet.Conditions.{answer_refused}
use Rattle.rules.proofs.booklet.PlaceFits.{condition_fits}
use Rattle.instrument.specs.Reported.{report_in, HasNumber, RefusedAt}
use Rattle.instrument.proofs.Weighings.{weighed_cases}
use Rattle.instrument.proofs.LineReport.{by_line, has_refused, has_off, has_judged}
use Rattle.instrument.proofs.Replies.{Run, line_report}

-- ---- a byte of a line
-- Line n of lines that are spelled, i of which stand before it.
line_at_lem : (ls : List (List ℕ)) → Lines ls → (i n : ℕ) → n ≡ 1 + i → i < length ls → LineAt (text ls) n (hex (get_or ls i [])) × (1 ≤ length (get_or ls i []))
unfolding text Lines
line_at_lem [] B i n e h = absurd (omega arith)
line_at_lem (l ∷ ls) B zero n e h = let z : n ≡ 1 = omega arith in rw z (first_line (hex l) (text ls) (hex_no_lf l), full_length l B.0)
line_at_lem (l ∷ ls) B (suc i) n e h =
    let x = line_at_lem ls B.2 i (1 + i) refl (omega arith) in
    let z : n ≡ 1 + (1 + i) = omega arith in
    rw z (later_line (hex l) (text ls) (hex_no_lf l) x.0, x.1)

at_byte : (ls : List (List ℕ)) → Lines ls → length (text ls) ≤ most_characters → (i n l o : ℕ) → l ≡ 1 + i → i < length ls → UnreadAt 2 n o → o < length (get_or ls i []) → Placed (text ls) n l o
at_byte ls B c i n l o e h u g = let x = line_at_lem ls B i l e h in let y = length_hex (get_or ls i []) in byte_placed {o = o} u c x.0 (omega arith)

at_line_lem : (ls : List (List ℕ)) → Lines ls → length (text ls) ≤ most_characters → (n l o : ℕ) → 1 ≤ l → l ≤ length ls → UnreadFrom 2 n → o ≡ 0 → Placed (text ls) n l o
at_line_lem ls B c n l o h g u e = let i : l - 1 < length ls = omega arith in at_byte ls B c (l - 1) n l o (omega arith) i (u, λ z. e) (let x = (line_at_lem ls B (l - 1) l (omega arith) i).1 in omega arith)

-- ---- for the whole
counted_placed : (t : List ℕ) → Refusal (Placed t) (counted_lines most_characters t)
counted_placed t =
    rw (counted_lines_steps most_characters t)
    (test_cases _ 1 0 0 _ (λ c. too_long (leb-false _ _ c)) (λ c.
    let m = leb-true (length t) most_characters c in
    bind_refusal _ _ (record { holds = λ n l o e. (read_placed t).holds n l o (read_steps t ∙ test_got _ _ _ _ c ∙ bind_refused _ e) }) (λ ls els.
    let s = lines_sound 1 t ls els in
    let k : length (text ls) ≤ most_characters = omega (arith, ap length s.0) in
    bind_refusal _ _ (weaker (λ n l o x. rw s.0 at (at_line_lem ls s.1 k n l o (omega arith) (omega arith) (omega arith) x.3)) (counted_refusal ls 1 _)) (λ u eu. given))))

frames_placed : (ls : List (List ℕ)) → Lines ls → length (text ls) ≤ most_characters → Refusal (Placed (text ls)) (book_frames ls)
unfolding book_frames text
frames_placed [] B c = plain (empty_text refl)
frames_placed (l ∷ ls) B c = weaker (λ n l' o x. at_line_lem (l ∷ ls) B c n l' o (omega arith) (omega arith) x.0 (omega arith)) (book_frames_refusal (l ∷ ls))

pub whole_placed : (t : List ℕ) → Refusal (Placed t) (read_whole most_characters t)
unfolding read_whole
whole_placed t =
    bind_refusal _ _ (counted_placed t) (λ ls els.
    let C = counted_lines_sound most_characters t ls els in
    rw C.spells at (frames_placed ls C.lines (omega (arith, ap length C.spells, C.long))))

-- ---- in a condition line
behind_length : (vs : List Row) (cs : List (List ℕ)) → length (behind_rows vs cs) ≡ length vs + length cs
unfolding behind_rows
behind_length [] cs = omega arith
behind_length (v ∷ vs) cs = let x = behind_length vs cs in omega arith

behind_at : (vs : List Row) (cs : List (List ℕ)) (k i : ℕ) → i ≡ length vs + k → get_or (behind_rows vs cs) i [] ≡ get_or cs k []
unfolding behind_rows
behind_at [] cs k i e = let z : i ≡ k = omega arith in rw z
behind_at (v ∷ vs) cs k zero e = absurd (omega arith)
behind_at (v ∷ vs) cs k (suc i) e = behind_at vs cs k i (omega arith)

line_placed : {t : List ℕ} (a : AllowedWhole most_characters t) (k : ℕ) → k < length a.0.conditions → (n o : ℕ) → 2 ≤ n → n ≤ 6 → o < length (line_at a.0 k) → Placed t n (line_number a.0 k) o
unfolding spell_booklet
line_placed a k h n o from to g =
    let b = a.0 in
    let w = a.1 in
    let x = behind_length b.rows b.conditions in
    let y = behind_at b.rows b.conditions k (length b.rows + k) refl in
    rw a.2 at (at_byte (lines_of b) (Lines-booklet b (framed w)) w.long (suc (length b.rows + k)) n (line_number b k) o (omega arith) (omega arith) (omega arith) (rw y g))

some_bytes : (l : List ℕ) → get_or l 0 0 ≡ condition_tag → 1 ≤ length l
some_bytes [] e = absurd (omega arith)
some_bytes (x ∷ l) e = omega arith

pub placed_report : {t before : List ℕ} {n : ℕ} {after : List ℕ} → Run t before n after → (a : AllowedWhole most_characters t) (k : ℕ) → k < length a.0.conditions → HasNumber 0 (report_in k after) ⊎ RefusedAt t a.0 k (report_in k after)
placed_report run a k h =
    let q = line_report run a k h in
    let g = some_bytes (line_at a.0 k) q.tag in
    by_line q
    (λ m o b i e.
    inr (record { number = m; line = line_number a.0 k; offset = o; from2to8 = omega arith; reported = (has_refused q (answer_refused _ _ _ _ e)).1; placed = line_placed a k h m o b.0 b.1 (omega arith); own = λ _. refl; fits = omega (arith, (condition_fits (line_number a.0 k) (line_at a.0 k) e).1) }))
    (λ c. weighed_cases (reading_at a.0 c.0)
    (λ _ w. inr (record { number = 7; line = 0; offset = 0; from2to8 = omega arith; reported = (has_off q c w).1; placed = unweighed (omega arith) (omega arith); own = λ z. absurd (omega arith); fits = omega arith }))
    (λ _ w. inr (record { number = 8; line = 0; offset = 0; from2to8 = omega arith; reported = (has_off q c w).1; placed = unweighed (omega arith) (omega arith); own = λ z. absurd (omega arith); fits = omega arith }))
    (λ _ w. inl (has_judged q c w).0))
