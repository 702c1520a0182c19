-- Each condition is answered as alone, and a fault in one spoils its own report only.
use mathlib.Core.Path.{◌≡◌, refl, ap, ◌∙◌}
use mathlib.Core.Logic.{◌≢◌}
use mathlib.Core.List.{List, [], ◌∷◌}
use Prim.Native.Nat.{ℕ, zero, suc, ◌+◌, ◌≤◌, ◌<◌}
use native.Mathlib.Omega.{arith}
use lib.ListN.{length, get_or, set, length-append, length-set}
use Rattle.rules.specs.Numbers.{Bytes}
use Rattle.rules.specs.Text.{LF, hex, text}
use Rattle.rules.specs.Blocks.{Ship, ship, Row, row, spell_block, condition_tag}
use Rattle.rules.specs.Outcome.{refused, got}
use Rattle.rules.specs.Met.{behind_rows, lead}
use Rattle.rules.specs.Layout.{Booklet}
use Rattle.rules.specs.Booklet.{read_whole}
use Rattle.rules.specs.Apart.{BeginA3, spell_booklet, line_at, alone, respelt}
use Rattle.rules.specs.Answer.{answer_of_line, answers_from, answer, in_line}
use Rattle.rules.proofs.booklet.WholeText.{sound, complete}
use Rattle.rules.proofs.booklet.Conditions.{answer_in_line}

-- ---- characters
length_line : (l : List ℕ) (ls : List (List ℕ)) → length (text (l ∷ ls)) ≡ length (hex l) + 1 + length (text ls)
unfolding text
length_line l ls = length-append (hex l) (LF ∷ text ls) ∙ omega arith

length_rows : (vs : List Row) (ls : List (List ℕ)) → length (text (behind_rows vs ls)) ≡ length (text (behind_rows vs [])) + length (text ls)
unfolding behind_rows text
length_rows [] ls = omega arith
length_rows (v ∷ vs) ls =
    let a = length_line (spell_block row v) (behind_rows vs ls) in
    let b = length_line (spell_block row v) (behind_rows vs []) in
    let c = length_rows vs ls in
    a ∙ omega arith

length_lead : (s : Ship) (vs : List Row) (ls : List (List ℕ)) → length (text (lead s vs ls)) ≡ length (hex (spell_block ship s)) + 1 + (length (text (behind_rows vs [])) + length (text ls))
length_lead s vs ls = length_line (spell_block ship s) (behind_rows vs ls) ∙ ap (length (hex (spell_block ship s)) + 1 +◌) (length_rows vs ls)

one_of : (ls : List (List ℕ)) (k : ℕ) → k < length ls → length (text (get_or ls k [] ∷ [])) ≤ length (text ls)
unfolding text
one_of [] k h = absurd (omega arith)
one_of (l ∷ ls) zero h = let a = length_line l ls in let b = length_line l [] in omega arith
one_of (l ∷ ls) (suc k) h = let a = length_line l ls in let b = one_of ls k (omega arith) in omega arith

-- ---- lines that begin with A3
pub begin_at : (ls : List (List ℕ)) (k : ℕ) → BeginA3 ls → k < length ls → BeginA3 (get_or ls k [] ∷ [])
unfolding BeginA3
begin_at [] k B h = absurd (omega arith)
begin_at (l ∷ ls) zero B h = (B.0, B.1, tt)
begin_at (l ∷ ls) (suc k) B h = begin_at ls k B.2 (omega arith)

begin_set : (ls : List (List ℕ)) (k : ℕ) (l : List ℕ) → BeginA3 ls → get_or l 0 0 ≡ condition_tag → Bytes l → BeginA3 (set ls k l)
unfolding BeginA3
begin_set [] k l B t C = tt
begin_set (x ∷ ls) zero l B t C = (t, C, B.2)
begin_set (x ∷ ls) (suc k) l B t C = (B.0, B.1, begin_set ls k l B.2 t C)

-- ---- answers
module _ (s : Ship) (vs : List Row) where
  answers_at : (cs : List (List ℕ)) (ln ln' k : ℕ) → ln' ≡ ln + k → k < length cs → get_or (answers_from s vs ln cs) k (refused 0 0 0) ≡ answer_of_line s vs ln' (get_or cs k [])
  unfolding answers_from
  answers_at [] ln ln' k e h = absurd (omega arith)
  answers_at (l ∷ ls) ln ln' zero e h = ap (λ x. answer_of_line s vs x l) (omega arith)
  answers_at (l ∷ ls) ln ln' (suc k) e h = answers_at ls (ln + 1) ln' k (omega arith) (omega arith)

  answers_set : (cs : List (List ℕ)) (ln k i : ℕ) (l : List ℕ) → i ≢ k → get_or (answers_from s vs ln (set cs k l)) i (refused 0 0 0) ≡ get_or (answers_from s vs ln cs) i (refused 0 0 0)
  unfolding answers_from
  answers_set [] ln k i l h = refl
  answers_set (x ∷ cs) ln zero zero l h = absurd (h refl)
  answers_set (x ∷ cs) ln zero (suc i) l h = refl
  answers_set (x ∷ cs) ln (suc k) zero l h = refl
  answers_set (x ∷ cs) ln (suc k) (suc i) l h = answers_set cs (ln + 1) k i l (λ e. h (ap suc e))

-- With another line in the place of one, the others are answered as before.
pub others_answered : (b : Booklet) (k : ℕ) (l : List ℕ) (i : ℕ) → i ≢ k → answer (respelt b k l) i ≡ answer b i
others_answered b k l i d = answers_set b.ship b.rows b.conditions (2 + length b.rows) k i l d

module _ (b : Booklet) (k : ℕ) (h : k < length b.conditions) where
  pub answer_at : answer b k ≡ answer_of_line b.ship b.rows (2 + length b.rows + k) (line_at b k)
  answer_at = answers_at b.ship b.rows b.conditions (2 + length b.rows) (2 + length b.rows + k) k refl h

  -- 'Each equal to the report of a text holding that condition alone, but with the line number of the long text.'
  pub each_as_alone : answer b k ≡ in_line (2 + length b.rows + k) (answer (alone b (line_at b k)) 0)
  unfolding answers_from
  each_as_alone = answer_at ∙ answer_in_line b.ship b.rows (2 + length b.rows + k) (2 + length b.rows) (line_at b k) (omega arith)

  module _ (most : ℕ) (t : List ℕ) (e : read_whole most t ≡ got b) where
    -- The text of that condition alone is read as such.
    pub alone_read : read_whole most (spell_booklet (alone b (line_at b k))) ≡ got (alone b (line_at b k))
    unfolding spell_booklet
    alone_read =
        let w = (sound most t b e).0 in
        let p = length_lead b.ship b.rows b.conditions in
        let q = length_lead b.ship b.rows (line_at b k ∷ []) in
        let r = one_of b.conditions k h in
        complete most (alone b (line_at b k)) (record { hull = w.hull; rising = w.rising; no_slips = w.no_slips; few = w.few; many = w.many; begin = begin_at b.conditions k w.begin h; some = omega arith; at_most = omega arith; long = omega (arith, w.long) })

    -- 'A fault in a condition line spoils its own report only': whatever begins with A3 may stand there instead, and every other report is as it was.
    pub spoils_its_own : (l : List ℕ) → get_or l 0 0 ≡ condition_tag → Bytes l → length (spell_booklet (respelt b k l)) ≤ most
        → (read_whole most (spell_booklet (respelt b k l)) ≡ got (respelt b k l)) × ((i : ℕ) → i ≢ k → answer (respelt b k l) i ≡ answer b i)
    spoils_its_own l a B m =
        let w = (sound most t b e).0 in
        let n : length (set b.conditions k l) ≡ length b.conditions = length-set b.conditions k l in (
          complete most (respelt b k l) (record { hull = w.hull; rising = w.rising; no_slips = w.no_slips; few = w.few; many = w.many; begin = begin_set b.conditions k l w.begin a B; some = omega (arith, w.some); at_most = omega (arith, w.at_most); long = m }),
          others_answered b k l,
        )
