-- Where a text is refused for the whole: with 2 at a line whose frame runs past it, with 4 at a misplaced line, with 5 at the 25th condition line or where none comes, with 10 at a row with a typing slip; and with these numbers for nothing else.
use mathlib.Core.Path.{◌≡◌, refl, ap, sym, ◌∙◌}
use mathlib.Core.Logic.{◌↔◌, ◌⊎◌, inl, inr}
use mathlib.Core.Bool.{Bool, true, false, true≢false, ◌&&◌}
use mathlib.Core.List.{List, [], ◌∷◌, ◌++◌, append_assoc}
use Prim.Native.Nat.{ℕ, ◌+◌, ◌≤◌, ◌<◌}
use native.Mathlib.Omega.{arith}
use lib.Dec.{leb}
use lib.ListN.{length, get_or, length-append}
use borrow.Author.Tests.{leb-true, leb-false, ltb-true, ltb-false, eqb-true, eqb-false}
use Rattle.rules.specs.Numbers.{Bytes}
use Rattle.rules.specs.Text.{Lines}
use Rattle.rules.specs.Blocks.{block, spell_values, Layout, spell_block, Ship, ship, Row, row, condition_tag}
use Rattle.rules.specs.Layout.{fewest_rows, most_rows, is_condition}
use Rattle.rules.specs.Outcome.{Ans, refused, got}
use Rattle.rules.specs.Walk.{Head, header, fixed, fixed_in, row_in, ship_frame, closed}
use Rattle.rules.specs.Met.{Led, behind_rows, lead, Overruns}
use Rattle.rules.specs.Loading.{last_mass}
use Rattle.rules.specs.Mistyped.{Mistyped, mistyped}
use Rattle.rules.specs.Booklet.{counted_lines, row_at, only_conditions, behind_ship, book_frames, read_whole}
use Rattle.rules.specs.Apart.{BeginA3, LinesWithin, MetWhole, first_line, due_row, Misplaced, no_ship, no_row, no_condition, NoCondition, empty_text, front_alone, TwentyFifth}
use Rattle.rules.proofs.layout.Fields.{row_lawful, both_true}
use Rattle.rules.proofs.layout.Parts.{full_length, header_overrun}
use Rattle.rules.proofs.walk.Outcome.{refused_got, bind_first, bind_refused}
use Rattle.rules.proofs.walk.Heads.{header_tag}
use Rattle.rules.proofs.walk.Frames.{fixed_in_sound, ship_sound}
use Rattle.rules.proofs.walk.Refusals.{Refusal, given, plain, weaker, bind_refusal, test_refusal, test_cases, header_refusal}
use Rattle.rules.proofs.walk.Led.{last_snoc, lead_snoc, led_none, led_snoc}
use Rattle.rules.proofs.walk.TypingSlips.{mistyped_is, bent_row}
use Rattle.rules.proofs.booklet.Counted.{begins, only_a3, only_other, behind_a3, behind_row}
use Rattle.rules.proofs.booklet.Frames.{row_sound, row_slip, not_a3}
use Rattle.rules.proofs.booklet.WholeText.{counted_lines_sound, read_blocks}
use Rattle.rules.proofs.booklet.Overrun.{led_last, led_behind, frames_overrun}
use Rattle.rules.proofs.booklet.Misplaced.{met, four_misplaced}
use Rattle.rules.proofs.booklet.TwentyFifth.{twenty_fifth, only_twenty_fifth}

-- `Stands ls n ln o`: in the lines ls, of which at most 24 begin with A3, a refusal with n at line ln and offset o has its cause. Of 3 and 6 only the offset is said.
data Stands (ls : List (List ℕ)) : ℕ → ℕ → ℕ → Type 0 where
  runs_past : (ln : ℕ) (l : List ℕ) → MetWhole ls ln l → Overruns l → Stands ls 2 ln 0
  other_length : (ln : ℕ) → Stands ls 3 ln 0
  misplaced : (ln : ℕ) (l : List ℕ) → Misplaced ls ln l → ¬ Overruns l → Stands ls 4 ln 0
  none_comes : (ln : ℕ) → NoCondition ls ln → Stands ls 5 ln 0
  outside : (ln : ℕ) → Stands ls 6 ln 0
  slip : (ln : ℕ) → Mistyped ls ln → Stands ls 10 ln 0

-- ---- one line
-- Its head; a frame of fixed size behind it; and what has a head and is misplaced.
module _ {ls : List (List ℕ)} (ln : ℕ) where
  head_stands : (l : List ℕ) → 0 < length l → MetWhole ls ln l → Refusal (Stands ls) (header ln 0 l)
  head_stands l z m = weaker (λ n l' o x. rw (x.0, x.1, x.2) (runs_past ln l m (z, x.3))) (header_refusal ln 0 l)

  fixed_stands : {A : Type 0} (L : Layout A) (h : Head) → Refusal (Stands ls) (fixed_in ln L h)
  unfolding fixed_in fixed
  fixed_stands L h =
      test_refusal _ _ _ _ _ (other_length ln) (test_refusal _ _ _ _ _ (other_length ln)
      (test_cases _ _ _ _ _ (λ c. absurd (true≢false c)) (λ c. test_refusal _ _ _ _ _ (outside ln) given)))

  begun_misplaced : (l : List ℕ) (h : Head) → header ln 0 l ≡ got h → Misplaced ls ln l → Stands ls 4 ln 0
  begun_misplaced l h e m = misplaced ln l m (λ v. refused_got (sym (header_overrun l ln 0 v.1) ∙ e))

begin_snoc : (cs : List (List ℕ)) (l : List ℕ) → BeginA3 cs → get_or l 0 0 ≡ condition_tag → Bytes l → BeginA3 (cs ++ (l ∷ []))
unfolding BeginA3
begin_snoc [] l B t C = (t, C, tt)
begin_snoc (x ∷ cs) l B t C = (B.0, B.1, begin_snoc cs l B.2 t C)

module _ (s : Ship) (vs : List Row) (L : Led s vs) where
  -- ---- behind condition lines
  only_stands : (ls cs : List (List ℕ)) (ln : ℕ) → Lines ls → fewest_rows ≤ length vs → BeginA3 cs → 1 ≤ length cs → ln ≡ 2 + length vs + length cs → Refusal (Stands (lead s vs (cs ++ ls))) (only_conditions ln ls)
  unfolding only_conditions Lines closed
  only_stands [] cs ln B f C n q = given
  only_stands (l ∷ ls) cs ln B f C n q = go (λ cs ln. only_stands ls cs ln B.2 f) (is_condition l) refl
    where
      go : ((cs : List (List ℕ)) (ln : ℕ) → BeginA3 cs → 1 ≤ length cs → ln ≡ 2 + length vs + length cs → Refusal (Stands (lead s vs (cs ++ ls))) (only_conditions ln ls))
          → (c : Bool) → is_condition l ≡ c → Refusal (Stands (lead s vs (cs ++ (l ∷ ls)))) (only_conditions ln (l ∷ ls))
      go H true p =
          let M = length-append cs (l ∷ []) in
          rw (only_a3 l ls ln p) (rw append_assoc at (H (cs ++ (l ∷ [])) (ln + 1) (begin_snoc cs l C (eqb-true _ _ p) B.1) (omega arith) (omega arith)))
      go H false p =
          let m : Misplaced (lead s vs (cs ++ (l ∷ ls))) ln l = rw q (no_condition s vs cs l ls L f C n (eqb-false _ _ p)) in
          rw (only_other l ls ln p) (bind_refusal _ _ (head_stands ln l (full_length l B.0) (met m)) (λ h eh. plain (begun_misplaced ln l h eh m)))

  -- ---- where a row is due
  early : (l : List ℕ) → (is_condition l && leb fewest_rows (length vs)) ≡ false → get_or l 0 0 ≡ condition_tag → length vs < fewest_rows
  early l q t = leb-false fewest_rows (length vs) (rw (begins l t) at q)

  row_stands : (l : List ℕ) (later : List (List ℕ)) (p : ℕ) → Bytes l → 0 < length l → p ≡ last_mass vs → (is_condition l && leb fewest_rows (length vs)) ≡ false → Refusal (Stands (lead s vs (l ∷ later))) (row_at (2 + length vs) (length vs) p l)
  unfolding row_at row_in spell_block
  row_stands l later p B z w q =
      bind_refusal _ _ (head_stands (2 + length vs) l z (due_row s vs l later L (λ f t. omega (arith, early l q t)))) (λ h eh.
      test_cases _ _ _ _ _ (λ c. begun_misplaced (2 + length vs) l h eh (no_row s vs l later L (λ t. absurd (eqb-false _ _ c (sym (header_tag (2 + length vs) 0 l h eh) ∙ t))) (early l q))) (λ c.
      test_cases _ _ _ _ _ (λ d. begun_misplaced (2 + length vs) l h eh (no_row s vs l later L (λ t. omega (arith, L.many, ltb-false (length vs) most_rows d)) (early l q))) (λ d.
      bind_refusal _ _ (fixed_stands (2 + length vs) row h) (λ v ev.
      let S = fixed_in_sound (2 + length vs) row row_lawful l h v B eh ev in
      test_cases _ _ _ _ _ (λ r. outside (2 + length vs)) (λ r.
      test_cases _ _ _ _ _ (λ b. slip (2 + length vs) (mistyped_is s vs L l later p v w (ltb-true _ _ d) (ap (λ t. block t (spell_values row.fields (row.listed v))) (sym (eqb-true _ _ c)) ∙ S.0) S.1 (ltb-true _ _ r) b)) (λ b. given))))))

-- ---- behind the ship and some rows
none_at : {ls : List (List ℕ)} {k ln : ℕ} → NoCondition ls k → ln ≡ k → Stands ls 5 ln 0
none_at c q = rw q (none_comes _ c)

behind_stands : (ls : List (List ℕ)) (s : Ship) (vs : List Row) (ln k p : ℕ) → Lines ls → Led s vs → p ≡ last_mass vs → ln ≡ 2 + length vs → k ≡ length vs → Refusal (Stands (lead s vs ls)) (behind_ship ls ln k p)
unfolding behind_ship Lines BeginA3
behind_stands [] s vs ln k p B L w a b = plain (none_at (front_alone s vs L) (omega arith))
behind_stands (l ∷ ls) s vs ln k p B L w a b = rw (a, b) (go (λ vs ln k p. behind_stands ls s vs ln k p B.2) (is_condition l && leb fewest_rows (length vs)) refl)
  where
    go : ((vs : List Row) (ln k p : ℕ) → Led s vs → p ≡ last_mass vs → ln ≡ 2 + length vs → k ≡ length vs → Refusal (Stands (lead s vs ls)) (behind_ship ls ln k p))
        → (c : Bool) → (is_condition l && leb fewest_rows (length vs)) ≡ c → Refusal (Stands (lead s vs (l ∷ ls))) (behind_ship (l ∷ ls) (2 + length vs) (length vs) p)
    go H true q =
        let i : (is_condition l ≡ true) × (leb fewest_rows (length vs) ≡ true) = both_true _ _ q in
        rw (behind_a3 l ls (2 + length vs) (length vs) p q)
        (bind_refusal _ _ (only_stands s vs L ls (l ∷ []) (2 + length vs + 1) B.2 (leb-true _ _ i.1) (eqb-true _ _ i.0, B.1, tt) (omega arith) (omega arith)) (λ u eu. given))
    go H false q =
        rw (behind_row l ls (2 + length vs) (length vs) p q)
        (bind_refusal _ _ (row_stands s vs L l ls p B.1 (full_length l B.0) w q) (λ v ev.
        let T = row_sound (2 + length vs) (length vs) p l v B.1 ev in
        let M = length-append vs (v ∷ []) in
        let e : lead s (vs ++ (v ∷ [])) ls ≡ lead s vs (l ∷ ls) = lead_snoc s vs v ls ∙ ap (λ x. lead s vs (x ∷ ls)) T.0 in
        bind_refusal _ _ (rw e at (H (vs ++ (v ∷ [])) (2 + length vs + 1) (length vs + 1) v.mass (led_snoc s vs v p L w T.1 T.2) (sym (last_snoc vs v)) (omega arith) (omega arith))) (λ x ex. given)))

-- ---- all lines
frames_stand : (ls : List (List ℕ)) → Lines ls → Refusal (Stands ls) (book_frames ls)
unfolding book_frames ship_frame Lines behind_rows last_mass
frames_stand [] B = plain (none_comes 0 empty_text)
frames_stand (l ∷ ls) B =
    bind_refusal _ _
    (bind_refusal _ _ (head_stands 1 l (full_length l B.0) (first_line l ls)) (λ h eh.
    test_cases _ _ _ _ _ (λ c. begun_misplaced 1 l h eh (no_ship l ls (λ t. eqb-false _ _ c (sym (header_tag 1 0 l h eh) ∙ t)))) (λ c. fixed_stands 1 ship h)))
    (λ v ev.
    let S = ship_sound 1 l v B.1 ev in
    bind_refusal _ _ (rw S.0 at (behind_stands ls v [] 2 0 0 B.2 (led_none v S.1) refl refl refl)) (λ x ex. given))

-- ---- a whole text
whole_stands : (most : ℕ) (t : List ℕ) (ls : List (List ℕ)) → LinesWithin most t ls → Refusal (Stands ls) (read_whole most t)
whole_stands most t ls C = rw (read_blocks most t ls C) (frames_stand ls C.lines)

pub two_whole : (most : ℕ) (t : List ℕ) (ls : List (List ℕ)) → LinesWithin most t ls → (ln o : ℕ) → (read_whole most t ≡ refused 2 ln o) ↔ ((o ≡ 0) × (l : List ℕ) × MetWhole ls ln l × Overruns l)
two_whole most t ls C ln o = (λ e. go ((whole_stands most t ls C).holds 2 ln o e), λ x. read_blocks most t ls C ∙ frames_overrun x.2 x.3 ∙ ap (refused 2 ln) (sym x.0))
  where
    go : {o : ℕ} → Stands ls 2 ln o → (o ≡ 0) × (l : List ℕ) × MetWhole ls ln l × Overruns l
    go (runs_past ln l m v) = (refl, l, m, v)

pub four_whole : (most : ℕ) (t : List ℕ) (ls : List (List ℕ)) → LinesWithin most t ls → (ln o : ℕ) → (read_whole most t ≡ refused 4 ln o) ↔ ((o ≡ 0) × (l : List ℕ) × Misplaced ls ln l × (¬ Overruns l))
four_whole most t ls C ln o = (λ e. go ((whole_stands most t ls C).holds 4 ln o e), λ x. four_misplaced most t ls C ln x.1 x.2 x.3 ∙ ap (refused 4 ln) (sym x.0))
  where
    go : {o : ℕ} → Stands ls 4 ln o → (o ≡ 0) × (l : List ℕ) × Misplaced ls ln l × (¬ Overruns l)
    go (misplaced ln l m v) = (refl, l, m, v)

none_refused : {ls : List (List ℕ)} {ln : ℕ} → NoCondition ls ln → book_frames ls ≡ refused 5 ln 0
unfolding book_frames behind_ship
none_refused empty_text = refl
none_refused (front_alone s vs L) = led_behind s vs [] L (λ q. ap (λ x. refused 5 x 0) (omega arith))

pub five_whole : (most : ℕ) (t : List ℕ) (l o : ℕ) → (read_whole most t ≡ refused 5 l o) ↔ ((o ≡ 0) × (TwentyFifth most t l ⊎ ((ls : List (List ℕ)) × LinesWithin most t ls × NoCondition ls l)))
unfolding read_whole
five_whole most t l o = (λ e. there (counted_lines most t) refl e, λ x. rw x.0 (back x.1))
  where
    none : {ls : List (List ℕ)} {o : ℕ} → Stands ls 5 l o → (o ≡ 0) × NoCondition ls l
    none (none_comes ln m) = (refl, m)

    there : (a : Ans (List (List ℕ))) → counted_lines most t ≡ a → read_whole most t ≡ refused 5 l o → (o ≡ 0) × (TwentyFifth most t l ⊎ ((ls : List (List ℕ)) × LinesWithin most t ls × NoCondition ls l))
    there (refused x y z) q e = let w = (only_twenty_fifth most t).holds 5 l o (bind_first _ book_frames q e) refl in (w.0, inl w.1)
    there (got ls) q e = let C = counted_lines_sound most t ls q in let w = none ((whole_stands most t ls C).holds 5 l o e) in (w.0, inr (ls, C, w.1))

    back : TwentyFifth most t l ⊎ ((ls : List (List ℕ)) × LinesWithin most t ls × NoCondition ls l) → read_whole most t ≡ refused 5 l 0
    back (inl z) = twenty_fifth z
    back (inr z) = read_blocks most t z.0 z.1 ∙ none_refused z.2

mistyped_refused : {ls : List (List ℕ)} {ln : ℕ} → Mistyped ls ln → book_frames ls ≡ refused 10 ln 0
mistyped_refused (mistyped s vs v later L m e r i a b f) =
    led_last s vs (spell_block row v ∷ later) L (behind_row (spell_block row v) later (2 + length vs) (length vs) (last_mass vs) (not_a3 (length vs) v)
    ∙ bind_refused _ (row_slip (2 + length vs) (length vs) (last_mass vs) v e r (bent_row v e i a b f) m))

pub ten_whole : (most : ℕ) (t : List ℕ) (ls : List (List ℕ)) → LinesWithin most t ls → (ln o : ℕ) → (read_whole most t ≡ refused 10 ln o) ↔ ((o ≡ 0) × Mistyped ls ln)
ten_whole most t ls C ln o = (λ e. go ((whole_stands most t ls C).holds 10 ln o e), λ x. read_blocks most t ls C ∙ mistyped_refused x.1 ∙ ap (refused 10 ln) (sym x.0))
  where
    go : {o : ℕ} → Stands ls 10 ln o → (o ≡ 0) × Mistyped ls ln
    go (slip ln m) = (refl, m)
