-- What a booklet's walks come to at a line that begins with A3 and at one that does not; the count of condition lines.
use mathlib.Core.Path.{◌≡◌, refl, ap, sym, ◌∙◌}
use mathlib.Core.Bool.{Bool, true, false, ◌&&◌}
use mathlib.Core.List.{List, [], ◌∷◌}
use Prim.Native.Nat.{ℕ, suc, ◌+◌, ◌-◌, ◌≤◌}
use native.Mathlib.Omega.{arith}
use lib.Dec.{leb, ltb}
use lib.ListN.{length, get_or}
use borrow.Author.Tests.{ltb-true, lt-ltb, le-leb, eq-eqb}
use Rattle.rules.specs.Text.{text, Lines}
use Rattle.rules.specs.Blocks.{ship, row, condition_tag, spell_block, block, Ship, Row}
use Rattle.rules.specs.Layout.{fewest_rows, most_conditions, is_condition, condition_lines}
use Rattle.rules.specs.Outcome.{got, test, ◌>>=◌, ◌>>◌}
use Rattle.rules.specs.Walk.{lines_from, closed}
use Rattle.rules.specs.Met.{behind_rows, lead}
use Rattle.rules.specs.Booklet.{counted, counted_lines, row_at, only_conditions, behind_ship}
use Rattle.rules.specs.Apart.{BeginA3}
use Rattle.rules.proofs.layout.Lines.{lines_got}
use Rattle.rules.proofs.walk.Outcome.{test_inv, bind_got, test_got}

-- ---- one line further
module _ (l : List ℕ) (ls : List (List ℕ)) where
  pub lines_a3 : is_condition l ≡ true → condition_lines (l ∷ ls) ≡ suc (condition_lines ls)
  unfolding condition_lines
  lines_a3 e = rw (e, condition_lines)

  pub lines_other : is_condition l ≡ false → condition_lines (l ∷ ls) ≡ condition_lines ls
  unfolding condition_lines
  lines_other e = rw (e, condition_lines)

  pub counted_a3 : (ln n : ℕ) → is_condition l ≡ true → counted ln n (l ∷ ls) ≡ (test (ltb 0 n) 5 ln 0 >> counted (ln + 1) (n - 1) ls)
  unfolding counted
  counted_a3 ln n e = rw (e, counted)

  pub counted_other : (ln n : ℕ) → is_condition l ≡ false → counted ln n (l ∷ ls) ≡ counted (ln + 1) n ls
  unfolding counted
  counted_other ln n e = rw (e, counted)

  pub only_a3 : (ln : ℕ) → is_condition l ≡ true → only_conditions ln (l ∷ ls) ≡ only_conditions (ln + 1) ls
  unfolding only_conditions
  only_a3 ln e = rw (e, only_conditions)

  pub only_other : (ln : ℕ) → is_condition l ≡ false → only_conditions ln (l ∷ ls) ≡ closed ln (l ∷ ls)
  unfolding only_conditions
  only_other ln e = rw (e, only_conditions)

  pub behind_a3 : (ln k p : ℕ) → (is_condition l && leb fewest_rows k) ≡ true → behind_ship (l ∷ ls) ln k p ≡ (only_conditions (ln + 1) ls >>= λ u. got (record { rows = []; conditions = l ∷ ls }))
  unfolding behind_ship
  behind_a3 ln k p e = rw (e, behind_ship)

  pub behind_row : (ln k p : ℕ) → (is_condition l && leb fewest_rows k) ≡ false
      → behind_ship (l ∷ ls) ln k p ≡ (row_at ln k p l >>= λ v. behind_ship ls (ln + 1) (k + 1) v.mass >>= λ x. got (record { rows = v ∷ x.rows; conditions = x.conditions }))
  unfolding behind_ship
  behind_row ln k p e = rw (e, behind_ship)

-- The lines of a text, step by step.
pub counted_lines_steps : (most : ℕ) (t : List ℕ) → counted_lines most t ≡ (test (leb (length t) most) 1 0 0 >> (lines_from 1 t >>= λ ls. counted 1 most_conditions ls >>= λ u. got ls))
unfolding counted_lines ◌>>◌
counted_lines_steps most t = refl

-- Of lines within the limit only the 25th is still to be found.
pub lines_counted : (most : ℕ) (ls : List (List ℕ)) → Lines ls → length (text ls) ≤ most → counted_lines most (text ls) ≡ (counted 1 most_conditions ls >>= λ u. got ls)
lines_counted most ls B l = counted_lines_steps most (text ls) ∙ test_got _ _ _ _ (le-leb _ _ l) ∙ bind_got _ (lines_got ls 1 B)

-- ---- at most n
pub counted_sound : (ls : List (List ℕ)) (ln n : ℕ) (u : Unit {0}) → counted ln n ls ≡ got u → condition_lines ls ≤ n
unfolding counted condition_lines
counted_sound [] ln n u e = omega arith
counted_sound (l ∷ ls) ln n u e = go (λ n e. counted_sound ls (ln + 1) n u e) (is_condition l) refl
  where
    go : ((n : ℕ) → counted (ln + 1) n ls ≡ got u → condition_lines ls ≤ n) → (c : Bool) → is_condition l ≡ c → condition_lines (l ∷ ls) ≤ n
    go H true p =
        let a = test_inv _ _ _ _ _ (sym (counted_a3 l ls ln n p) ∙ e) in
        let b = H (n - 1) a.1 in
        omega (arith, lines_a3 l ls p, ltb-true 0 n a.0)
    go H false p =
        let b = H n (sym (counted_other l ls ln n p) ∙ e) in
        omega (arith, lines_other l ls p)

pub counted_got : (ls : List (List ℕ)) (ln n : ℕ) → condition_lines ls ≤ n → counted ln n ls ≡ got tt
unfolding counted
counted_got [] ln n h = refl
counted_got (l ∷ ls) ln n h = go (λ n h. counted_got ls (ln + 1) n h) (is_condition l) refl
  where
    go : ((n : ℕ) → condition_lines ls ≤ n → counted (ln + 1) n ls ≡ got tt) → (c : Bool) → is_condition l ≡ c → counted ln n (l ∷ ls) ≡ got tt
    go H true p =
        let q = lines_a3 l ls p in
        counted_a3 l ls ln n p ∙ test_got _ _ _ _ (lt-ltb 0 n (omega arith)) ∙ H (n - 1) (omega arith)
    go H false p = let q = lines_other l ls p in counted_other l ls ln n p ∙ H n (omega arith)

-- ---- the condition lines of a booklet
pub begins : (l : List ℕ) → get_or l 0 0 ≡ condition_tag → is_condition l ≡ true
begins l e = eq-eqb _ _ e

lines_begin : (ls : List (List ℕ)) → BeginA3 ls → condition_lines ls ≡ length ls
unfolding BeginA3 condition_lines
lines_begin [] B = refl
lines_begin (l ∷ ls) B = lines_a3 l ls (begins l B.0) ∙ ap suc (lines_begin ls B.2)

lines_rows : (vs : List Row) (ls : List (List ℕ)) → condition_lines (behind_rows vs ls) ≡ condition_lines ls
unfolding behind_rows spell_block block
lines_rows [] ls = refl
lines_rows (v ∷ vs) ls = lines_other (spell_block row v) (behind_rows vs ls) refl ∙ lines_rows vs ls

pub lines_lead : (s : Ship) (vs : List Row) (ls : List (List ℕ)) → BeginA3 ls → condition_lines (lead s vs ls) ≡ length ls
unfolding spell_block block
lines_lead s vs ls B = lines_other (spell_block ship s) (behind_rows vs ls) refl ∙ lines_rows vs ls ∙ lines_begin ls B
