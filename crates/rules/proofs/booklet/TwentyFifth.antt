-- A 25th condition line is refused with 5 there, whatever else the text holds; before the blocks nothing else is refused with 5.
use mathlib.Core.Path.{◌≡◌, refl, ap, ◌∙◌}
use mathlib.Core.Bool.{Bool, true, false}
use mathlib.Core.List.{List, [], ◌∷◌, ◌++◌}
use Prim.Native.Nat.{ℕ, ◌+◌, ◌-◌}
use native.Mathlib.Omega.{arith}
use lib.ListN.{length, get_or}
use borrow.Author.Tests.{leb-true, ltb-true, ltb-false, lt-ltb, le-ltb, eqb-true}
use Rattle.rules.specs.Text.{text}
use Rattle.rules.specs.Blocks.{condition_tag}
use Rattle.rules.specs.Layout.{most_conditions, is_condition, condition_lines}
use Rattle.rules.specs.Outcome.{refused}
use Rattle.rules.specs.Booklet.{counted, counted_lines, read_whole}
use Rattle.rules.specs.Apart.{TwentyFifth}
use Rattle.rules.proofs.layout.Lines.{lines_sound}
use Rattle.rules.proofs.walk.Outcome.{bind_refused, test_got, test_refused}
use Rattle.rules.proofs.walk.Refusals.{Refusal, given, weaker, bind_refusal, test_cases}
use Rattle.rules.proofs.walk.BadLine.{lines_bad}
use Rattle.rules.proofs.booklet.Counted.{lines_a3, lines_other, counted_a3, counted_other, counted_lines_steps, lines_counted, begins}

counted_over : (front : List (List ℕ)) (l : List ℕ) (later : List (List ℕ)) (ln ln' n : ℕ) → condition_lines front ≡ n → is_condition l ≡ true → ln' ≡ ln + length front → counted ln n (front ++ (l ∷ later)) ≡ refused 5 ln' 0
unfolding condition_lines
counted_over [] l later ln ln' n c a e = let q : ln' ≡ ln = omega arith in rw q (counted_a3 l later ln n a ∙ test_refused _ _ _ _ (le-ltb 0 n (omega arith)))
counted_over (x ∷ front) l later ln ln' n c a e = go (λ n c. counted_over front l later (ln + 1) ln' n c a (omega arith)) (is_condition x) refl
  where
    go : ((n : ℕ) → condition_lines front ≡ n → counted (ln + 1) n (front ++ (l ∷ later)) ≡ refused 5 ln' 0) → (b : Bool) → is_condition x ≡ b → counted ln n (x ∷ (front ++ (l ∷ later))) ≡ refused 5 ln' 0
    go H true p = let q = lines_a3 x front p in counted_a3 x (front ++ (l ∷ later)) ln n p ∙ test_got _ _ _ _ (lt-ltb 0 n (omega arith)) ∙ H (n - 1) (omega arith)
    go H false p = let q = lines_other x front p in counted_other x (front ++ (l ∷ later)) ln n p ∙ H n (omega arith)

pub twenty_fifth : {most : ℕ} {t : List ℕ} {l : ℕ} → TwentyFifth most t l → read_whole most t ≡ refused 5 l 0
unfolding read_whole
twenty_fifth {most} z =
    let ls : List (List ℕ) = z.front ++ (z.line ∷ z.later) in
    rw (← z.spells, z.place)
    (bind_refused _ (lines_counted most ls z.lines (rw z.spells z.long) ∙ bind_refused _ (counted_over z.front z.line z.later 1 (1 + length z.front) most_conditions z.before (begins z.line z.begins) refl)))

-- ---- before the blocks nothing else is refused with 5
-- Of lines of which n may yet begin with A3, the first with the number ln, that one which is too many.
pub record TooMany (n ln : ℕ) (ls : List (List ℕ)) (l : ℕ) : Type 0 where
  pub front : List (List ℕ)
  pub line : List ℕ
  pub later : List (List ℕ)
  pub lines : front ++ (line ∷ later) ≡ ls
  pub before : condition_lines front ≡ n
  pub begins : get_or line 0 0 ≡ condition_tag
  pub place : l ≡ ln + length front

one_on : {n m ln x : ℕ} {ls : List (List ℕ)} (l : List ℕ) → ((front : List (List ℕ)) → condition_lines front ≡ m → condition_lines (l ∷ front) ≡ n) → TooMany m (ln + 1) ls x → TooMany n ln (l ∷ ls) x
one_on l f z = record { front = l ∷ z.front; line = z.line; later = z.later; lines = ap (l ∷◌) z.lines; before = f z.front z.before; begins = z.begins; place = omega (arith, z.place) }

pub counted_only : (ls : List (List ℕ)) (ln n : ℕ) → Refusal (λ m l o. (m ≡ 5) × (o ≡ 0) × TooMany n ln ls l) (counted ln n ls)
unfolding counted condition_lines
counted_only [] ln n = given
counted_only (l ∷ ls) ln n = go (λ n. counted_only ls (ln + 1) n) (is_condition l) refl
  where
    go : ((n : ℕ) → Refusal (λ m x o. (m ≡ 5) × (o ≡ 0) × TooMany n (ln + 1) ls x) (counted (ln + 1) n ls)) → (c : Bool) → is_condition l ≡ c → Refusal (λ m x o. (m ≡ 5) × (o ≡ 0) × TooMany n ln (l ∷ ls) x) (counted ln n (l ∷ ls))
    go H true p =
        rw (counted_a3 l ls ln n p)
        (test_cases _ _ _ _ _ (λ c. (refl, refl, record { front = []; line = l; later = ls; lines = refl; before = omega (arith, ltb-false 0 n c); begins = eqb-true _ _ p; place = omega arith })) (λ c.
        weaker (λ m x o y. (y.0, y.1, one_on l (λ f e. omega (arith, lines_a3 l f p, ltb-true 0 n c)) y.2)) (H (n - 1))))
    go H false p = rw (counted_other l ls ln n p) (weaker (λ m x o y. (y.0, y.1, one_on l (λ f e. lines_other l f p ∙ e) y.2)) (H n))

pub only_twenty_fifth : (most : ℕ) (t : List ℕ) → Refusal (λ n l o. n ≡ 5 → (o ≡ 0) × TwentyFifth most t l) (counted_lines most t)
only_twenty_fifth most t =
    rw (counted_lines_steps most t)
    (test_cases _ _ _ _ _ (λ c e. absurd (omega arith)) (λ c.
    bind_refusal _ _ (weaker (λ n l o x e. absurd (omega (arith, x.0))) (lines_bad 1 t)) (λ ls els.
    let s = lines_sound 1 t ls els in
    bind_refusal _ _ (weaker (λ n l o x e.
    let z = x.2 in
    (x.1, record { front = z.front; line = z.line; later = z.later; spells = ap text z.lines ∙ s.0; lines = rw z.lines s.1; long = leb-true (length t) most c; before = z.before; begins = z.begins; place = z.place })) (counted_only ls 1 most_conditions)) (λ u eu. given))))
