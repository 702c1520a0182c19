-- A condition line gets none of 2 to 6 exactly when it is allowed; and with another number it gets the same answer there.
use mathlib.Core.Path.{◌≡◌, refl, ap, ap₂, sym, ◌∙◌}
use mathlib.Core.Logic.{◌↔◌, ◌≢◌}
use mathlib.Core.List.{List}
use Prim.Native.Nat.{ℕ, ◌+◌, ◌≤◌, ◌<◌}
use native.Mathlib.Omega.{arith}
use lib.ListN.{get_or}
use borrow.Author.Tests.{leb-true, le-leb, ne_eqb}
use Rattle.rules.specs.Numbers.{Bytes}
use Rattle.rules.specs.Blocks.{block, condition_tag, Ship, Row}
use Rattle.rules.specs.Layout.{Condition, spell_condition, most_bytes, ConditionLimits}
use Rattle.rules.specs.Outcome.{Ans, refused, got, ◌>>=◌}
use Rattle.rules.specs.Walk.{condition_in}
use Rattle.rules.specs.Report.{Judgement}
use Rattle.rules.specs.Booklet.{condition_at}
use Rattle.rules.specs.Apart.{AllowedLine}
use Rattle.rules.specs.Answer.{judged, answer_of_line, in_line}
use Rattle.rules.proofs.walk.Outcome.{refused_got, bind_inv, bind_first, test_inv, bind_got, bind_refused, test_got}
use Rattle.rules.proofs.walk.Heads.{header_tag}
use Rattle.rules.proofs.walk.Conditions.{inside_sound, inside_got}
use Rattle.rules.proofs.walk.Frames.{frame_sound, frame_got}
use Rattle.rules.proofs.walk.Refusals.{Refusal, weaker, bind_refusal}
use Rattle.rules.proofs.answer.Placed.{judged_refusal}
use Rattle.rules.proofs.booklet.Refusals.{condition_at_refusal}
use Rattle.rules.proofs.booklet.Relined.{relined, condition_relined}

-- ---- sound and complete
pub condition_sound : (ln : ℕ) (l : List ℕ) (c : Condition) → get_or l 0 0 ≡ condition_tag → Bytes l → condition_at ln l ≡ got c → ConditionLimits c × (block condition_tag (spell_condition c) ≡ l)
unfolding condition_at condition_in
condition_sound ln l c t B e =
    let h = bind_inv _ _ e in
    let a = test_inv _ _ _ _ _ h.2 in
    let m = test_inv _ _ _ _ _ a.1 in
    let s = frame_sound ln l h.0 B h.1 a.0 in
    let i = inside_sound ln h.0.body c s.1 (leb-true _ _ m.0) m.1 in
    (i.1, ap₂ block (sym t ∙ header_tag ln 0 l h.0 h.1) i.0 ∙ s.0)

pub condition_got : (ln : ℕ) (c : Condition) → ConditionLimits c → condition_at ln (block condition_tag (spell_condition c)) ≡ got c
unfolding condition_at condition_in
condition_got ln c L =
    bind_got _ (frame_got ln condition_tag (spell_condition c) (omega (arith, L.long))) ∙ test_got _ _ _ _ refl ∙ test_got _ _ _ _ (le-leb _ _ L.long) ∙ inside_got ln c L

-- An allowed line says one condition only.
pub line_got : (ln : ℕ) (l : List ℕ) (a : AllowedLine l) → condition_at ln l ≡ got a.0
line_got ln l a = rw (← a.2) (condition_got ln a.0 a.1)

pub condition_unique : (l : List ℕ) (a b : AllowedLine l) → a.0 ≡ b.0
condition_unique l a b =
    let p = line_got 0 l a in
    let q = line_got 0 l b in
    cc

-- ---- with the judgement
module _ (s : Ship) (vs : List Row) where
  abbrev judging : Condition → Ans Judgement
  judging c = judged (record { ship = s; rows = vs; condition = c })

  pub answer_steps : (ln : ℕ) (l : List ℕ) → answer_of_line s vs ln l ≡ (condition_at ln l >>= judging)
  unfolding answer_of_line
  answer_steps ln l = refl

  -- A refusal up to 6 is the line's own.
  pub answer_own : (ln : ℕ) (l : List ℕ) {n m o : ℕ} → n ≤ 6 → answer_of_line s vs ln l ≡ refused n m o → condition_at ln l ≡ refused n m o
  answer_own ln l {n} {m} {o} h e = go (condition_at ln l) refl
    where
      go : (a : Ans Condition) → condition_at ln l ≡ a → condition_at ln l ≡ refused n m o
      go (refused x y z) q = bind_first _ judging q (sym (answer_steps ln l) ∙ e)
      go (got c) q = absurd (let p = (judged_refusal _).holds n m o (sym (answer_steps ln l ∙ bind_got judging q) ∙ e) in omega arith)

  pub answer_refused : (ln : ℕ) (l : List ℕ) {n m o : ℕ} → condition_at ln l ≡ refused n m o → answer_of_line s vs ln l ≡ refused n m o
  answer_refused ln l e = answer_steps ln l ∙ bind_refused judging e

  -- A condition line gets none of 2 to 6 exactly when it is allowed.
  pub condition_iff_allowed : (ln : ℕ) (l : List ℕ) → get_or l 0 0 ≡ condition_tag → Bytes l → ((n m o : ℕ) → (2 ≤ n) × (n ≤ 6) → answer_of_line s vs ln l ≢ refused n m o) ↔ AllowedLine l
  condition_iff_allowed ln l t B = (λ h. go h (condition_at ln l) refl, λ a n m o h e. back a n m o h e)
    where
      go : ((n m o : ℕ) → (2 ≤ n) × (n ≤ 6) → answer_of_line s vs ln l ≢ refused n m o) → (a : Ans Condition) → condition_at ln l ≡ a → AllowedLine l
      go h (refused n m o) e = absurd (h n m o ((condition_at_refusal ln l).holds n m o e).0 (answer_refused ln l e))
      go h (got c) e = let x = condition_sound ln l c t B e in (c, x.0, x.1)

      back : AllowedLine l → (n m o : ℕ) → (2 ≤ n) × (n ≤ 6) → answer_of_line s vs ln l ≡ refused n m o → ⊥
      back a n m o h e = refused_got (sym (answer_own ln l h.1 e) ∙ line_got ln l a)

  -- ---- at another line
  judging_stays : (ln : ℕ) (c : Condition) → judging c ≡ in_line ln (judging c)
  judging_stays ln c = go (judging c) refl
    where
      go : (a : Ans Judgement) → judging c ≡ a → a ≡ in_line ln a
      go (refused n l o) e = let p : l ≡ 0 = ((judged_refusal _).holds n l o e).2 in rw p
      go (got j) e = refl

  pub answer_in_line : (ln ln' : ℕ) (l : List ℕ) → 1 ≤ ln' → answer_of_line s vs ln l ≡ in_line ln (answer_of_line s vs ln' l)
  unfolding ◌>>=◌
  answer_in_line ln ln' l h =
      answer_steps ln l ∙ ap (◌>>= judging) (condition_relined ln ln' l) ∙ go (condition_at ln' l) ∙ ap (λ m. in_line ln (m >>= judging)) (sym (condition_relined ln' ln' l)) ∙ ap (in_line ln) (sym (answer_steps ln' l))
    where
      go : (m : Ans Condition) → (relined ln m >>= judging) ≡ in_line ln (relined ln' m >>= judging)
      go (refused n l o) = rw (ne_eqb ln' 0 (λ e. omega arith))
      go (got c) = judging_stays ln c

  -- ---- what its refusals say
  pub answer_refusal : (ln : ℕ) (l : List ℕ) → Refusal (λ n m o. (2 ≤ n) × (n ≤ 8) × (m ≤ ln) × (o < 3 + most_bytes)) (answer_of_line s vs ln l)
  answer_refusal ln l =
      rw (answer_steps ln l)
      (bind_refusal _ _ (weaker (λ n m o x. omega arith) (condition_at_refusal ln l)) (λ c ec. weaker (λ n m o x. omega arith) (judged_refusal (record { ship = s; rows = vs; condition = c }))))
