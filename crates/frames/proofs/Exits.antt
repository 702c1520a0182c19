-- The ways out of a row's frame and of a condition line, one fact each: what the code answers with.
use mathlib.Core.Path.{◌≡◌, refl, sym, ◌∙◌}
use mathlib.Core.Bool.{Bool, true, false, ◌&&◌}
use mathlib.Core.List.{List}
use Prim.Native.Nat.{ℕ}
use native.Mathlib.Omega.{arith}
use lib.Dec.{ltb, eqb}
use Rattle.rules.specs.Blocks.{row, condition_tag}
use Rattle.rules.specs.Layout.{most_rows}
use Rattle.rules.specs.Outcome.{refused, got}
use Rattle.rules.specs.Walk.{header, condition_in, fixed_in, row_in}
use Rattle.rules.specs.Booklet.{row_at, condition_at}
use Rattle.rules.specs.Parts.{head_at}
use Rattle.rules.proofs.walk.Outcome.{bind_got, bind_refused, test_got, test_refused}
use Rattle.frames.specs.FrameAnswers.{row_due}

-- ---- where a row is due
module _ (ln k p : ℕ) (s : List ℕ) where
  pub row_short : header ln 0 s ≡ refused 2 ln 0 → row_at ln k p s ≡ refused 2 ln 0
  unfolding row_at
  row_short e = bind_refused _ e

  module _ (t len : ℕ) (H : header ln 0 s ≡ got (head_at t len s)) where
    module _ (a : Bool) (e : a ≡ row_due k t) where
      pub row_due_lem : a ≡ true → row_at ln k p s ≡ row_in ln p (head_at row.tag len s)
      unfolding row_at row_in fixed_in
      row_due_lem q = go (eqb t row.tag) (ltb k most_rows) refl refl (sym e ∙ q)
        where
          go : (x y : Bool) → eqb t row.tag ≡ x → ltb k most_rows ≡ y → (x && y) ≡ true → row_at ln k p s ≡ row_in ln p (head_at row.tag len s)
          go true true f g r = bind_got _ H ∙ test_got _ _ _ _ f ∙ test_got _ _ _ _ g
          go true false f g r = absurd (let z : ◌≡◌ {A = ℕ} 0 1 = cc in omega arith)
          go false y f g r = absurd (let z : ◌≡◌ {A = ℕ} 0 1 = cc in omega arith)

      pub row_other : a ≡ false → row_at ln k p s ≡ refused 4 ln 0
      unfolding row_at
      row_other q = go (eqb t row.tag) (ltb k most_rows) refl refl (sym e ∙ q)
        where
          go : (x y : Bool) → eqb t row.tag ≡ x → ltb k most_rows ≡ y → (x && y) ≡ false → row_at ln k p s ≡ refused 4 ln 0
          go true true f g r = absurd (let z : ◌≡◌ {A = ℕ} 0 1 = cc in omega arith)
          go true false f g r = bind_got _ H ∙ test_got _ _ _ _ f ∙ test_refused _ _ _ _ g
          go false y f g r = bind_got _ H ∙ test_refused _ _ _ _ f

-- ---- a condition line
module _ (ln : ℕ) (s : List ℕ) where
  pub condition_short : header ln 0 s ≡ refused 2 ln 0 → condition_at ln s ≡ refused 2 ln 0
  unfolding condition_at
  condition_short e = bind_refused _ e

  pub condition_in_lem : (t len : ℕ) → header ln 0 s ≡ got (head_at t len s) → condition_at ln s ≡ condition_in ln (head_at condition_tag len s)
  unfolding condition_at condition_in
  condition_in_lem t len H = bind_got _ H
