-- A row and a condition line of a booklet, in their places, are read as the frames of a text of one condition are.
use mathlib.Core.Path.{◌≡◌, refl, ap, sym, ◌∙◌}
use mathlib.Core.Bool.{Bool, true, false, ◌&&◌}
use mathlib.Core.List.{List}
use Prim.Native.Nat.{ℕ, ◌≤◌}
use native.Mathlib.Omega.{arith}
use lib.Dec.{leb, ltb, eqb}
use lib.ListN.{get_or}
use borrow.Author.Tests.{le-leb}
use Rattle.rules.specs.Blocks.{row, condition_tag}
use Rattle.rules.specs.Layout.{fewest_rows, most_rows, is_condition}
use Rattle.rules.specs.Outcome.{Ans, refused, got, test, ◌>>=◌, ◌>>◌}
use Rattle.rules.specs.Walk.{Head, header, row_in, a_row, a_condition, frame_of, table_row, the_condition, found, frame_at}
use Rattle.rules.specs.Booklet.{row_at, condition_at}
use Rattle.rules.proofs.walk.Outcome.{bind_got, bind_refused, test_got, test_refused, test_bind}
use Rattle.rules.proofs.walk.Heads.{header_tag}

module _ (ln k p : ℕ) (l : List ℕ) where
  -- Where a row is due: 4 for every tag but a row's, an A3 before the second row too.
  tag_due : (h : Head) → (eqb h.tag condition_tag && leb fewest_rows k) ≡ false → (frame_of ln h.tag >>= found ln k p h) ≡ ((test (eqb h.tag row.tag) 4 ln 0 >> (test (ltb k most_rows) 4 ln 0 >> row_in ln p h)) >>= λ v. got (table_row v))
  unfolding frame_of found
  tag_due h = go (eqb h.tag row.tag) (eqb h.tag condition_tag) (leb fewest_rows k) refl refl refl
    where
      go : (a b c : Bool) → eqb h.tag row.tag ≡ a → eqb h.tag condition_tag ≡ b → leb fewest_rows k ≡ c → (b && c) ≡ false
          → (frame_of ln h.tag >>= found ln k p h) ≡ ((test (eqb h.tag row.tag) 4 ln 0 >> (test (ltb k most_rows) 4 ln 0 >> row_in ln p h)) >>= λ v. got (table_row v))
      go true b c x y z d =
          let F : frame_of ln h.tag ≡ got a_row = rw (x, frame_of) in
          bind_got _ F ∙ sym (ap (◌>>= λ v. got (table_row v)) (test_got _ _ _ _ x) ∙ test_bind (ltb k most_rows) 4 ln 0 (row_in ln p h) (λ v. got (table_row v)))
      go false true true x y z d = absurd (let w : ◌≡◌ {A = ℕ} 0 1 = cc in omega arith)
      go false true false x y z d =
          let F : frame_of ln h.tag ≡ got a_condition = rw (x, y, frame_of) in
          bind_got _ F ∙ test_refused _ _ _ _ z ∙ sym (bind_refused _ (test_refused _ _ _ _ x))
      go false false c x y z d =
          let F : frame_of ln h.tag ≡ refused 4 ln 0 = rw (x, y, frame_of) in
          bind_refused _ F ∙ sym (bind_refused _ (test_refused _ _ _ _ x))

  pub frame_due : (is_condition l && leb fewest_rows k) ≡ false → frame_at ln k p l ≡ (row_at ln k p l >>= λ v. got (table_row v))
  unfolding frame_at row_at
  frame_due d = go (header ln 0 l) refl
    where
      go : (a : Ans Head) → header ln 0 l ≡ a → frame_at ln k p l ≡ (row_at ln k p l >>= λ v. got (table_row v))
      go (refused x y z) e = bind_refused _ e ∙ sym (bind_refused _ (bind_refused _ e))
      go (got h) e = bind_got _ e ∙ tag_due h (ap (λ x. eqb x condition_tag && leb fewest_rows k) (sym (header_tag ln 0 l h e)) ∙ d) ∙ sym (ap (◌>>= λ v. got (table_row v)) (bind_got _ e))

  pub frame_condition : get_or l 0 0 ≡ condition_tag → fewest_rows ≤ k → frame_at ln k p l ≡ (condition_at ln l >>= λ c. got (the_condition c))
  unfolding frame_at frame_of found condition_at
  frame_condition t f = go (header ln 0 l) refl
    where
      go : (a : Ans Head) → header ln 0 l ≡ a → frame_at ln k p l ≡ (condition_at ln l >>= λ c. got (the_condition c))
      go (refused x y z) e = bind_refused _ e ∙ sym (bind_refused _ (bind_refused _ e))
      go (got h) e =
          let q : condition_tag ≡ h.tag = sym t ∙ header_tag ln 0 l h e in
          let F : frame_of ln h.tag ≡ got a_condition = rw (← q) refl in
          bind_got _ e ∙ bind_got _ F ∙ test_got _ _ _ _ (le-leb fewest_rows k f) ∙ sym (ap (◌>>= λ c. got (the_condition c)) (bind_got _ e))
