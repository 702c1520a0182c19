-- The frame from its parts: the head, the verdicts and the figures, each lent in its place.
use Rattle.std.proofs.Common.{◌≡◌, ℕ, List, ◌∷◌, ◌++◌, map, length, ℤ, sym, refl, ap, ◌∙◌, append-nil, arith, drop_of_length-le}
use borrow.Rule.Slice.PartMut.{put_mid}
use Rattle.rules.specs.Numbers.{digits, twos}
use Rattle.rules.specs.Blocks.{block}
use Rattle.rules.specs.Report.{concat, report_tag, report_body}
use Rattle.report.specs.Said.{frame_head}
use Rattle.report.proofs.Parts.{lent}
use Rattle.rules.proofs.answer.Length.{body_length}

module _ (number line offset : ℕ) (verdicts : List ℕ) (figures : List ℤ) (eight : length verdicts ≡ 8) (eleven : length figures ≡ 11) where
  pub framed : (l : List ℕ) → length l ≡ 104
      → put_mid 16 88 (put_mid 8 8 (put_mid 0 8 l (frame_head number line offset)) verdicts) (concat (map (λ z. digits 8 (twos z)) figures))
      ≡ block report_tag (report_body number line offset verdicts figures)
  unfolding block report_body digits
  framed l e =
      let h = frame_head number line offset in
      let g = concat (map (λ z. digits 8 (twos z)) figures) in
      ap (λ (x : List ℕ). put_mid 16 88 x g) (lent h verdicts l 8 16 refl (omega arith))
      ∙ lent (h ++ verdicts) g l 16 104 (omega arith) (omega arith)
      ∙ ap (λ (x : List ℕ). h ++ verdicts ++ g ++ x) (drop_of_length-le l {i = 104} (omega arith))
      ∙ append-nil (h ++ verdicts ++ g)
      ∙ ap (λ (n : ℕ). report_tag ∷ (digits 2 n ++ report_body number line offset verdicts figures)) (sym (body_length number line offset verdicts figures eight eleven))
