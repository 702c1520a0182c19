-- Where a text of one condition is refused with 10: at a row with a typing slip, and for nothing else. The reading of a booklet takes from here what is true inside a row's line.
use mathlib.Core.Path.{◌≡◌, refl, ap, sym, ◌∙◌}
use mathlib.Core.Logic.{◌↔◌}
use mathlib.Core.Bool.{true, false}
use mathlib.Core.List.{List, ◌∷◌}
use Prim.Native.Nat.{ℕ, ◌+◌, ◌≤◌, ◌<◌}
use native.Mathlib.Omega.{arith}
use lib.ListN.{length}
use borrow.Author.Tests.{ltb-true}
use Rattle.rules.specs.Numbers.{Bytes}
use Rattle.rules.specs.Text.{text, Lines}
use Rattle.rules.specs.Blocks.{block, spell_values, ok, spell_block, Ship, Row, row, smooth}
use Rattle.rules.specs.Layout.{most_rows, most_characters}
use Rattle.rules.specs.Outcome.{refused, got}
use Rattle.rules.specs.Walk.{Head, header, row_in, Frame, a_row, a_condition, found, frame_at, tail, read_frames, read}
use Rattle.rules.specs.Met.{Led, lead}
use Rattle.rules.specs.Loading.{last_mass}
use Rattle.rules.specs.Mistyped.{Bent, Mistyped, mistyped}
use Rattle.rules.proofs.layout.Fields.{row_lawful}
use Rattle.rules.proofs.layout.Rows.{kn_long}
use Rattle.rules.proofs.layout.Smooth.{bent_at, bent_not_smooth}
use Rattle.rules.proofs.walk.Outcome.{bind_refused}
use Rattle.rules.proofs.walk.Frames.{code, fixed_in_sound, row_in_slip, frame_of_sound, row_frame}
use Rattle.rules.proofs.walk.WholeText.{read_lines}
use Rattle.rules.proofs.walk.Refusals.{Refusal, given, weaker, bind_refusal, test_cases, test_refusal, header_refusal, fixed_in_refusal, frame_of_refusal, condition_refusal, ship_frame_refusal, closed_refusal}
use Rattle.rules.proofs.walk.FrameByFrame.{frames_each}
use Rattle.rules.proofs.walk.Overrun.{led_last}

-- ---- a row
pub bent_row : (v : Row) → ok row v ≡ true → (i : ℕ) → 1 ≤ i → i ≤ 11 → Bent v.kn i → smooth v.kn ≡ false
bent_row v e i a b f = bent_not_smooth v.kn i a (omega (arith, kn_long v e)) f

pub mistyped_is : (s : Ship) (vs : List Row) → Led s vs → (l : List ℕ) (later : List (List ℕ)) (p : ℕ) (v : Row) → p ≡ last_mass vs → length vs < most_rows → spell_block row v ≡ l → ok row v ≡ true → p < v.mass → smooth v.kn ≡ false
    → Mistyped (lead s vs (l ∷ later)) (2 + length vs)
mistyped_is s vs L l later p v q m e o r b = let x = bent_at v.kn b in rw (← e) (mistyped s vs v later L m o (omega arith) x.0 x.1 (omega (arith, x.2, kn_long v o)) x.3)

-- Of a refusal with 10: at the front of a row with a slip.
abbrev Ten : List (List ℕ) → ℕ → ℕ → ℕ → Type 0
Ten ls n l o = n ≡ 10 → (o ≡ 0) × Mistyped ls l

module _ (s : Ship) (vs : List Row) (L : Led s vs) (later : List (List ℕ)) (l : List ℕ) (p : ℕ) (B : Bytes l) (w : p ≡ last_mass vs) where
  row_ten : (h : Head) → header (2 + length vs) 0 l ≡ got h → row.tag ≡ h.tag → length vs < most_rows → Refusal (Ten (lead s vs (l ∷ later))) (row_in (2 + length vs) p h)
  unfolding row_in spell_block
  row_ten h eh c m =
      bind_refusal _ _ (weaker (λ n l o x e. absurd (omega arith)) (fixed_in_refusal (2 + length vs) row h)) (λ v ev.
      let S = fixed_in_sound (2 + length vs) row row_lawful l h v B eh ev in
      test_cases _ _ _ _ _ (λ r e. absurd (omega arith)) (λ r.
      test_cases _ _ _ _ _ (λ b e. (refl, mistyped_is s vs L l later p v w m (ap (λ t. block t (spell_values row.fields (row.listed v))) c ∙ S.0) S.1 (ltb-true _ _ r) b)) (λ b. given)))

  frame_ten : Refusal (Ten (lead s vs (l ∷ later))) (frame_at (2 + length vs) (length vs) p l)
  unfolding frame_at found
  frame_ten =
      bind_refusal _ _ (weaker (λ n l o x e. absurd (omega arith)) (header_refusal (2 + length vs) 0 l)) (λ h eh.
      bind_refusal _ _ (weaker (λ n l o x e. absurd (omega arith)) (frame_of_refusal (2 + length vs) h.tag)) (λ t et. go h eh t (frame_of_sound (2 + length vs) h.tag t et)))
    where
      go : (h : Head) → header (2 + length vs) 0 l ≡ got h → (t : Frame) → code t ≡ h.tag → Refusal (Ten (lead s vs (l ∷ later))) (found (2 + length vs) (length vs) p h t)
      go h eh a_row c = test_cases _ _ _ _ _ (λ d e. absurd (omega arith)) (λ d. bind_refusal _ _ (row_ten h eh c (ltb-true _ _ d)) (λ v ev. given))
      go h eh a_condition c = test_refusal _ _ _ _ _ (λ e. absurd (omega arith)) (bind_refusal _ _ (weaker (λ n l o x e. absurd (omega arith)) (condition_refusal (2 + length vs) h)) (λ d ed. given))

frames_ten : (ls : List (List ℕ)) → Lines ls → Refusal (Ten ls) (read_frames ls)
frames_ten = frames_each (record {
  ended = λ ls l e. absurd (omega arith);
  ships = λ l later z. weaker (λ n l o x e. absurd (omega arith)) (ship_frame_refusal 1 l);
  among = λ s vs L l later p z B w. frame_ten s vs L later l p B w;
  behind = λ s vs L c f C ls B. weaker (λ n l o x e. absurd (omega arith)) (closed_refusal (2 + length vs + 1) ls);
})

-- ---- a whole text
mistyped_refused : {ls : List (List ℕ)} {ln : ℕ} → Mistyped ls ln → read_frames ls ≡ refused 10 ln 0
unfolding tail
mistyped_refused (mistyped s vs v later L m e r i a b f) =
    led_last s vs (spell_block row v ∷ later) L (bind_refused _ (row_frame (2 + length vs) (length vs) (last_mass vs) v e m ∙ bind_refused _ (row_in_slip (2 + length vs) (last_mass vs) v e r (bent_row v e i a b f))))

pub ten_slip : (ls : List (List ℕ)) → Lines ls → length (text ls) ≤ most_characters → (ln o : ℕ) → (read (text ls) ≡ refused 10 ln o) ↔ ((o ≡ 0) × Mistyped ls ln)
ten_slip ls B c ln o = rw (read_lines ls B c) (λ e. (frames_ten ls B).holds 10 ln o e refl, λ x. mistyped_refused x.1 ∙ ap (refused 10 ln) (sym x.0))
