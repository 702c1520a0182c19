-- The walk over a text's frames, said once of any promise about refusals: what holds where one frame is refused, behind a ship and rows as they must be, holds of the whole walk.
use mathlib.Core.Path.{◌≡◌, refl, ap, sym, ◌∙◌}
use mathlib.Core.List.{List, [], ◌∷◌, ◌++◌}
use Prim.Native.Nat.{ℕ, ◌+◌, ◌≤◌, ◌<◌}
use native.Mathlib.Omega.{arith}
use lib.ListN.{length, length-append}
use Rattle.rules.specs.Numbers.{Bytes}
use Rattle.rules.specs.Text.{Lines}
use Rattle.rules.specs.Blocks.{block, Ship, Row, condition_tag}
use Rattle.rules.specs.Layout.{Condition, spell_condition, fewest_rows, ConditionLimits}
use Rattle.rules.specs.Walk.{ship_frame, Found, table_row, the_condition, frame_at, closed, after, tail, read_frames}
use Rattle.rules.specs.Met.{Led, behind_rows, lead}
use Rattle.rules.specs.Loading.{last_mass}
use Rattle.rules.proofs.layout.Parts.{full_length}
use Rattle.rules.proofs.walk.Frames.{FrameSpelled, frame_at_sound, ship_sound}
use Rattle.rules.proofs.walk.Led.{last_snoc, lead_snoc, led_none, led_snoc}
use Rattle.rules.proofs.walk.Refusals.{Refusal, plain, given, bind_refusal}

-- P of the lines, the number, the line and the offset: where no frame is left (5), at the ship's, at one behind a ship and rows, and behind the condition.
pub record OfEachFrame (P : List (List ℕ) → ℕ → ℕ → ℕ → Type 0) : Type 0 where
  pub ended : (ls : List (List ℕ)) (l : ℕ) → P ls 5 l 0
  pub ships : (l : List ℕ) (later : List (List ℕ)) → 0 < length l → Refusal (P (l ∷ later)) (ship_frame 1 l)
  pub among : (s : Ship) (vs : List Row) → Led s vs → (l : List ℕ) (later : List (List ℕ)) (p : ℕ) → 0 < length l → Bytes l → p ≡ last_mass vs → Refusal (P (lead s vs (l ∷ later))) (frame_at (2 + length vs) (length vs) p l)
  pub behind : (s : Ship) (vs : List Row) → Led s vs → (c : Condition) → fewest_rows ≤ length vs → ConditionLimits c → (ls : List (List ℕ)) → Lines ls → Refusal (P (lead s vs (block condition_tag (spell_condition c) ∷ ls))) (closed (2 + length vs + 1) ls)

module _ {P : List (List ℕ) → ℕ → ℕ → ℕ → Type 0} (E : OfEachFrame P) where
  -- The frames left, behind the ship and some rows, the last with W = p.
  tail_each : (ls : List (List ℕ)) (s : Ship) (vs : List Row) (ln k p : ℕ) → Lines ls → Led s vs → p ≡ last_mass vs → ln ≡ 2 + length vs → k ≡ length vs → Refusal (P (lead s vs ls)) (tail ls ln k p)
  unfolding tail after Lines
  tail_each [] s vs ln k p B L w a b = plain (E.ended _ _)
  tail_each (l ∷ ls) s vs ln k p B L w a b =
      rw (a, b) (bind_refusal _ _ (E.among s vs L l ls p (full_length l B.0) B.1 w) (λ f ef. go (λ vs ln k p. tail_each ls s vs ln k p B.2) f (frame_at_sound (2 + length vs) (length vs) p l f B.1 ef)))
    where
      go : ((vs : List Row) (ln k p : ℕ) → Led s vs → p ≡ last_mass vs → ln ≡ 2 + length vs → k ≡ length vs → Refusal (P (lead s vs ls)) (tail ls ln k p))
          → (f : Found) → FrameSpelled (length vs) p l f → Refusal (P (lead s vs (l ∷ ls))) (after (tail ls) ls (2 + length vs) (length vs) f)
      go H (table_row v) T =
          let M = length-append vs (v ∷ []) in
          let e : lead s (vs ++ (v ∷ [])) ls ≡ lead s vs (l ∷ ls) = lead_snoc s vs v ls ∙ ap (λ x. lead s vs (x ∷ ls)) T.0 in
          bind_refusal _ _ (rw e at (H (vs ++ (v ∷ [])) (2 + length vs + 1) (length vs + 1) v.mass (led_snoc s vs v p L w T.1 T.2) (sym (last_snoc vs v)) (omega arith) (omega arith))) (λ x ex. given)
      go H (the_condition c) T = bind_refusal _ _ (rw T.0 at (E.behind s vs L c T.2 T.1 ls B.2)) (λ u eu. given)

  pub frames_each : (ls : List (List ℕ)) → Lines ls → Refusal (P ls) (read_frames ls)
  unfolding read_frames Lines behind_rows last_mass
  frames_each [] B = plain (E.ended _ _)
  frames_each (l ∷ ls) B =
      bind_refusal _ _ (E.ships l ls (full_length l B.0)) (λ v ev.
      let S = ship_sound 1 l v B.1 ev in
      bind_refusal _ _ (rw S.0 at (tail_each ls v [] 2 0 0 B.2 (led_none v S.1) refl refl refl)) (λ x ex. given))
