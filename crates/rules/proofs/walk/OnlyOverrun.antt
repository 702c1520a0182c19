-- Refusal 2 comes from nothing else: where a text is refused with it, a block is met there that overruns.
use mathlib.Core.Path.{◌≡◌, refl, ap, sym, ◌∙◌}
use mathlib.Core.Logic.{◌↔◌}
use mathlib.Core.Bool.{true}
use mathlib.Core.List.{List, [], ◌∷◌, ◌++◌, append_assoc}
use Prim.Native.Nat.{ℕ, zero, suc, ◌+◌, ◌-◌, ◌≤◌, ◌<◌}
use native.Mathlib.Omega.{arith}
use lib.ListN.{length, length-append}
use borrow.Author.Tests.{leb-true}
use Rattle.rules.specs.Numbers.{Bytes, full}
use Rattle.rules.specs.Text.{text, Lines}
use Rattle.rules.specs.Blocks.{block, ok, spell_block, Ship, ship, Row, condition_tag, Weather, ok_weather, spell_weather, Load, Values, entry, group_tag}
use Rattle.rules.specs.Layout.{Entries, end, leaf, group, Condition, spell, spell_condition, leaves, depth, some, Good, fewest_rows, most_depth, most_entries, most_bytes, most_characters, ConditionLimits}
use Rattle.rules.specs.Outcome.{Ans, refused, got}
use Rattle.rules.specs.Walk.{Head, header, Block, one, nest, Walk, step, walk, entries, load_at, inside, condition_in, ship_frame, Frame, a_row, a_condition, found, frame_at, closed, read_frames, read}
use Rattle.rules.specs.Met.{Passed, Meets, behind, nested_in, Led, lead, Met, ships_frame, frame, frame_behind, weather_block, entry_block, Overruns}
use Rattle.rules.proofs.layout.Parts.{full_length}
use Rattle.rules.proofs.walk.Heads.{length_alone, header_sound}
use Rattle.rules.proofs.walk.Entries.{Sound, BlockSpelled, block_sound, walk_sound, full_spell}
use Rattle.rules.proofs.walk.Conditions.{weather_sound}
use Rattle.rules.proofs.walk.Frames.{code, frame_sound, frame_of_sound}
use Rattle.rules.proofs.walk.WholeText.{read_lines}
use Rattle.rules.proofs.walk.Refusals.{Refusal, given, plain, weaker, bind_refusal, test_refusal, test_cases, At, header_refusal, block_refusal, weather_refusal, fixed_in_refusal, frame_of_refusal, found_row_refusal}
use Rattle.rules.proofs.walk.FrameByFrame.{frames_each}
use Rattle.rules.proofs.walk.Overrun.{none_pass, frames_overrun}

-- Of a refusal with 2, P holds of the line and the offset.
abbrev Two : (ℕ → ℕ → Type 0) → ℕ → ℕ → ℕ → Type 0
Two P n l o = n ≡ 2 → P l o

-- Behind a head the numbers are others.
past_head : {A : Type 0} {P : ℕ → ℕ → Type 0} {ln at : ℕ} {m : Ans A} → Refusal (At 3 ln at) m → Refusal (Two P) m
past_head h = weaker (λ n l o x e. absurd (omega arith)) h

-- ---- among entries
behind_is : {d n at o : ℕ} {s : List ℕ} (F : Entries) (left : List ℕ) → Passed d n F → spell F ++ left ≡ s → at + length (spell F) ≡ o → Meets d n at s o left
behind_is F left P e q = rw (← e, ← q) (behind F left P)

nested_is : {d n n' at at' o : ℕ} {s left : List ℕ} (F : Entries) (body rest : List ℕ) → Passed d n F → 0 < d → n' ≡ n - leaves F → at' ≡ at + length (spell F) + 3 → spell F ++ (block group_tag body ++ rest) ≡ s
    → Meets (d - 1) n' at' body o left → Meets d n at s o left
nested_is F body rest P g u v e m = rw (← e) (nested_in F body rest P g (rw (u, v) at m))

-- What is met behind an entry, or behind a group, that passed.
module _ {d n n' at at' : ℕ} where
  past_leaf : {o : ℕ} {s left : List ℕ} (k : Load) (v : Values k) → 0 < n → ok (entry k) v ≡ true → n' ≡ n - 1 → at' ≡ at + length (spell_block (entry k) v) → Meets d n' at' s o left → Meets d n at (spell_block (entry k) v ++ s) o left
  unfolding spell Good depth leaves
  past_leaf k v z h u w (behind F left P) =
      let M = length-append (spell_block (entry k) v) (spell F) in
      behind_is (leaf k v F) left (record { good = (h, P.good); deep = omega (arith, P.deep); many = omega (arith, P.many) }) (append_assoc (spell_block (entry k) v) (spell F) left) (omega arith)
  past_leaf k v z h u w (nested_in F body rest P g m) =
      let M = length-append (spell_block (entry k) v) (spell F) in
      nested_is (leaf k v F) body rest (record { good = (h, P.good); deep = omega (arith, P.deep); many = omega (arith, P.many) }) g (omega arith) (omega arith) (append_assoc (spell_block (entry k) v) (spell F) (block group_tag body ++ rest)) m

  past_group : {o : ℕ} {s left : List ℕ} (g : Entries) → some g ≡ true → Passed (d - 1) n g → 0 < d → n' ≡ n - leaves g → at' ≡ at + length (block group_tag (spell g)) → Meets d n' at' s o left → Meets d n at (block group_tag (spell g) ++ s) o left
  unfolding spell Good depth leaves
  past_group g a G z u w (behind F left P) =
      let M = length-append (block group_tag (spell g)) (spell F) in
      behind_is (group g F) left (record { good = (a, G.good, P.good); deep = omega (arith, G.deep, P.deep); many = omega (arith, G.many, P.many) }) (append_assoc (block group_tag (spell g)) (spell F) left) (omega arith)
  past_group g a G z u w (nested_in F body rest P h m) =
      let M = length-append (block group_tag (spell g)) (spell F) in
      nested_is (group g F) body rest (record { good = (a, G.good, P.good); deep = omega (arith, G.deep, P.deep); many = omega (arith, G.many, P.many) }) h (omega arith) (omega arith) (append_assoc (block group_tag (spell g)) (spell F) (block group_tag body ++ rest)) m

module _ (ln : ℕ) where
  -- At this line a block is met that overruns.
  record Runs (d n at : ℕ) (s : List ℕ) (l o : ℕ) : Type 0 where
    line : l ≡ ln
    left : List ℕ
    meets : Meets d n at s o left
    overruns : Overruns left

  abbrev Held : Walk → Type 0
  Held w = (d n at : ℕ) (s : List ℕ) → Bytes s → Refusal (Two (Runs d n at s)) (w d n at s)

  step_runs : (w : Walk) → Held w → Sound w → (d n at : ℕ) (h : Head) → Bytes h.body → Bytes h.rest → (b : Block) → BlockSpelled d n h b → Refusal (Two (Runs d n at (block h.tag h.body ++ h.rest))) (step ln w d n at h b)
  unfolding step spell leaves
  step_runs w W S d n at h B C (one k v) T =
      let L = length_alone h.tag h.body in
      rw (← T.0) (bind_refusal _ _ (weaker (λ a l o x e.
      let y = x e in
      record { line = y.line; left = y.left; meets = past_leaf k v T.1 T.2 refl (rw T.0 (omega arith)) y.meets; overruns = y.overruns }) (W d (n - 1) (at + 3 + length h.body) h.rest C)) (λ r er. given))
  step_runs w W S d n at h B C nest T =
      rw (← T.0) (bind_refusal _ _ (weaker (λ a l o x e.
      let y = x e in
      record { line = y.line; left = y.left; meets = nested_is end h.body h.rest (none_pass d n) T.1 (omega arith) (omega arith) refl y.meets; overruns = y.overruns }) (W (d - 1) n (at + 3) h.body B)) (λ g eg.
      let G = S (d - 1) n (at + 3) h.body g B eg in
      let L = length_alone group_tag (spell g) in
      let M = ap length G.spells in
      bind_refusal _ _ (weaker (λ a l o x e.
      let y = x e in
      record { line = y.line; left = y.left; meets = rw (← G.spells) (past_group g (sym (full_spell g) ∙ ap full G.spells ∙ T.2) (record { good = G.good; deep = omega (arith, G.deep); many = omega (arith, G.many) }) T.1 refl (omega arith) y.meets); overruns = y.overruns }) (W d (n - leaves g) (at + 3 + length h.body) h.rest C)) (λ r er. given)))

  walk_runs : (f : ℕ) → Held (walk ln f)
  unfolding walk spell
  walk_runs zero d n at s B = plain (λ e. absurd (omega arith))
  walk_runs (suc f) d n at [] B = given
  walk_runs (suc f) d n at (x ∷ s) B =
      bind_refusal _ _ (weaker (λ a l o y e. record { line = y.1; left = x ∷ s; meets = behind_is end (x ∷ s) (none_pass d n) refl (omega arith); overruns = (omega arith, y.3) }) (header_refusal ln at (x ∷ s))) (λ h eh.
      let H = header_sound ln at (x ∷ s) h B eh in
      bind_refusal _ _ (past_head (block_refusal ln d n at h.tag h.body)) (λ b eb. rw H.0 at (step_runs (walk ln f) (walk_runs f) (walk_sound ln f) d n at h H.1 H.2 b (block_sound ln d n at h b H.1 eb))))

  entries_runs : Held (entries ln)
  unfolding entries
  entries_runs d n at s = walk_runs (suc (length s)) d n at s

-- ---- among frames
-- In these lines a block is met that overruns.
record MetOver (ls : List (List ℕ)) (l o : ℕ) : Type 0 where
  left : List ℕ
  met : Met ls l o left
  overruns : Overruns left

module _ (s : Ship) (vs : List Row) (L : Led s vs) where
  -- ---- inside the condition
  entry_is : (later : List (List ℕ)) (w : Weather) (b body : List ℕ) {o at : ℕ} {left : List ℕ} → fewest_rows ≤ length vs → ok_weather w ≡ true → spell_weather w ++ b ≡ body → length body ≤ most_bytes
      → at ≡ 3 + length (spell_weather w) → Meets most_depth most_entries at b o left → Met (lead s vs (block condition_tag body ∷ later)) (2 + length vs) o left
  entry_is later w b body f h e c q m = rw (← e) (entry_block s vs w b later L f h (rw e c) (rw q at m))

  inside_over : (later : List (List ℕ)) (body : List ℕ) → fewest_rows ≤ length vs → Bytes body → length body ≤ most_bytes → Refusal (Two (MetOver (lead s vs (block condition_tag body ∷ later)))) (inside (2 + length vs) body)
  unfolding inside load_at
  inside_over later body f B c =
      test_cases _ _ _ _ _ (λ z e. absurd (omega arith)) (λ z.
      bind_refusal _ _ (weaker (λ a l o x e. record { left = body; met = rw (x.1, x.2) (weather_block s vs body later L f c); overruns = (full_length body z, x.3) }) (header_refusal (2 + length vs) 3 body)) (λ h eh.
      let H = header_sound (2 + length vs) 3 body h B eh in
      bind_refusal _ _ (past_head (weather_refusal (2 + length vs) h.tag h.body)) (λ w ew.
      let W = weather_sound (2 + length vs) h.tag h.body w H.1 ew in
      let M = length_alone h.tag h.body in
      bind_refusal _ _ (test_refusal _ _ _ _ _ (λ e. absurd (omega arith)) (weaker (λ a l o x e.
      let y = x e in
      record { left = y.left; met = rw y.line (entry_is later w h.rest body f W.1 (ap (◌++ h.rest) W.0 ∙ H.0) c (rw W.0 (omega arith)) y.meets); overruns = y.overruns }) (entries_runs (2 + length vs) most_depth most_entries (6 + length h.body) h.rest H.2))) (λ x ex. given))))

  -- ---- a frame
  frame_over : (later : List (List ℕ)) (l : List ℕ) (p : ℕ) → 0 < length l → Bytes l → Refusal (Two (MetOver (lead s vs (l ∷ later)))) (frame_at (2 + length vs) (length vs) p l)
  unfolding frame_at found condition_in
  frame_over later l p z B =
      bind_refusal _ _ (weaker (λ a l' o x e. record { left = l; met = rw (x.1, x.2) (frame s vs l later L); overruns = (z, x.3) }) (header_refusal (2 + length vs) 0 l)) (λ h eh.
      bind_refusal _ _ (past_head (frame_of_refusal (2 + length vs) h.tag)) (λ t et. go h eh t (frame_of_sound (2 + length vs) h.tag t et)))
    where
      go : (h : Head) → header (2 + length vs) 0 l ≡ got h → (t : Frame) → code t ≡ h.tag → Refusal (Two (MetOver (lead s vs (l ∷ later)))) (found (2 + length vs) (length vs) p h t)
      go h eh a_row c = weaker (λ n l o x e. absurd (omega arith)) (found_row_refusal (2 + length vs) (length vs) p h)
      go h eh a_condition c =
          test_cases _ _ _ _ _ (λ y e. absurd (omega arith)) (λ f. bind_refusal _ _ (test_cases _ _ _ _ _ (λ y e. absurd (omega arith)) (λ y. test_cases _ _ _ _ _ (λ x e. absurd (omega arith)) (λ x.
          let S = frame_sound (2 + length vs) l h B eh y in
          rw (ap (λ t. block t h.body) c ∙ S.0) at (inside_over later h.body (leb-true _ _ f) S.1 (leb-true _ _ x))))) (λ v ev. given))

  -- ---- behind the condition
  closed_over : (c : Condition) → fewest_rows ≤ length vs → ConditionLimits c → (ls : List (List ℕ)) → Lines ls → Refusal (Two (MetOver (lead s vs (block condition_tag (spell_condition c) ∷ ls)))) (closed (2 + length vs + 1) ls)
  unfolding closed Lines
  closed_over c f C [] B = given
  closed_over c f C (l ∷ ls) B =
      bind_refusal _ _ (weaker (λ a l' o x e.
      let q : l' ≡ 3 + length vs = omega arith in
      record { left = l; met = rw (q, x.2) (frame_behind s vs c l ls L f C); overruns = (full_length l B.0, x.3) }) (header_refusal (2 + length vs + 1) 0 l)) (λ h eh. plain (λ e. absurd (omega arith)))

-- ---- all frames
ship_over : (l : List ℕ) (later : List (List ℕ)) → 0 < length l → Refusal (Two (MetOver (l ∷ later))) (ship_frame 1 l)
unfolding ship_frame
ship_over l later z =
    bind_refusal _ _ (weaker (λ a l' o x e. record { left = l; met = rw (x.1, x.2) (ships_frame l later); overruns = (z, x.3) }) (header_refusal 1 0 l)) (λ h eh.
    test_refusal _ _ _ _ _ (λ e. absurd (omega arith)) (past_head (fixed_in_refusal 1 ship h)))

frames_over : (ls : List (List ℕ)) → Lines ls → Refusal (Two (MetOver ls)) (read_frames ls)
frames_over = frames_each (record {
  ended = λ ls l e. absurd (omega arith);
  ships = ship_over;
  among = λ s vs L l later p z B w. frame_over s vs L later l p z B;
  behind = closed_over;
})

-- ---- a whole text
pub two_frames : (ls : List (List ℕ)) → Lines ls → (ln o : ℕ) → (read_frames ls ≡ refused 2 ln o) ↔ ((left : List ℕ) × Met ls ln o left × Overruns left)
two_frames ls B ln o = (λ e. let x = (frames_over ls B).holds 2 ln o e refl in (x.left, x.met, x.overruns), λ x. frames_overrun x.1 x.2)

pub two_overrun : (ls : List (List ℕ)) → Lines ls → length (text ls) ≤ most_characters → (ln o : ℕ) → (read (text ls) ≡ refused 2 ln o) ↔ ((left : List ℕ) × Met ls ln o left × Overruns left)
two_overrun ls B c ln o = rw (read_lines ls B c) (two_frames ls B ln o)
