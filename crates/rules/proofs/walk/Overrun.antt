-- Where a block is met and its length runs past its parent, the text is refused with 2 at that block.
use mathlib.Core.Path.{◌≡◌, refl, ap, sym, ◌∙◌}
use mathlib.Core.Bool.{true}
use mathlib.Core.List.{List, [], ◌∷◌, ◌++◌, append_assoc, append-nil}
use Prim.Native.Nat.{ℕ, ◌+◌, ◌-◌, ◌≤◌, ◌<◌}
use native.Mathlib.Omega.{arith}
use lib.ListN.{length, length-append}
use Rattle.rules.specs.Text.{text, Lines}
use Rattle.rules.specs.Blocks.{block, spell_values, spell_block, Ship, Row, condition_tag, Weather, weather, ok_weather, spell_weather, entry, group_tag}
use Rattle.rules.specs.Layout.{Entries, end, leaf, group, spell, spell_condition, leaves, depth, Good, Rising, NoSlips, fewest_rows, most_rows, most_depth, most_entries, most_bytes, most_characters}
use Rattle.rules.specs.Outcome.{refused}
use Rattle.rules.specs.Walk.{step, entries, load_at, inside, closed, after, tail, read_frames, read}
use Rattle.rules.specs.Met.{Passed, Meets, behind, nested_in, Led, behind_rows, lead, Met, ships_frame, frame, frame_behind, weather_block, entry_block, Overruns}
use Rattle.rules.specs.Loading.{last_mass}
use Rattle.rules.proofs.walk.Outcome.{bind_got, bind_refused, test_got}
use Rattle.rules.proofs.walk.Heads.{length_block, full_block, header_got}
use Rattle.rules.proofs.walk.Fuel.{entries_block}
use Rattle.rules.proofs.walk.Entries.{length_leaf, length_group, full_spell, entry_passes, group_passes, entries_got}
use Rattle.rules.proofs.walk.Conditions.{weather_body, weather_got, inside_got}
use Rattle.rules.proofs.walk.Frames.{ship_got, tail_row, condition_frame}
use Rattle.rules.proofs.walk.Led.{last_from, last_from_lem}
use Rattle.rules.proofs.walk.WholeText.{read_lines}
use Rattle.rules.proofs.layout.Parts.{full_some, header_overrun}
use Rattle.rules.proofs.walk.BlockExits.{entries_short}
use Rattle.rules.proofs.walk.FrameExits.{inside_short, ship_short, frame_short}

-- ---- among entries
-- No entries pass.
pub none_pass : (d n : ℕ) → Passed d n end
unfolding leaves depth Good
none_pass d n = record { good = tt; deep = omega arith; many = omega arith }

meets_some : {d n at o : ℕ} {s left : List ℕ} → Meets d n at s o left → 0 < length left → 0 < length s
meets_some (behind F left P) h = let M = length-append (spell F) left in omega arith
meets_some (nested_in F body rest P g m) h = let M = length-append (spell F) (block group_tag body ++ rest) in let N = length_block group_tag body rest in omega arith

module _ (ln : ℕ) where
  -- What is refused behind entries that pass is refused.
  behind_refused : (F : Entries) (d n n' at at' : ℕ) (s : List ℕ) {a b c : ℕ} → Passed d n F → n' ≡ n - leaves F → at' ≡ at + length (spell F) → length (spell F ++ s) < 65_536
      → entries ln d n' at' s ≡ refused a b c → entries ln d n at (spell F ++ s) ≡ refused a b c
  unfolding step spell spell_block Good depth leaves
  behind_refused end d n n' at at' s P p q l e = let u : n ≡ n' = omega arith in let v : at ≡ at' = omega arith in rw (u, v) e
  behind_refused (leaf k v r) d n n' at at' s P p q l e =
      let body : List ℕ = spell_values (entry k).fields ((entry k).listed v) in
      let L = length_leaf k v r in
      let M = length-append (spell (leaf k v r)) s in
      let N = length-append (spell r) s in
      ap (entries ln d n at) (append_assoc (block (entry k).tag body) (spell r) s)
      ∙ entries_block ln d n at (entry k).tag body (spell r ++ s) (omega arith) ∙ bind_got _ (entry_passes ln d n at k v (omega (arith, P.many)) P.good.0)
      ∙ bind_refused _ (behind_refused r d (n - 1) n' (at + 3 + length body) at' s (record { good = P.good.1; deep = omega (arith, P.deep); many = omega (arith, P.many) }) (omega arith) (omega arith) (omega arith) e)
  behind_refused (group g r) d n n' at at' s P p q l e =
      let L = length_group g r in
      let M = length-append (spell (group g r)) s in
      let N = length-append (spell r) s in
      ap (entries ln d n at) (append_assoc (block group_tag (spell g)) (spell r) s)
      ∙ entries_block ln d n at group_tag (spell g) (spell r ++ s) (omega arith) ∙ bind_got _ (group_passes ln d n at (spell g) (omega (arith, P.deep)) (full_spell g ∙ P.good.0))
      ∙ bind_got _ (entries_got ln g (d - 1) n (at + 3) P.good.1 (omega (arith, P.deep)) (omega (arith, P.many)) (omega arith))
      ∙ bind_refused _ (behind_refused r d (n - leaves g) n' (at + 3 + length (spell g)) at' s (record { good = P.good.2; deep = omega (arith, P.deep); many = omega (arith, P.many) }) (omega arith) (omega arith) (omega arith) e)

  meets_overrun : {d n at o : ℕ} {s left : List ℕ} → Meets d n at s o left → length s < 65_536 → Overruns left → entries ln d n at s ≡ refused 2 ln o
  unfolding step
  meets_overrun {d = d} {n = n} {at = at} (behind F left P) l v = behind_refused F d n (n - leaves F) at (at + length (spell F)) left P refl refl l (entries_short left ln d (n - leaves F) (at + length (spell F)) v.0 (header_overrun left ln _ v.1))
  meets_overrun {d = d} {n = n} {at = at} (nested_in F body rest P h m) l v =
      let M = length-append (spell F) (block group_tag body ++ rest) in
      let N = length_block group_tag body rest in
      behind_refused F d n (n - leaves F) at (at + length (spell F)) (block group_tag body ++ rest) P refl refl l (
      entries_block ln d (n - leaves F) (at + length (spell F)) group_tag body rest (omega arith)
      ∙ bind_got _ (group_passes ln d (n - leaves F) (at + length (spell F)) body h (full_some body (meets_some m v.0)))
      ∙ bind_refused _ (meets_overrun m (omega arith) v))

-- ---- inside the condition
weather_overrun : (ln : ℕ) (body : List ℕ) → Overruns body → inside ln body ≡ refused 2 ln 3
weather_overrun ln body v = inside_short ln body v.0 (header_overrun body ln 3 v.1)

entry_overrun : (ln : ℕ) (w : Weather) (b : List ℕ) {o : ℕ} {left : List ℕ} → ok_weather w ≡ true → length (spell_weather w ++ b) ≤ most_bytes → Meets most_depth most_entries (3 + length (spell_weather w)) b o left → Overruns left
    → inside ln (spell_weather w ++ b) ≡ refused 2 ln o
unfolding inside load_at spell_block
entry_overrun ln w b h l m v =
    let body : List ℕ = weather_body w in
    let t = (weather w.set).tag in
    let L = length_block t body b in
    let L0 = length_block t body [] in
    let at : 3 + length (block t body) ≡ 6 + length body = rw (← (append-nil (block t body))) (omega arith) in
    test_got _ _ _ _ (full_block t body b) ∙ bind_got _ (header_got ln 3 t body b (omega arith))
    ∙ bind_got _ (weather_got ln w h)
    ∙ bind_refused _ (test_got _ _ _ _ (full_some b (meets_some m v.0)) ∙ ap (λ x. entries ln most_depth most_entries x b) (sym at) ∙ meets_overrun ln m (omega arith) v)

-- ---- among frames
-- What is refused behind rows as they must be is refused; so behind a ship too, and also where the last row's W does not matter.
rows_refused : (vs : List Row) (ls : List (List ℕ)) (ln ln' k k' p : ℕ) {a b c : ℕ} → Rising p vs → NoSlips vs → ln' ≡ ln + length vs → k' ≡ k + length vs → k' ≤ most_rows → tail ls ln' k' (last_from p vs) ≡ refused a b c
    → tail (behind_rows vs ls) ln k p ≡ refused a b c
unfolding behind_rows Rising NoSlips last_from
rows_refused [] ls ln ln' k k' p R S u v m e = let x : ln ≡ ln' = omega arith in let y : k ≡ k' = omega arith in rw (x, y) e
rows_refused (r ∷ vs) ls ln ln' k k' p R S u v m e =
    tail_row r (behind_rows vs ls) ln k p (R.0, R.1, S.0) (omega arith) ∙ bind_refused _ (rows_refused vs ls (ln + 1) ln' (k + 1) k' r.mass R.2 S.1 (omega arith) (omega arith) m e)

pub led_last : (s : Ship) (vs : List Row) (ls : List (List ℕ)) {a b c : ℕ} → Led s vs → tail ls (2 + length vs) (length vs) (last_mass vs) ≡ refused a b c → read_frames (lead s vs ls) ≡ refused a b c
unfolding read_frames
led_last s vs ls L e = bind_got _ (ship_got 1 s L.hull) ∙ bind_refused _ (rows_refused vs ls 2 (2 + length vs) 0 (length vs) 0 L.rising L.no_slips refl (omega arith) L.many (rw (last_from_lem vs) e))

led_refused : (s : Ship) (vs : List Row) (ls : List (List ℕ)) {a b c : ℕ} → Led s vs → ((q : ℕ) → tail ls (2 + length vs) (length vs) q ≡ refused a b c) → read_frames (lead s vs ls) ≡ refused a b c
led_refused s vs ls L e = led_last s vs ls L (e (last_mass vs))

condition_refused : (body : List ℕ) (later : List (List ℕ)) (ln k q : ℕ) {a b c : ℕ} → fewest_rows ≤ k → length body ≤ most_bytes → inside ln body ≡ refused a b c → tail (block condition_tag body ∷ later) ln k q ≡ refused a b c
unfolding tail
condition_refused body later ln k q f l e = bind_refused _ (condition_frame ln k q body f l ∙ bind_refused _ e)

pub frames_overrun : {ls : List (List ℕ)} {ln o : ℕ} {left : List ℕ} → Met ls ln o left → Overruns left → read_frames ls ≡ refused 2 ln o
unfolding read_frames tail after closed
frames_overrun (ships_frame l later) v = bind_refused _ (ship_short 1 l (header_overrun l 1 0 v.1))
frames_overrun (frame s vs l later L) v = led_refused s vs (l ∷ later) L (λ q. bind_refused _ (frame_short (2 + length vs) (length vs) q l (header_overrun l (2 + length vs) 0 v.1)))
frames_overrun (frame_behind s vs c l later L f C) v =
    led_refused s vs (block condition_tag (spell_condition c) ∷ l ∷ later) L (λ q.
    bind_got _ (condition_frame (2 + length vs) (length vs) q (spell_condition c) f C.long ∙ bind_got _ (inside_got (2 + length vs) c C))
    ∙ bind_refused _ (bind_refused _ (header_overrun l (2 + length vs + 1) 0 v.1)) ∙ ap (λ x. refused 2 x 0) (omega arith))
frames_overrun (weather_block s vs body later L f l) v = led_refused s vs (block condition_tag body ∷ later) L (λ q. condition_refused body later (2 + length vs) (length vs) q f l (weather_overrun (2 + length vs) body v))
frames_overrun (entry_block s vs w b later L f h l m) v =
    led_refused s vs (block condition_tag (spell_weather w ++ b) ∷ later) L (λ q. condition_refused (spell_weather w ++ b) later (2 + length vs) (length vs) q f l (entry_overrun (2 + length vs) w b h l m v))

-- ---- a whole text
pub overrun : (ls : List (List ℕ)) {ln o : ℕ} {left : List ℕ} → Lines ls → length (text ls) ≤ most_characters → Met ls ln o left → Overruns left → read (text ls) ≡ refused 2 ln o
overrun ls B l m v = read_lines ls B l ∙ frames_overrun m v
