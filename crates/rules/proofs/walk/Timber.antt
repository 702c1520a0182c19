-- A C6 is tested as a C1: a text with the tag C1 of one block made C6 gets the same refusal, or is read as it was, in the timber set.
use mathlib.Core.Path.{◌≡◌, refl, ap, ◌∙◌}
use mathlib.Core.Logic.{◌↔◌}
use mathlib.Core.Bool.{true}
use mathlib.Core.List.{List, ◌∷◌}
use Prim.Native.Nat.{ℕ, ◌+◌, ◌≤◌, ◌<◌}
use native.Mathlib.Omega.{arith}
use lib.ListN.{length}
use Rattle.rules.specs.Text.{text, Lines}
use Rattle.rules.specs.Blocks.{ok, Set, code, timber, Sky, Weather, weather}
use Rattle.rules.specs.Layout.{Condition, Reading, spell_condition, frames, spell_text, most_characters}
use Rattle.rules.specs.Outcome.{refused, got, ◌>>=◌}
use Rattle.rules.specs.Walk.{fixed, tag_of, block_at, entries, chosen, weather_at, load_at, inside, frame_of, read}
use Rattle.rules.specs.Timber.{TimberLines, condition_by, reading_by}
use Rattle.rules.proofs.layout.Lines.{lines_sound}
use Rattle.rules.proofs.layout.OtherTag.{as_many_characters, Lines-alike, other_way}
use Rattle.rules.proofs.layout.Retagged.{frames_timber}
use Rattle.rules.proofs.walk.Alike.{Like, both_refused, both_got, like_bind, like_then, Never, like_refused, like_got}
use Rattle.rules.proofs.walk.Fuel.{entries_some}
use Rattle.rules.proofs.walk.WholeText.{sound, lines_of_reading}
use Rattle.rules.proofs.walk.OtherTag.{head_alike, TestedAlike, inside_head, read_alike}

-- The one condition in the Code's set, and the other the same in timber's.
abbrev pub InTimber : Condition → Condition → Type 0
InTimber c d = (c.weather.set ≡ code) × (d ≡ condition_by timber c)

-- 4, 3 and 6 of the weather, whichever the set.
weather_steps : (ln : ℕ) (body : List ℕ) (s : Set) → weather_at ln (weather s).tag body ≡ (fixed ln (weather code) true 3 body >>= λ v. got (record { set = s; sky = v }))
unfolding weather_at chosen fixed ok ◌>>=◌
weather_steps ln body code = refl
weather_steps ln body timber = refl

abbrev Skies : Weather → Weather → Type 0
Skies w x = (v : Sky) × (w ≡ record { set = code; sky = v }) × (x ≡ record { set = timber; sky = v })

weather_alike : (ln : ℕ) (body : List ℕ) → Like Skies (weather_at ln 0xC1 body) (weather_at ln 0xC6 body)
weather_alike ln body = rw (weather_steps ln body code, weather_steps ln body timber) (like_then (fixed ln (weather code) true 3 body) _ _ (λ v. both_got (v, refl, refl)))

inside_alike : (ln : ℕ) (s : List ℕ) → Like InTimber (inside ln (0xC1 ∷ s)) (inside ln (0xC6 ∷ s))
inside_alike ln s =
    rw (inside_head ln 0xC1 s, inside_head ln 0xC6 s)
    (like_bind _ _ (head_alike 0xC1 0xC6 ln 3 s) (λ h g e.
    rw (e.1, e.2)
    (like_bind _ _ (weather_alike ln e.0.body) (λ w x q. rw (q.1, q.2) (like_then (load_at ln (6 + length e.0.body) e.0.rest) _ _ (λ F. both_got (refl, refl)))))))

-- Among entries neither is allowed.
no_entry : (ln d n at : ℕ) (s : List ℕ) → Like Never (entries ln d n at (0xC1 ∷ s)) (entries ln d n at (0xC6 ∷ s))
unfolding block_at tag_of ◌>>=◌
no_entry ln d n at s =
    rw (entries_some ln d n at (0xC1 ∷ s) (omega arith), entries_some ln d n at (0xC6 ∷ s) (omega arith)) (like_bind _ _ (head_alike 0xC1 0xC6 ln at s) (λ h g e. rw (e.1, e.2) both_refused))

pub weathers_alike : TestedAlike 0xC1 0xC6 Never InTimber
unfolding frame_of
weathers_alike = record {
  fits = omega arith;
  no_ship = (refl, refl);
  no_frame = λ ln. (refl, refl);
  as_entry = no_entry;
  as_weather = inside_alike;
  behind_entry = λ k v e. e;
  behind_group = λ g e. e;
  within = λ r e. e;
  many = λ e. absurd e;
  under = λ w e. absurd e;
}

-- So the two texts are refused alike, or both are read.
module _ {ls ls' : List (List ℕ)} (m : TimberLines ls ls') (B : Lines ls) (l : length (text ls) ≤ most_characters) where
  pub refused_alike : (n k o : ℕ) → (read (text ls) ≡ refused n k o) ↔ (read (text ls') ≡ refused n k o)
  refused_alike = like_refused (read_alike weathers_alike m B l)

  pub read_in_timber : (r : Reading) → read (text ls) ≡ got r → (r.condition.weather.set ≡ code) × (read (text ls') ≡ got (reading_by timber r))
  read_in_timber r e =
      let q = like_got (read_alike weathers_alike m B l) r e in
      let h = q.1 in
      (h.2.0, q.2 ∙ ap got (same q.0 h))
    where
      same : (s : Reading) → (r.ship ≡ s.ship) × (r.rows ≡ s.rows) × InTimber r.condition s.condition → s ≡ reading_by timber r
      same s h = rw (h.0, h.1, ← h.2.1)

-- ---- the weather of a text that is read
read_frames_lem : (s : List ℕ) (r : Reading) → read s ≡ got r → Lines (frames r) × (text (frames r) ≡ s) × (length s ≤ most_characters) × (length (spell_condition r.condition) < 65_536)
unfolding spell_text
read_frames_lem s r e =
    let L = lines_sound 1 s (frames r) (lines_of_reading s r e) in
    let S = sound s r e in
    (L.1, L.0, omega (arith, ap length S.1, S.0.long), omega (arith, S.0.loaded.long))

pub code_lines : (s : List ℕ) (r : Reading) → read s ≡ got r → r.condition.weather.set ≡ code
    → TimberLines (frames r) (frames (reading_by timber r)) × Lines (frames r) × (text (frames r) ≡ s) × (length s ≤ most_characters)
code_lines s r e c = let f = read_frames_lem s r e in (rw c (frames_timber r f.3), f.0, f.1, f.2)

pub timber_lines : (s : List ℕ) (r : Reading) → read s ≡ got r → r.condition.weather.set ≡ timber
    → TimberLines (frames (reading_by code r)) (frames r) × Lines (frames (reading_by code r)) × (text (frames r) ≡ s) × (length (text (frames (reading_by code r))) ≤ most_characters)
timber_lines s r e c =
    let f = read_frames_lem s r e in
    let m : TimberLines (frames (reading_by code r)) (frames r) = rw c (frames_timber r f.3) in
    let n = as_many_characters m in
    let l : length (text (frames r)) ≤ most_characters = rw f.1 f.2 in
    (m, Lines-alike (other_way m) (omega arith) f.0, f.1, omega arith)
