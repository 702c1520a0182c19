-- A C5 is tested as a C3: a text with the tag C3 of one block made C5 gets the same refusal, or is read as it was.
use mathlib.Core.Path.{◌≡◌, refl, ap, ◌∙◌}
use mathlib.Core.Logic.{◌↔◌}
use mathlib.Core.List.{List, ◌∷◌}
use Prim.Native.Nat.{ℕ, ◌+◌, ◌-◌, ◌≤◌}
use native.Mathlib.Omega.{arith}
use lib.ListN.{length}
use lib.Dec.{ltb}
use Rattle.rules.specs.Text.{text, Lines}
use Rattle.rules.specs.Blocks.{ok, Tank, TankKind, ordinary, cargo, tank_tag, tank, entry}
use Rattle.rules.specs.Layout.{Entries, Condition, Reading, frames, spell_text, most_characters}
use Rattle.rules.specs.Outcome.{refused, got, ◌>>=◌}
use Rattle.rules.specs.Walk.{Head, fixed, tag_of, Block, one, begun, block_at, step, entries, chosen, inside, frame_of, read}
use Rattle.rules.specs.Leaves.{loaded_with}
use Rattle.rules.specs.Cargo.{MadeCargo, here, after_entry, after_group, in_group, RetaggedLines}
use Rattle.rules.proofs.layout.Lines.{lines_sound}
use Rattle.rules.proofs.layout.Retagged.{frames_retagged}
use Rattle.rules.proofs.loading.Cargo.{as_many}
use Rattle.rules.proofs.walk.Alike.{Like, both_refused, both_got, like_bind, like_then, like_never, like_refused, like_got}
use Rattle.rules.proofs.walk.FrameExits.{weather_tag_lem}
use Rattle.rules.proofs.walk.Fuel.{entries_some}
use Rattle.rules.proofs.walk.WholeText.{sound, lines_of_reading}
use Rattle.rules.proofs.walk.OtherTag.{with_tag, head_alike, TestedAlike, inside_head, read_alike}

-- The one load with a tank of the other made a cargo tank; and so two conditions.
abbrev pub Made : Entries → Entries → Type 0
Made F G = (t : Tank) × MadeCargo t F G

abbrev pub MadeIn : Condition → Condition → Type 0
MadeIn c d = (c.weather ≡ d.weather) × Made c.load d.load

-- 4, 3, 5 and 6 of a tank, whichever its kind.
block_steps : (ln d n at : ℕ) (body : List ℕ) (k : TankKind) → block_at ln d n at (tank_tag k) body ≡ (fixed ln (entry (tank ordinary)) (ltb 0 n) at body >>= λ t. got (one (tank k) t))
unfolding block_at tag_of begun fixed ok ◌>>=◌
block_steps ln d n at body ordinary = refl
block_steps ln d n at body cargo = refl

-- A C3 that passed its tests and the same as a C5.
abbrev Tanks : Block → Block → Type 0
Tanks b c = (t : Tank) × (b ≡ one (tank ordinary) t) × (c ≡ one (tank cargo) t)

module _ (ln d n at : ℕ) where
  step_alike : (x : Head) (b c : Block) → Tanks b c → Like Made (step ln (entries ln) d n at (with_tag 0xC3 x) b) (step ln (entries ln) d n at (with_tag 0xC5 x) c)
  unfolding step
  step_alike x b c e = rw (e.1, e.2) (like_then (entries ln d (n - 1) (at + 3 + length x.body) x.rest) _ _ (λ r. both_got (e.0, here r)))

  block_alike : (body : List ℕ) → Like Tanks (block_at ln d n at 0xC3 body) (block_at ln d n at 0xC5 body)
  block_alike body =
      rw (block_steps ln d n at body ordinary, block_steps ln d n at body cargo)
      (like_then (fixed ln (entry (tank ordinary)) (ltb 0 n) at body) _ _ (λ t. both_got (t, refl, refl)))

  tank_alike : (s : List ℕ) → Like Made (entries ln d n at (0xC3 ∷ s)) (entries ln d n at (0xC5 ∷ s))
  tank_alike s =
      rw (entries_some ln d n at (0xC3 ∷ s) (omega arith), entries_some ln d n at (0xC5 ∷ s) (omega arith))
      (like_bind _ _ (head_alike 0xC3 0xC5 ln at s) (λ h g e. rw (e.1, e.2) (like_bind _ _ (block_alike e.0.body) (step_alike e.0))))

-- In C1's place neither is the weather.
no_weather : (ln : ℕ) (s : List ℕ) → Like MadeIn (inside ln (0xC3 ∷ s)) (inside ln (0xC5 ∷ s))
unfolding chosen
no_weather ln s =
    rw (inside_head ln 0xC3 s, inside_head ln 0xC5 s)
    (like_bind _ _ (head_alike 0xC3 0xC5 ln 3 s) (λ h g e. rw (e.1, e.2, weather_tag_lem ln 0xC3 e.0.body refl, weather_tag_lem ln 0xC5 e.0.body refl) (like_never _ _ both_refused)))

pub tanks_alike : TestedAlike 0xC3 0xC5 Made MadeIn
unfolding frame_of
tanks_alike = record {
  fits = omega arith;
  no_ship = (refl, refl);
  no_frame = λ ln. (refl, refl);
  as_entry = tank_alike;
  as_weather = no_weather;
  behind_entry = λ k v e. (e.0, after_entry k v e.1);
  behind_group = λ g e. (e.0, after_group g e.1);
  within = λ r e. (e.0, in_group r e.1);
  many = λ e. as_many e.1;
  under = λ w e. (refl, e);
}

-- So the two texts are refused alike, or both are read.
module _ {ls ls' : List (List ℕ)} (m : RetaggedLines ls ls') (B : Lines ls) (l : length (text ls) ≤ most_characters) where
  pub refused_alike : (n k o : ℕ) → (read (text ls) ≡ refused n k o) ↔ (read (text ls') ≡ refused n k o)
  refused_alike = like_refused (read_alike tanks_alike m B l)

  pub read_made_cargo : (r : Reading) → read (text ls) ≡ got r → (t : Tank) × (G : Entries) × MadeCargo t r.condition.load G × (read (text ls') ≡ got (loaded_with r G))
  read_made_cargo r e =
      let q = like_got (read_alike tanks_alike m B l) r e in
      let s = q.0 in
      let h = q.1 in
      (h.2.1.0, s.condition.load, h.2.1.1, q.2 ∙ ap got (same s h))
    where
      same : (s : Reading) → (r.ship ≡ s.ship) × (r.rows ≡ s.rows) × MadeIn r.condition s.condition → s ≡ loaded_with r s.condition.load
      same s h = rw (h.0, h.1, h.2.0)

-- ---- every tank of a text that is read
pub retagged_lines : {t : Tank} (s : List ℕ) (r : Reading) → read s ≡ got r → (G : Entries) → MadeCargo t r.condition.load G
    → RetaggedLines (frames r) (frames (loaded_with r G)) × Lines (frames r) × (text (frames r) ≡ s) × (length s ≤ most_characters)
unfolding spell_text
retagged_lines s r e G m =
    let L = lines_sound 1 s (frames r) (lines_of_reading s r e) in
    let S = sound s r e in
    (frames_retagged r G (omega (arith, S.0.loaded.long)) m, L.1, L.0, omega (arith, ap length S.1, S.0.long))
