-- A whole text: it is read exactly when it is allowed, and in one way.
use mathlib.Core.Path.{◌≡◌, refl, ap, sym, ◌∙◌}
use mathlib.Core.Logic.{◌↔◌}
use mathlib.Core.List.{List}
use Prim.Native.Nat.{ℕ, ◌≤◌}
use native.Mathlib.Omega.{arith}
use lib.ListN.{length}
use lib.Dec.{leb}
use borrow.Author.Tests.{leb-true, le-leb}
use Rattle.rules.specs.Text.{text, Lines}
use Rattle.rules.specs.Layout.{Reading, NoSlips, frames, spell_text, most_characters, Limits, Allowed}
use Rattle.rules.specs.Outcome.{got, test, ◌>>=◌, ◌>>◌}
use Rattle.rules.specs.Walk.{lines_from, read_frames, read}
use Rattle.rules.proofs.walk.Outcome.{bind_inv, test_inv, bind_got, test_got}
use Rattle.rules.proofs.layout.Lines.{lines_sound, lines_got}
use Rattle.rules.proofs.walk.Frames.{Framed, read_frames_sound, read_frames_got, Lines-frames}

-- The walk over a whole text, its steps shut.
pub read_steps : (t : List ℕ) → read t ≡ (test (leb (length t) most_characters) 1 0 0 >> (lines_from 1 t >>= read_frames))
unfolding read
read_steps t = refl

-- The walk over a text of lines within 180,000 characters.
pub read_lines : (ls : List (List ℕ)) → Lines ls → length (text ls) ≤ most_characters → read (text ls) ≡ read_frames ls
read_lines ls B l = read_steps (text ls) ∙ test_got _ _ _ _ (le-leb _ _ l) ∙ bind_got _ (lines_got ls 1 B)

-- What is read, its steps undone: the text is short enough, it has lines, and these are the frames of what is read.
steps_undone : (t : List ℕ) (r : Reading) → read t ≡ got r → (length t ≤ most_characters) × (ls : List (List ℕ)) × (lines_from 1 t ≡ got ls) × (text ls ≡ t) × Framed r ls
steps_undone t r e =
    let a = test_inv _ _ _ _ _ (sym (read_steps t) ∙ e) in
    let b = bind_inv _ _ a.1 in
    let L = lines_sound 1 t b.0 b.1 in
    (leb-true (length t) most_characters a.0, b.0, b.1, L.0, read_frames_sound b.0 r L.1 b.2)

-- What is read spells the text, within the limits.
pub sound : (t : List ℕ) (r : Reading) → read t ≡ got r → Limits r × (spell_text r ≡ t)
unfolding spell_text
sound t r e =
    let w = steps_undone t r e in
    let F = w.4 in
    let p : text (frames r) ≡ t = ap text F.spells ∙ w.3 in
    (record { hull = F.hull; rising = F.rising; few = F.few; many = F.many; loaded = F.loaded; long = omega (arith, ap length p, w.0) }, p)

-- No row of it has a typing slip.
pub unslipped : (t : List ℕ) (r : Reading) → read t ≡ got r → NoSlips r.rows
unslipped t r e = (steps_undone t r e).4.no_slips

-- Its lines are the frames of what is read.
pub lines_of_reading : (t : List ℕ) (r : Reading) → read t ≡ got r → lines_from 1 t ≡ got (frames r)
lines_of_reading t r e = let w = steps_undone t r e in w.2 ∙ ap got (sym w.4.spells)

-- What is within the limits, no row with a typing slip, is read back from its spelling.
pub complete : (r : Reading) → Limits r → NoSlips r.rows → read (spell_text r) ≡ got r
unfolding spell_text
complete r l n =
    let F : Framed r (frames r) = record { spells = refl; hull = l.hull; rising = l.rising; no_slips = n; few = l.few; many = l.many; loaded = l.loaded } in
    read_lines (frames r) (Lines-frames r F) l.long ∙ read_frames_got r F

-- Read exactly when allowed.
pub read_allowed : (t : List ℕ) → ((r : Reading) × (read t ≡ got r)) ↔ Allowed t
read_allowed t = (λ x. let s = sound t x.0 x.1 in (x.0, s.0, unslipped t x.0 x.1, s.1), λ a. (a.0, rw (← a.3) (complete a.0 a.1 a.2)))

pub reading_unique : (t : List ℕ) (a b : Allowed t) → a.0 ≡ b.0
reading_unique t a b =
    let p : read t ≡ got a.0 = rw (← a.3) (complete a.0 a.1 a.2) in
    let q : read t ≡ got b.0 = rw (← b.3) (complete b.0 b.1 b.2) in
    cc
