-- What a condition line of a booklet says, with the ship and the rows, is within the limits of a reading of one condition.
use mathlib.Core.Path.{◌≡◌, refl, sym, ap, ◌∙◌}
use mathlib.Core.List.{List}
use Prim.Native.Nat.{ℕ, ◌+◌, ◌≤◌, ◌<◌}
use lib.ListN.{length}
use Rattle.rules.specs.Layout.{Condition, most_characters, Limits, Booklet}
use Rattle.rules.specs.Outcome.{got}
use Rattle.rules.specs.Booklet.{read_whole, condition_at}
use Rattle.rules.specs.Apart.{BeginA3, spell_booklet, line_at, reading_at, alone}
use Rattle.rules.proofs.walk.Outcome.{bind_got}
use Rattle.rules.proofs.walk.WholeText as texts
use Rattle.rules.proofs.booklet.WholeText.{sound}
use Rattle.rules.proofs.booklet.Conditions.{condition_sound, condition_got}
use Rattle.rules.proofs.booklet.Alone.{begin_at, alone_read}
use Rattle.rules.proofs.booklet.OfOne.{reads_one}

pub reading_limits : (most : ℕ) (t : List ℕ) (b : Booklet) → read_whole most t ≡ got b → most ≤ most_characters → (k : ℕ) → k < length b.conditions
    → (ln : ℕ) (c : Condition) → condition_at ln (line_at b k) ≡ got c → Limits (reading_at b c)
unfolding BeginA3
reading_limits most t b e m k h ln c q =
    let B = begin_at b.conditions k (sound most t b e).0.begin h in
    let s = condition_sound ln (line_at b k) c B.0 B.1 q in
    let again : condition_at (2 + length b.rows) (line_at b k) ≡ got c = ap (condition_at (2 + length b.rows)) (sym s.1) ∙ condition_got (2 + length b.rows) c s.0 in
    (texts.sound (spell_booklet (alone b (line_at b k))) (reading_at b c) (reads_one most _ (alone b (line_at b k)) (alone_read b k h most t e) m refl ∙ bind_got _ again)).0
