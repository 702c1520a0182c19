-- Refusal 2 of a condition line: exactly where the reading of the text with that line alone comes to a block that overruns.
use mathlib.Core.Path.{◌≡◌, refl, sym, ◌∙◌}
use mathlib.Core.Logic.{◌↔◌}
use mathlib.Core.List.{List}
use Prim.Native.Nat.{ℕ, ◌+◌, ◌<◌}
use native.Mathlib.Omega.{arith}
use lib.ListN.{length}
use Rattle.rules.specs.Outcome.{refused, got}
use Rattle.rules.specs.Met.{Met, Overruns}
use Rattle.rules.specs.Layout.{Booklet}
use Rattle.rules.specs.Booklet.{read_whole}
use Rattle.rules.specs.Apart.{lines_of, line_at, alone}
use Rattle.rules.specs.Answer.{answer}
use Rattle.rules.proofs.walk.Outcome.{bind_last, bind_refused}
use Rattle.rules.proofs.walk.OnlyOverrun.{two_frames}
use Rattle.rules.proofs.booklet.Frames.{framed, Lines-booklet}
use Rattle.rules.proofs.booklet.WholeText.{sound}
use Rattle.rules.proofs.booklet.Relined.{refused_there}
use Rattle.rules.proofs.booklet.Conditions.{answer_own, answer_refused}
use Rattle.rules.proofs.booklet.Alone.{answer_at, alone_read}
use Rattle.rules.proofs.booklet.OfOne.{frames_of_one}

module _ (most : ℕ) (t : List ℕ) (b : Booklet) (e : read_whole most t ≡ got b) (k : ℕ) (h : k < length b.conditions) where
  abbrev line : List ℕ
  line = line_at b k

  abbrev place : ℕ
  place = 2 + length b.rows

  pub two_line : (o : ℕ) → (answer b k ≡ refused 2 (place + k) o) ↔ ((left : List ℕ) × Met (lines_of (alone b line)) place o left × Overruns left)
  two_line o =
      let a = (sound most _ (alone b line) (alone_read b k h most t e)).0 in
      let R = frames_of_one (alone b line) (framed a) refl in
      let X = two_frames (lines_of (alone b line)) (Lines-booklet (alone b line) (framed a)) place o in (
        λ q. X.0 (R ∙ bind_refused _ (refused_there (place + k) place line (answer_own b.ship b.rows (place + k) line (omega arith) (sym (answer_at b k h) ∙ q)))),
        λ x. answer_at b k h ∙ answer_refused b.ship b.rows (place + k) line (refused_there place (place + k) line (bind_last _ _ (sym R ∙ X.1 x))),
      )
