-- Each condition through two runs: as in the text with it alone, and as in a text in which another condition line is another.
use mathlib.Core.Path.{◌≡◌, refl, ap, sym, ◌∙◌}
use mathlib.Core.List.{List}
use mathlib.Core.Logic.{◌≢◌}
use Prim.Native.Nat.{ℕ, ◌*◌, ◌≤◌, ◌<◌}
use native.Mathlib.Omega.{arith}
use lib.ListN.{length, get_or, length-set}
use Rattle.rules.specs.Numbers.{digits, Bytes}
use Rattle.rules.specs.Text.{hex}
use Rattle.rules.specs.Blocks.{condition_tag}
use Rattle.rules.specs.Layout.{most_characters}
use Rattle.rules.specs.Outcome.{Ans, refused, got}
use Rattle.rules.specs.Report.{Judgement, report_length}
use Rattle.rules.specs.Booklet.{read_whole}
use Rattle.rules.specs.Apart.{AllowedWhole, spell_booklet, line_at, alone, respelt, line_number}
use Rattle.rules.specs.Answer.{answered, number_of, report_of, answer, in_line, room}
use Rattle.rules.proofs.booklet.Room.{room_read}
use Rattle.rules.proofs.booklet.Alone as alones
use Rattle.instrument.specs.Reported.{report_in, HasNumber, SameButLine}
use Rattle.instrument.proofs.Numbered.{number_reported}
use Rattle.instrument.proofs.TwoLines.{but_line}
use Rattle.instrument.proofs.Replies.{read_back, allowed, Run, report_at}
use Rattle.instrument.proofs.OfOne.{answer_one, room_one, sent_one}

number_in_line : (ln : ℕ) (a : Ans Judgement) → number_of (in_line ln a) ≡ number_of a
number_in_line ln (refused n l o) = refl
number_in_line ln (got j) = refl

module _ {t before : List ℕ} {n : ℕ} {after : List ℕ} (run : Run t before n after) (a : AllowedWhole most_characters t) (k : ℕ) (h : k < length a.0.conditions) where
  abbrev single : List ℕ
  single = spell_booklet (alone a.0 (line_at a.0 k))

  abbrev allowed_alone : AllowedWhole most_characters single
  allowed_alone = allowed (alone a.0 (line_at a.0 k)) (alones.alone_read a.0 k h most_characters t (read_back a))

  pub room_alone : room most_characters single ≡ report_length
  room_alone = room_one allowed_alone refl

  pub sent_alone : {before' : List ℕ} {n' : ℕ} {after' : List ℕ} → Run single before' n' after'
      → SameButLine (report_in k after) (report_in 0 after') × HasNumber n' (report_in k after) × (report_in k after ≡ report_of (in_line (line_number a.0 k) (answered single)))
  sent_alone run' =
      let s = sent_one allowed_alone refl run' in
      let e = report_at run a k h ∙ ap report_of (alones.each_as_alone a.0 k h ∙ ap (in_line (line_number a.0 k)) (answer_one allowed_alone refl)) in
      let m = number_reported (in_line (line_number a.0 k) (answered single)) in
      (rw (e, s.1) (but_line (line_number a.0 k) (answered single)), rw (e, s.0) (m ∙ ap (λ i. hex (digits 1 i)) (number_in_line (line_number a.0 k) (answered single))), e)

  module _ (l : List ℕ) (tag : get_or l 0 0 ≡ condition_tag) (B : Bytes l) (m : length (spell_booklet (respelt a.0 k l)) ≤ most_characters) where
    abbrev other : List ℕ
    other = spell_booklet (respelt a.0 k l)

    spoiled : (read_whole most_characters other ≡ got (respelt a.0 k l)) × ((i : ℕ) → i ≢ k → answer (respelt a.0 k l) i ≡ answer a.0 i)
    spoiled = alones.spoils_its_own a.0 k h most_characters t (read_back a) l tag B m

    as_many : length (respelt a.0 k l).conditions ≡ length a.0.conditions
    as_many = length-set a.0.conditions k l

    pub room_other : room most_characters other ≡ report_length * length a.0.conditions
    room_other = room_read most_characters other (respelt a.0 k l) spoiled.0 ∙ ap (report_length *◌) as_many

    pub sent_others : {before' : List ℕ} {n' : ℕ} {after' : List ℕ} → Run other before' n' after' → (i : ℕ) → i ≢ k → i < length a.0.conditions → report_in i after ≡ report_in i after'
    sent_others run' i d j =
        report_at run a i j ∙ sym (ap report_of (spoiled.1 i d)) ∙ sym (report_at run' (allowed (respelt a.0 k l) spoiled.0) i (omega (arith, as_many)))
