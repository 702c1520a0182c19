-- What is sent back of an answer: its place fits the report's two bytes each, and number and report are the rules'.
use mathlib.Core.Path.{◌≡◌, refl, sym, ◌∙◌}
use mathlib.Core.Bool.{false, cond}
use Prim.Native.Nat.{ℕ, ◌≤◌, ◌<◌}
use native.Mathlib.Omega.{arith}
use lib.Dec.{eqb}
use Rattle.std.specs.Prelude.{Option, Some, None, Result, Err}
use Rattle.std.specs.Option.{option_or}
use Rattle.std.specs.Result.{ForErr}
use Rattle.rules.specs.Outcome.{Ans, refused, got}
use Rattle.rules.specs.Report.{Judgement}
use Rattle.rules.specs.Answer.{number_of, report_of}
use Rattle.rules.proofs.walk.Refusals.{Refusal}
use Rattle.book.specs.Book.{refusal, answered, judgement_of}
use Rattle.book.specs.declared.Fault.{Fault}
use Rattle.book.specs.declared.Fault.TheVariants.{NoLine, Overrun, WrongLength, NotAllowed, Owed, OutsideLimits, OutsideTable, KgTooHigh, NoRoom, TypingSlip}
use Rattle.book.specs.declared.Judgement as plain
use Rattle.book.specs.declared.Refusal as plain'
use Rattle.book.proofs.Faults.{number_fault}
use Rattle.report.specs.Said.{said}
use Rattle.report.proofs.Answer.{said_is}
use Rattle.instrument.specs.Sent.{fault_in, number_sent}

-- What an answer of the rules has to be for that.
abbrev pub Sends : (n m o : ℕ) → Type 0
Sends n m o = (1 ≤ n) × (n ≤ 10) × (m < 65_536) × (o < 65_536)

module _ (a : Ans Judgement) (R : Refusal Sends a) where
  pub placed : (x : Result plain.Judgement plain'.Refusal) → x ≡ answered judgement_of a → ForErr x (λ r. (r.place.line < 65_536) × (r.place.offset < 65_536))
  placed x e y q = go a R (sym q ∙ e)
    where
      go : (a : Ans Judgement) → Refusal Sends a → Err y ≡ answered judgement_of a → (y.place.line < 65_536) × (y.place.offset < 65_536)
      go (refused n m o) R p = let z : y ≡ refusal n m o = cc in let h = R.holds n m o refl in rw z (h.2, h.3)
      go (got j) R p = absurd (let z : ◌≡◌ {A = ℕ} 0 1 = cc in omega arith)

  pub numbered : number_sent (fault_in (answered judgement_of a)) ≡ number_of a
  numbered = go a R
    where
      go : (a : Ans Judgement) → Refusal Sends a → number_sent (fault_in (answered judgement_of a)) ≡ number_of a
      go (refused n m o) R = let h = R.holds n m o refl in number_fault n h.0 h.1
      go (got j) R = refl

  pub reported : said (answered judgement_of a) ≡ report_of a
  reported = go a R
    where
      go : (a : Ans Judgement) → Refusal Sends a → said (answered judgement_of a) ≡ report_of a
      go (refused n m o) R = let h = R.holds n m o refl in said_is (refused n m o) (h.0, h.1)
      go (got j) R = said_is (got j) tt

-- ---- the first fault
some_number : (f : Fault) → eqb (number_sent (Some f)) 0 ≡ false
some_number NoLine = refl
some_number Overrun = refl
some_number WrongLength = refl
some_number NotAllowed = refl
some_number Owed = refl
some_number OutsideLimits = refl
some_number OutsideTable = refl
some_number KgTooHigh = refl
some_number NoRoom = refl
some_number TypingSlip = refl

pub first_or : (x y : Option Fault) → number_sent (option_or x y) ≡ cond (eqb (number_sent x) 0) (number_sent y) (number_sent x)
first_or None y = refl
first_or (Some f) y = rw (some_number f) refl
