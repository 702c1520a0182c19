-- Faults, verdicts and the bilge by their numbers: there and back is the same.
use Rattle.std.specs.Prelude.{ℕ, zero, suc, ◌≤◌}
use mathlib.Core.Path.{◌≡◌, refl}
use Rattle.std.proofs.Common.{rules}
use Rattle.rules.specs.Blocks as rules
use Rattle.rules.specs.Report as report
use Rattle.book.specs.Book.{fault_number, fault_of, bilge_number, bilge_of, ship_of, plain_ship, verdict_of, verdict_value}
use Rattle.book.specs.declared.Fault.{Fault}
use Rattle.book.specs.declared.Fault.TheVariants.{NoLine, Overrun, WrongLength, NotAllowed, Owed, OutsideLimits, OutsideTable, KgTooHigh, NoRoom, TypingSlip}
use Rattle.book.specs.declared.Bilge.{Bilge}
use Rattle.book.specs.declared.Bilge.TheVariants.{Round, Sharp}

pub fault_number_lem : (f : Fault) → fault_of (fault_number f) ≡ f
fault_number_lem NoLine = refl
fault_number_lem Overrun = refl
fault_number_lem WrongLength = refl
fault_number_lem NotAllowed = refl
fault_number_lem Owed = refl
fault_number_lem OutsideLimits = refl
fault_number_lem OutsideTable = refl
fault_number_lem KgTooHigh = refl
fault_number_lem NoRoom = refl
fault_number_lem TypingSlip = refl

-- Of each number that is sent back.
pub number_fault : (n : ℕ) → 1 ≤ n → n ≤ 10 → fault_number (fault_of n) ≡ n
number_fault zero p q = search rules
number_fault (suc zero) p q = refl
number_fault (suc (suc zero)) p q = refl
number_fault (suc (suc (suc zero))) p q = refl
number_fault (suc (suc (suc (suc zero)))) p q = refl
number_fault (suc (suc (suc (suc (suc zero))))) p q = refl
number_fault (suc (suc (suc (suc (suc (suc zero)))))) p q = refl
number_fault (suc (suc (suc (suc (suc (suc (suc zero))))))) p q = refl
number_fault (suc (suc (suc (suc (suc (suc (suc (suc zero)))))))) p q = refl
number_fault (suc (suc (suc (suc (suc (suc (suc (suc (suc zero))))))))) p q = refl
number_fault (suc (suc (suc (suc (suc (suc (suc (suc (suc (suc zero)))))))))) p q = refl
number_fault (suc (suc (suc (suc (suc (suc (suc (suc (suc (suc (suc n))))))))))) p q = search rules

pub bilge_number_lem : (b : Bilge) → bilge_of (bilge_number b) ≡ b
bilge_number_lem Round = refl
bilge_number_lem Sharp = refl

pub number_bilge : (n : ℕ) → n ≤ 1 → bilge_number (bilge_of n) ≡ n
number_bilge zero p = refl
number_bilge (suc zero) p = refl
number_bilge (suc (suc n)) p = search rules

-- A ship within its limits is the same there and back.
pub ship_plain : (s : rules.Ship) → s.bilge ≤ 1 → ship_of (plain_ship s) ≡ s
ship_plain s p = rw (number_bilge s.bilge p)

-- A verdict's number is the paper's.
pub verdict_value_of : (v : report.Verdict) → verdict_value (verdict_of v) ≡ report.verdict_number v
verdict_value_of report.fail = refl
verdict_value_of report.pass = refl
verdict_value_of report.unjudged = refl
verdict_value_of report.void = refl
verdict_value_of report.unused = refl
