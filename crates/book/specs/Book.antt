-- What the plain data says, as the rules say it.
use Rattle.std.specs.Prelude.{◌≡◌, Bool, true, false, cond, eqb, leb, List, map, ℕ, length, Result, Ok, Err}
use Rattle.rules.specs.Blocks as rules
use Rattle.rules.specs.Layout.{Entries}
use Rattle.rules.specs.Loading.{tenths, flat, total, mass, moment, free_surface}
use Rattle.rules.specs.Curve as curve
use Rattle.rules.specs.Report as report
use Rattle.rules.specs.Outcome.{Ans, refused, got}
use Rattle.book.specs.declared.Ship.{Ship}
use Rattle.book.specs.declared.Row.{Row}
use Rattle.book.specs.declared.Set.{Set}
use Rattle.book.specs.declared.Set.TheVariants as set
use Rattle.book.specs.declared.Weather.{Weather}
use Rattle.book.specs.declared.Sums.{Sums}
use Rattle.book.specs.declared.Bilge.{Bilge}
use Rattle.book.specs.declared.Bilge.TheVariants.{Round, Sharp}
use Rattle.book.specs.declared.Fault.{Fault}
use Rattle.book.specs.declared.Fault.TheVariants.{NoLine, Overrun, WrongLength, NotAllowed, Owed, OutsideLimits, OutsideTable, KgTooHigh, NoRoom, TypingSlip}
use Rattle.book.specs.declared.Verdict.{Verdict}
use Rattle.book.specs.declared.Verdict.TheVariants as verdict
use Rattle.book.specs.declared.Refusal.{Refusal}
use Rattle.book.specs.declared.Loaded.{Loaded}
use Rattle.book.specs.declared.Judgement.{Judgement}

-- ---- refusals
-- The paper's number of each fault.
abbrev pub fault_number : Fault → ℕ
fault_number NoLine = 1
fault_number Overrun = 2
fault_number WrongLength = 3
fault_number NotAllowed = 4
fault_number Owed = 5
fault_number OutsideLimits = 6
fault_number OutsideTable = 7
fault_number KgTooHigh = 8
fault_number NoRoom = 9
fault_number TypingSlip = 10

-- The fault of a number from 1 to 10: there and back is the same (`number_fault`, `fault_number_lem` in proofs/Faults).
abbrev pub fault_of : ℕ → Fault
fault_of n = cond (eqb n 1) NoLine (cond (eqb n 2) Overrun (cond (eqb n 3) WrongLength (cond (eqb n 4) NotAllowed (cond (eqb n 5) Owed (cond (eqb n 6) OutsideLimits (cond (eqb n 7) OutsideTable (cond (eqb n 8) KgTooHigh (cond (eqb n 9) NoRoom TypingSlip))))))))

-- A refusal as plain data.
abbrev pub refusal : ℕ → ℕ → ℕ → Refusal
refusal n l o = record { fault = fault_of n; place = record { line = l; offset = o } }

-- One that has no place in the text.
abbrev pub nowhere : Fault → Refusal
nowhere f = record { fault = f; place = record { line = 0; offset = 0 } }

-- What the code answers, from what the rules answer: what was read as plain data, or the refusal.
abbrev pub answered : {A B : Type 0} → (A → B) → Ans A → Result B Refusal
answered f (refused n l o) = Err (refusal n l o)
answered f (got a) = Ok (f a)

-- An answer that ends in this refusal.
abbrev pub Refuses : {A : Type 0} → Ans A → Refusal → Type 0
Refuses m r = m ≡ refused (fault_number r.fault) r.place.line r.place.offset

-- ---- the ship and the table
-- '0 round, 1 sharp', both ways.
abbrev pub bilge_number : Bilge → ℕ
bilge_number Round = 0
bilge_number Sharp = 1

abbrev pub bilge_of : ℕ → Bilge
bilge_of n = cond (eqb n 0) Round Sharp

-- What a byte says of the bilge; 6 for any but these two.
abbrev pub bilge_told : ℕ → Result Bilge Fault
bilge_told n = cond (leb n 1) (Ok (bilge_of n)) (Err OutsideLimits)

abbrev pub ship_of : Ship → rules.Ship
ship_of s = record { hull_length = s.length; breadth = s.breadth; keel_area = s.keel; bilge = bilge_number s.bilge }

-- A ship as plain data.
abbrev pub plain_ship : rules.Ship → Ship
plain_ship s = record { length = s.hull_length; breadth = s.breadth; keel = s.keel_area; bilge = bilge_of s.bilge }

abbrev pub row_of : Row → rules.Row
row_of r = record { mass = r.mass; draught = r.draught; km = r.km; kn = r.kn }

-- A row as plain data.
abbrev pub plain_row : rules.Row → Row
plain_row r = record { mass = r.mass; draught = r.draught; km = r.km; kn = r.kn }

-- The rows of a table.
unfoldable pub rows_of : List Row → List rules.Row
rows_of rs = map row_of rs

-- ---- a condition
-- A set of criteria by its name, both ways.
abbrev pub set_of : Set → rules.Set
set_of set.Code = rules.code
set_of set.Timber = rules.timber

abbrev pub plain_set : rules.Set → Set
plain_set rules.code = set.Code
plain_set rules.timber = set.Timber

-- What a tag says of the set; 4 for any but these two.
abbrev pub set_told : ℕ → Result Set Fault
set_told t = cond (eqb t 0xC1) (Ok set.Code) (cond (eqb t 0xC6) (Ok set.Timber) (Err NotAllowed))

abbrev pub sky_of : Weather → rules.Sky
sky_of w = record { wind_area = w.wind; z = w.z; cb = w.cb; flooding = w.flooding; deck_edge = w.deck }

abbrev pub weather_of : Weather → rules.Weather
weather_of w = record { set = set_of w.set; sky = sky_of w }

-- The weather as plain data.
abbrev pub plain_weather : rules.Weather → Weather
plain_weather w = record { set = plain_set w.set; wind = w.sky.wind_area; z = w.sky.z; cb = w.sky.cb; flooding = w.sky.flooding; deck = w.sky.deck_edge }

-- The sums over the entries, each once.
unfoldable pub sums_of : Entries → Sums
sums_of F = record { count = length (flat F); mass = total mass (flat F); moment = total moment (flat F); free = total free_surface (flat F) }

abbrev pub loaded_of : Loaded → curve.Loaded
loaded_of c = record { unit = tenths; ship = ship_of c.ship; weather = weather_of c.weather; w = c.w; kg = c.kg; draught = c.draught; km = c.km; kn = c.kn }

-- ---- the judgement
-- A verdict by its name, and the paper's number of it.
abbrev pub verdict_of : report.Verdict → Verdict
verdict_of report.fail = verdict.Fail
verdict_of report.pass = verdict.Pass
verdict_of report.unjudged = verdict.NotJudged
verdict_of report.void = verdict.Refused
verdict_of report.unused = verdict.Unused

abbrev pub verdict_value : Verdict → ℕ
verdict_value verdict.Fail = 0
verdict_value verdict.Pass = 1
verdict_value verdict.NotJudged = 2
verdict_value verdict.Refused = 3
verdict_value verdict.Unused = 4

abbrev pub passed : Bool → Verdict
passed true = verdict.Pass
passed false = verdict.Fail

-- A judgement as plain data.
abbrev pub judgement_of : report.Judgement → Judgement
judgement_of j = record { verdicts = map verdict_of j.verdicts; figures = j.figures }
