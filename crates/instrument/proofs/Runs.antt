-- A run of `judge`, as its contract admits it: what the theorems of Promises that are stated of `judge` speak of.
use mathlib.Core.Path.{◌≡◌, refl}
use mathlib.Core.Logic.{◌↔◌}
use mathlib.Core.List.{List, []}
use Prim.Native.Nat.{ℕ}
use denote.Ref.{Bor}
use denote.MutBor.{MutBor}
use Rattle.rules.specs.Layout.{most_characters}
use Rattle.rules.specs.Answer.{number, written}
use Rattle.instrument.proofs.judge.Reads as judge

-- One run of `judge` as its contract admits it: lent `text` and the buffer `before`, it sends back `n` and leaves the buffer `after`.
-- (Post is what rattle makes of the contract itself; a: the arguments, s: the arguments at the end.)
abbrev pub Judges : List ℕ → List ℕ → ℕ → List ℕ → Type 0
Judges text before n after = (κs : _) × (a : _) × (s : _) × judge.Post κs a n s × (a.0.now ≡ text) × (a.1.0.now ≡ before) × (s.1.0.now ≡ after)

-- A slice that is lent, at some place in memory.
abbrev pub lent : List ℕ → Bor (List ℕ)
lent s = record { ref_ptr = (0, 0); now = s }

abbrev pub lent_out : List ℕ → MutBor (List ℕ)
lent_out s = record { ref_ptr = (0, 0); ghost_name = 0; now = s }

-- That is the two equations of the contract, no more and no less: the number is the rules' and so is the buffer at the end.
pub contract : (text before : List ℕ) (n : ℕ) (after : List ℕ) → Judges text before n after ↔ ((n ≡ number most_characters text before) × (after ≡ written most_characters text before))
contract text before n after = (
  λ run. rw (← run.4, ← run.5, ← run.6) run.3,
  λ settled. (([], ([], tt)), (lent text, (lent_out before, tt)), (lent text, (lent_out after, tt)), settled, refl, refl, refl),
)
