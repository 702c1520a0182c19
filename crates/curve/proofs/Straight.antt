-- y at a tenth is the straight line between the levers at two stations.
use mathlib.Core.Path.{◌≡◌, ap, sym, ◌∙◌}
use mathlib.Core.List.{List}
use mathlib.Core.Logic.{⊎_elim}
use Prim.Native.Nat.{ℕ, ◌+◌, ◌/◌, ◌%◌, ◌≤◌, ◌<◌}
use native.Mathlib.Omega.{arith}
use native.Mathlib.Nat.{eq-or-lt_of_le}
use lib.ListN.{get_or}
use lib.IntN.{ℤ, pos, ◌+ℤ◌, ◌*ℤ◌, zero-*ℤ, +ℤ_idl, +ℤ_idr}
use Rattle.rules.specs.Loading.{tenths}
use Rattle.rules.specs.Curve.{lever}
use Rattle.rules.proofs.loading.Levers.{lever_straight}
use Rattle.curve.specs.Levers.{g, levers_of, straight, Holds}
use Rattle.curve.proofs.Filling.{at_station}

-- At the last tenth it is the last station's.
pub straight_end : (gs : List ℤ) → pos 0 *ℤ get_or gs 11 (pos 0) +ℤ pos 50 *ℤ get_or gs 12 (pos 0) ≡ straight gs 600
unfolding straight
straight_end gs = rw (zero-*ℤ (get_or gs 11 (pos 0)), zero-*ℤ (get_or gs 13 (pos 0)), +ℤ_idl, +ℤ_idr)

-- ---- the levers at the stations give 01's y
module _ (kn : List ℕ) (kg : ℕ) (gs : List ℤ) (at : (i : ℕ) → i < 13 → get_or gs i (pos 0) ≡ g kn kg i) where
  -- What counts of the second station: nothing where no tenth is past the first.
  second : (t : ℕ) → t ≤ 600 → pos (t % 50) *ℤ get_or gs (t / 50 + 1) (pos 0) ≡ pos (t % 50) *ℤ g kn kg (t / 50 + 1)
  second t h = ⊎_elim (λ e. rw e (zero-*ℤ (get_or gs 13 (pos 0)) ∙ sym (zero-*ℤ (g kn kg 13)))) (λ l. rw (at (t / 50 + 1) (omega arith))) (eq-or-lt_of_le h)

  of_levers : (t : ℕ) → t ≤ 600 → straight gs t ≡ lever tenths kn kg t
  unfolding straight g
  of_levers t h = rw (at (t / 50) (omega arith), second t h) (sym (lever_straight tenths kn kg t))

pub straight_lever : (kn : List ℕ) (kg t : ℕ) → t ≤ 600 → straight (levers_of kn kg) t ≡ lever tenths kn kg t
straight_lever kn kg = of_levers kn kg (levers_of kn kg) (at_station (pos 0) (g kn kg))

pub holds_lever : (kn : List ℕ) (kg : ℕ) {gs ys : List ℤ} → gs ≡ levers_of kn kg → Holds (straight gs) ys → Holds (lever tenths kn kg) ys
holds_lever kn kg e h = record { long = h.long; at = λ t l. h.at t l ∙ ap (λ (zs : List ℤ). straight zs t) e ∙ straight_lever kn kg t l }
