-- A reading is outside the table, or its KG too high, or neither: and so it is refused with 7, with 8, or judged.
use mathlib.Core.Path.{◌≡◌, refl, ap, ◌∙◌}
use mathlib.Core.Bool.{Bool, true, false, ◌&&◌}
use mathlib.Core.Logic.{inl, inr, ⊎_elim}
use Prim.Native.Nat.{◌≤◌, ◌<◌}
use native.Mathlib.Omega.{arith}
use lib.Dec.{leb}
use borrow.Author.Tests.{leb-true, leb-false}
use Rattle.rules.specs.Layout.{Reading}
use Rattle.rules.specs.Outcome.{refused, got, test}
use Rattle.rules.specs.Loading.{weighed, in_table, displacement, corrected_kg, first_mass, last_mass, entries_of}
use Rattle.rules.proofs.answer.Steps.{weighed_steps}
use Rattle.rules.proofs.walk.Outcome.{test_got, test_refused}
use Rattle.instrument.specs.Outside.{Outside, Inside, TooHigh, Neither}

module _ (r : Reading) where
  table_steps : in_table r.rows (displacement (entries_of r)) ≡ (leb (first_mass r.rows) (displacement (entries_of r)) && leb (displacement (entries_of r)) (last_mass r.rows))
  unfolding in_table
  table_steps = refl

  off : in_table r.rows (displacement (entries_of r)) ≡ false → weighed r ≡ refused 7 0 0
  off e = weighed_steps r ∙ test_refused 7 0 0 _ e

  on : in_table r.rows (displacement (entries_of r)) ≡ true → (c : Bool) → leb (corrected_kg (entries_of r)) 600_000 ≡ c → weighed r ≡ test c 8 0 0
  on e c p = weighed_steps r ∙ test_got 7 0 0 _ e ∙ ap (λ (b : Bool). test b 8 0 0) p

  pub weighed_cases : {X : Type 0} → (Outside r → weighed r ≡ refused 7 0 0 → X) → (TooHigh r → weighed r ≡ refused 8 0 0 → X) → (Neither r → weighed r ≡ got tt → X) → X
  unfolding test
  weighed_cases {X} f g h = go (leb (first_mass r.rows) (displacement (entries_of r))) (leb (displacement (entries_of r)) (last_mass r.rows)) (leb (corrected_kg (entries_of r)) 600_000) refl refl refl
    where
      go : (a b c : Bool) → leb (first_mass r.rows) (displacement (entries_of r)) ≡ a → leb (displacement (entries_of r)) (last_mass r.rows) ≡ b → leb (corrected_kg (entries_of r)) 600_000 ≡ c → X
      go false b c p q s = let u : displacement (entries_of r) < first_mass r.rows = leb-false _ _ p in f (inl (omega arith)) (off (table_steps ∙ rw p))
      go true false c p q s = let v : last_mass r.rows < displacement (entries_of r) = leb-false _ _ q in f (inr (omega arith)) (off (table_steps ∙ rw (p, q)))
      go true true false p q s =
          let u : first_mass r.rows ≤ displacement (entries_of r) = leb-true _ _ p in
          let v : displacement (entries_of r) ≤ last_mass r.rows = leb-true _ _ q in
          let w : 600_000 < corrected_kg (entries_of r) = leb-false _ _ s in
          g ((omega arith, omega arith), omega arith) (on (table_steps ∙ rw (p, q)) false s)
      go true true true p q s =
          let u : first_mass r.rows ≤ displacement (entries_of r) = leb-true _ _ p in
          let v : displacement (entries_of r) ≤ last_mass r.rows = leb-true _ _ q in
          let w : corrected_kg (entries_of r) ≤ 600_000 = leb-true _ _ s in
          h ((omega arith, omega arith), omega arith) (on (table_steps ∙ rw (p, q)) true s)

  pub apart : Outside r → Inside r → ⊥
  apart O I = ⊎_elim (λ l. omega arith) (λ l. omega arith) O
