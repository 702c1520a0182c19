-- 'Verdicts for a KG that came out whole stay as they were': a reading judged in two units of KG, one n times as fine as the other.
use mathlib.Core.Path.{◌≡◌, refl, ap, sym, ◌∙◌}
use mathlib.Core.List.{List}
use Prim.Native.Nat.{ℕ, ◌+◌, ◌*◌, ◌<◌}
use native.Mathlib.Omega.{arith}
use native.Mathlib.Nat.{mul_assoc, mul-le-mul_right, le_of_mul-le-mul_left, lt_of_mul-lt-mul_left}
use Rattle.rules.specs.Layout.{Reading, Limits}
use Rattle.rules.specs.Outcome.{Ans, refused, got, ◌>>=◌}
use Rattle.rules.specs.Walk.{read}
use Rattle.rules.specs.Loading.{Entry, total, moment, free_surface, displacement, corrected_kg_in, entries_of, weighed_in}
use Rattle.rules.specs.Curve.{loaded_at, loaded_in}
use Rattle.rules.specs.Report.{Judgement, judgement}
use Rattle.rules.specs.Answer.{judged_in, answered_in}
use Rattle.rules.specs.Unit.{finer, manifold}
use Rattle.rules.proofs.rounding.Rounding.{Ceiling, ceiling_unique}
use Rattle.rules.proofs.rounding.Divisions.{kg_up}
use Rattle.rules.proofs.walk.Outcome.{bind_got}
use Rattle.rules.proofs.walk.WholeText.{sound}
use Rattle.rules.proofs.loading.Fair.{weighed_inv}
use Rattle.rules.proofs.criteria.FinerUnit.{judgement_finer}
use Rattle.rules.proofs.answer.Steps.{judged_steps}
use Rattle.rules.proofs.answer.EitherUnit.{floats, weighed_alike}

-- A quotient n times as great that is rounded to n j is one that is rounded to j.
whole : (n a d j : ℕ) → 0 < n → Ceiling (n * a) d (n * j) → Ceiling a d j
whole n a d j some i = record {
  over = le_of_mul-le-mul_left {k = n} (omega (arith, i.over)) some;
  near = lt_of_mul-lt-mul_left n (omega (arith, i.near, mul-le-mul_right d some));
}

module _ (n unit : ℕ) (some : 0 < n) where
  kg_whole : (es : List Entry) → 0 < displacement es → (j : ℕ) → corrected_kg_in (n * unit) es ≡ n * j → corrected_kg_in unit es ≡ j
  kg_whole es h j e =
      let M = total moment es + total free_surface es in
      ceiling_unique (kg_up unit es h) (whole n (unit * M) (displacement es) j some (rw (← e, ← mul_assoc n unit M) (kg_up (n * unit) es h)))

  module _ (r : Reading) (limits : Limits r) where
    loaded_finer : 0 < displacement (entries_of r) → (j : ℕ) → corrected_kg_in (n * unit) (entries_of r) ≡ n * j → loaded_in (n * unit) r ≡ finer n (loaded_in unit r)
    unfolding loaded_in loaded_at
    loaded_finer h j e = rw (e, kg_whole (entries_of r) h j e)

    pub judgement_alike : weighed_in unit r ≡ got tt → (j : ℕ) → corrected_kg_in (n * unit) (entries_of r) ≡ n * j → judgement (loaded_in (n * unit) r) ≡ manifold n (judgement (loaded_in unit r))
    judgement_alike h j e = ap judgement (loaded_finer (floats r limits (weighed_inv unit r h).0) j e) ∙ judgement_finer n some (loaded_in unit r)

    judged_alike : (j : ℕ) → corrected_kg_in (n * unit) (entries_of r) ≡ n * j → judged_in (n * unit) r ≡ (judged_in unit r >>= λ J. got (manifold n J))
    unfolding ◌>>=◌
    judged_alike j e =
        judged_steps (n * unit) r
        ∙ ap (λ (a : Ans (Unit {0})). a >>= λ u. got (judgement (loaded_in (n * unit) r))) (weighed_alike n unit some r limits)
        ∙ go (weighed_in unit r) refl
        ∙ sym (ap (λ (a : Ans Judgement). a >>= λ J. got (manifold n J)) (judged_steps unit r))
      where
        go : (a : Ans (Unit {0})) → weighed_in unit r ≡ a → (a >>= λ u. got (judgement (loaded_in (n * unit) r))) ≡ ((a >>= λ u. got (judgement (loaded_in unit r))) >>= λ J. got (manifold n J))
        go (refused x l o) h = refl
        go (got v) h = ap got (judgement_alike h j e)

  -- ---- of a text of one condition
  pub answered_alike : (t : List ℕ) (r : Reading) → read t ≡ got r → (j : ℕ) → corrected_kg_in (n * unit) (entries_of r) ≡ n * j → answered_in (n * unit) t ≡ (answered_in unit t >>= λ J. got (manifold n J))
  unfolding answered_in
  answered_alike t r e j h = bind_got (judged_in (n * unit)) e ∙ judged_alike r (sound t r e).0 j h ∙ sym (ap (λ (a : Ans Judgement). a >>= λ J. got (manifold n J)) (bind_got (judged_in unit) e))
