-- What KG's unit does not change, whatever KG is: 7 and 8, and the verdict of criterion 6. Of a reading in two units, one n times as fine as the other.
use mathlib.Core.Path.{◌≡◌, refl, ap, ap₂, sym, ◌∙◌}
use mathlib.Core.Logic.{◌↔◌}
use mathlib.Core.Bool.{Bool, true, false}
use mathlib.Core.List.{List}
use Prim.Native.Nat.{ℕ, ◌+◌, ◌-◌, ◌*◌, ◌≤◌, ◌<◌}
use native.Mathlib.Omega.{arith}
use native.Mathlib.Nat.{mul_assoc, mul-lt-mul_of_pos_left, lt_of_mul-lt-mul_left, mul-pos, mul-one}
use native.Mathlib.Decide.{dec_le}
use lib.Dec.{leb}
use lib.IntN.{pos, sub_ℕ}
use lib.Signed.{le_z}
use borrow.Author.Tests.{leb-true, leb-false, le-leb, lt-leb}
use Rattle.rules.specs.Rounding.{ceil}
use Rattle.rules.specs.Layout.{Reading, Limits}
use Rattle.rules.specs.Outcome.{Ans, refused, got, test, ◌>>=◌, ◌>>◌}
use Rattle.rules.specs.Walk.{read}
use Rattle.rules.specs.Loading.{millimetres, tenths, Entry, total, moment, free_surface, displacement, corrected_kg_in, entries_of, in_table, greatest_kg, weighed, weighed_in}
use Rattle.rules.specs.Curve.{loaded_at, loaded_in}
use Rattle.rules.specs.Criteria.{set, passes6}
use Rattle.rules.specs.Report.{judgement}
use Rattle.rules.specs.Answer.{judged, judged_in, answered, answered_in, number_of}
use Rattle.rules.proofs.rounding.Signed.{sub≡, le_true, le_false}
use Rattle.rules.proofs.rounding.Rounding.{Ceiling, ceil_is, ceiling_least}
use Rattle.rules.proofs.rounding.Times.{leb_times}
use Rattle.rules.proofs.walk.Outcome.{bind_got, bind_refused, refused_got}
use Rattle.rules.proofs.walk.WholeText.{sound}
use Rattle.rules.proofs.loading.Fair.{mass_within, some_rows, weighed_inv}
use Rattle.rules.proofs.answer.Steps.{judged_steps}

-- A reading that is not refused with 7 has a mass.
pub floats : (r : Reading) → Limits r → in_table r.rows (displacement (entries_of r)) ≡ true → 0 < displacement (entries_of r)
floats r limits e = omega (arith, (mass_within 0 r.rows limits.rising (some_rows r.rows limits.few) (displacement (entries_of r)) e).0)

-- A number is at most a whole one exactly when it is so rounded up.
ceil_leb : (a d k : ℕ) → 0 < d → leb (ceil a d) k ≡ leb a (k * d)
ceil_leb a d k h = go (ceil a d) (ceil_is a d h) (leb a (k * d)) refl
  where
    go : (z : ℕ) → Ceiling a d z → (b : Bool) → leb a (k * d) ≡ b → leb z k ≡ b
    go z i true e = le-leb z k (ceiling_least i k (leb-true a (k * d) e))
    go z i false e = lt-leb z k (lt_of_mul-lt-mul_left d (omega (arith, leb-false a (k * d) e, i.over)))

-- A GM of at least a limit is a KG of at most KM less that limit.
gm_leb : (unit km kg l : ℕ) → l ≤ km → le_z (pos (unit * l)) (sub_ℕ (unit * km) kg) ≡ leb kg (unit * (km - l))
gm_leb unit km kg l h = go (leb kg (unit * (km - l))) refl
  where
    parts : unit * km ≡ unit * l + unit * (km - l)
    parts = let e : km ≡ l + (km - l) = omega arith in ap (λ (x : ℕ). unit * x) e ∙ omega arith

    go : (b : Bool) → leb kg (unit * (km - l)) ≡ b → le_z (pos (unit * l)) (sub_ℕ (unit * km) kg) ≡ b
    go true e = le_true (pos (unit * l)) (sub_ℕ (unit * km) kg) (omega (arith, leb-true kg (unit * (km - l)) e, sub≡ (unit * km) kg, parts))
    go false e = le_false (pos (unit * l)) (sub_ℕ (unit * km) kg) (omega (arith, leb-false kg (unit * (km - l)) e, sub≡ (unit * km) kg, parts))

-- Where KM itself is less than the limit no KG will do.
gm_short : (unit km kg l : ℕ) → 0 < unit → km < l → le_z (pos (unit * l)) (sub_ℕ (unit * km) kg) ≡ false
gm_short unit km kg l some h = le_false (pos (unit * l)) (sub_ℕ (unit * km) kg) (omega (arith, mul-lt-mul_of_pos_left h some, sub≡ (unit * km) kg))

module _ (n unit : ℕ) (some : 0 < n) where
  -- KG against a whole number of millimetres.
  kg_test : (es : List Entry) → 0 < displacement es → (k : ℕ) → leb (corrected_kg_in (n * unit) es) (n * unit * k) ≡ leb (corrected_kg_in unit es) (unit * k)
  unfolding corrected_kg_in
  kg_test es h k =
      let M = total moment es + total free_surface es in
      let W = displacement es in
      ceil_leb (n * unit * M) W (n * unit * k) h
      ∙ ap₂ leb (mul_assoc n unit M) (ap (λ (a : ℕ). a * W) (mul_assoc n unit k) ∙ mul_assoc n (unit * k) W)
      ∙ leb_times n some (unit * M) (unit * k * W)
      ∙ sym (ceil_leb (unit * M) W (unit * k) h)

  module _ (r : Reading) (limits : Limits r) where
    pub weighed_alike : weighed_in (n * unit) r ≡ weighed_in unit r
    unfolding weighed_in
    weighed_alike = go (in_table r.rows (displacement (entries_of r))) refl
      where
        go : (b : Bool) → in_table r.rows (displacement (entries_of r)) ≡ b
            → (test b 7 0 0 >> test (leb (corrected_kg_in (n * unit) (entries_of r)) (n * unit * greatest_kg)) 8 0 0) ≡ (test b 7 0 0 >> test (leb (corrected_kg_in unit (entries_of r)) (unit * greatest_kg)) 8 0 0)
        go true e = rw (kg_test (entries_of r) (floats r limits e) greatest_kg)
        go false e = refl

    sixth_alike : 0 < unit → in_table r.rows (displacement (entries_of r)) ≡ true → passes6 (loaded_in (n * unit) r) ≡ passes6 (loaded_in unit r)
    unfolding passes6 loaded_in loaded_at
    sixth_alike u e = go (loaded_in unit r).km (set (loaded_in unit r)).gm
      where
        go : (km l : ℕ) → le_z (pos (n * unit * l)) (sub_ℕ (n * unit * km) (corrected_kg_in (n * unit) (entries_of r))) ≡ le_z (pos (unit * l)) (sub_ℕ (unit * km) (corrected_kg_in unit (entries_of r)))
        go km l = elim (dec_le l km) [
          | yes h ↦ gm_leb (n * unit) km (corrected_kg_in (n * unit) (entries_of r)) l h ∙ kg_test (entries_of r) (floats r limits e) (km - l) ∙ sym (gm_leb unit km (corrected_kg_in unit (entries_of r)) l h)
          | no h ↦ gm_short (n * unit) km (corrected_kg_in (n * unit) (entries_of r)) l (mul-pos some u) (omega arith) ∙ sym (gm_short unit km (corrected_kg_in unit (entries_of r)) l u (omega arith))
        ]

    pub number_alike : number_of (judged_in (n * unit) r) ≡ number_of (judged_in unit r)
    unfolding ◌>>=◌
    number_alike =
        ap number_of (judged_steps (n * unit) r)
        ∙ ap (λ (a : Ans (Unit {0})). number_of (a >>= λ u. got (judgement (loaded_in (n * unit) r)))) weighed_alike
        ∙ go (weighed_in unit r)
        ∙ sym (ap number_of (judged_steps unit r))
      where
        go : (a : Ans (Unit {0})) → number_of (a >>= λ u. got (judgement (loaded_in (n * unit) r))) ≡ number_of (a >>= λ u. got (judgement (loaded_in unit r)))
        go (refused m k i) = refl
        go (got u) = refl

-- ---- millimetres against any unit
pub sixth_in_millimetres : (unit : ℕ) → 0 < unit → (r : Reading) → Limits r → weighed r ≡ got tt → passes6 (loaded_in unit r) ≡ passes6 (loaded_in millimetres r)
sixth_in_millimetres unit some r limits h = ap (λ (m : ℕ). passes6 (loaded_in m r)) (sym (mul-one unit)) ∙ sixth_alike unit millimetres some r limits (omega arith) (weighed_inv tenths r h).0

-- ---- of a text of one condition
pub answered_refused_alike : (t : List ℕ) (n l o : ℕ) → (answered t ≡ refused n l o) ↔ (answered_in millimetres t ≡ refused n l o)
unfolding answered_in
answered_refused_alike t n l o = go (read t) refl
  where
    either : (r : Reading) → Limits r → (judged r ≡ refused n l o) ↔ (judged_in millimetres r ≡ refused n l o)
    either r limits = both (weighed_in millimetres r) (weighed_alike tenths millimetres (omega arith) r limits) refl
      where
        both : (a : Ans (Unit {0})) → weighed r ≡ a → weighed_in millimetres r ≡ a → (judged r ≡ refused n l o) ↔ (judged_in millimetres r ≡ refused n l o)
        both (refused m k i) e f = let p = judged_steps tenths r ∙ bind_refused _ e in let q = judged_steps millimetres r ∙ bind_refused _ f in (λ x. q ∙ sym p ∙ x, λ x. p ∙ sym q ∙ x)
        both (got u) e f = (λ x. refused_got (sym x ∙ judged_steps tenths r ∙ bind_got _ e), λ x. refused_got (sym x ∙ judged_steps millimetres r ∙ bind_got _ f))

    go : (a : Ans Reading) → read t ≡ a → (answered t ≡ refused n l o) ↔ (answered_in millimetres t ≡ refused n l o)
    go (refused m k i) e = let p = bind_refused judged e in let q = bind_refused (judged_in millimetres) e in (λ x. q ∙ sym p ∙ x, λ x. p ∙ sym q ∙ x)
    go (got r) e = let p = bind_got judged e in let q = bind_got (judged_in millimetres) e in let y = either r (sound t r e).0 in (λ x. q ∙ y.0 (sym p ∙ x), λ x. p ∙ y.1 (sym q ∙ x))
