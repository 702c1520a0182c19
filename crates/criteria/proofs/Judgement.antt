-- The judgement part by part: its verdicts and figures, and what criterion 8 gives to both.
use mathlib.Core.Path.{◌≡◌, refl, ap, ap₂, sym, ◌∙◌}
use mathlib.Core.Bool.{Bool, true, false}
use mathlib.Core.List.{List, ◌∷◌}
use Prim.Native.Nat.{ℕ, ◌*◌, ◌^◌, ◌≤◌, ◌<◌}
use native.Mathlib.Omega.{arith}
use native.Mathlib.Nat.{mul-pos}
use native.Mathlib.Decide.{dec_le}
use lib.Dec.{leb}
use lib.ListN.{get_or}
use lib.IntN.{ℤ, pos}
use lib.Signed.{le_z, mag}
use mir.Syntax.{w64}
use mir.Val.{to_z, of_z}
use borrow.Author.Tests.{le-leb, lt-leb}
use Rattle.rules.specs.Blocks.{Set, code, timber}
use Rattle.rules.specs.Curve.{Loaded, E}
use Rattle.rules.specs.Criteria.{limits_of, set, greatest_lever, phi0, phi0_figure, passes4, passes7}
use Rattle.rules.specs.Roll.{phi1, net, not_judged, no_gust, passes8}
use Rattle.rules.specs.Report.{Verdict, fail, unjudged, slot, verdict, verdict8, where8}
use Rattle.rules.proofs.criteria.Angles.{greatest_none}
use Rattle.rules.proofs.criteria.Verdicts.{lever_asked, lever_short}
use Rattle.rules.proofs.rounding.Signed.{le_false}
use Rattle.std.specs.Prelude.{cond, Some, None}
use Rattle.book.specs.Book.{passed, verdict_of}
use Rattle.curve.specs.Heeled.{not_past}
use Rattle.curve.proofs.Machine.{back}
use Rattle.curve.proofs.Steps.{some_within, none_past}
use Rattle.gust.specs.declared.Gust.TheVariants.{NotJudged, Failed, Net}
use Rattle.gust.specs.Gusts.{gust_of}
use Rattle.criteria.specs.declared.sets.Criteria.{Criteria}
use Rattle.criteria.specs.Figures.{criteria_of, limit, least_of, eighth_of}

-- Two lists that are the same entry by entry.
infixr 60 ◌::◌
pub ◌::◌ : {A : Type 0} {x z : A} {xs zs : List A} → x ≡ z → xs ≡ zs → x ∷ xs ≡ z ∷ zs
◌::◌ e es = ap₂ ◌∷◌ e es

-- A test's verdict, by its name.
pub passed_is : (b : Bool) → passed b ≡ verdict_of (verdict b)
passed_is true = refl
passed_is false = refl

lever_some : (s : Set) → 0 < (limits_of s).lever
lever_some code = omega arith
lever_some timber = omega arith

module _ (c : Loaded) where
  -- 'If E < 300: fail, figure 0': the figure alone decides, as every set asks for some lever.
  pub lever_decides : 0 < c.unit → le_z (pos (c.unit * (set c).lever)) (greatest_lever c) ≡ passes4 c
  lever_decides some = elim (dec_le (set c).from (E c)) [
    | yes h ↦ sym (lever_asked c h)
    | no h ↦
        let l : E c < (set c).from = omega arith in
        ap (le_z (pos (c.unit * (set c).lever))) (greatest_none c l) ∙ le_false (pos (c.unit * (set c).lever)) (pos 0) (omega (arith, mul-pos some (lever_some c.weather.set))) ∙ sym (lever_short c l)
  ]

  -- 8, 'with its order of sentences'.
  pub eighth_is : eighth_of (gust_of c) ≡ record { verdict = verdict_of (verdict8 c); roll = where8 c (pos (phi1 c)); net = where8 c (net c) }
  unfolding gust_of verdict8 where8 passes8
  eighth_is = go (not_judged c) (no_gust c)
    where
      go : (off none : Bool) → eighth_of (cond off NotJudged (cond none Failed (Net (pos (phi1 c)) (net c))))
          ≡ record {
            verdict = verdict_of (elim off [ true ↦ unjudged | false ↦ elim none [ true ↦ fail | false ↦ verdict (le_z (pos 0) (net c)) ] ]);
            roll = elim off [ true ↦ pos 0 | false ↦ elim none [ true ↦ pos 0 | false ↦ pos (phi1 c) ] ];
            net = elim off [ true ↦ pos 0 | false ↦ elim none [ true ↦ pos 0 | false ↦ net c ] ];
          }
      go true none = refl
      go false true = refl
      go false false = rw (passed_is (le_z (pos 0) (net c)))

-- ---- the slots, as the code fills them
-- A limit and a figure as the machine holds them.
pub held_least : (l z : ℤ) → mag l < 2 ^ 63 → mag z < 2 ^ 63 → passed (le_z (to_z w64 (of_z w64 l)) (to_z w64 (of_z w64 z))) ≡ verdict_of (verdict (le_z l z))
held_least l z h k = ap₂ (λ (x y : ℤ). passed (le_z x y)) (back l h) (back z k) ∙ passed_is (le_z l z)

-- A slot that some set does not use.
pub slot_is : (used : Bool) (l z : ℤ) → least_of (limit used l) z ≡ verdict_of (slot used (verdict (le_z l z)))
slot_is true l z = passed_is (le_z l z)
slot_is false l z = refl

-- And one that each set uses: 3, 4, 6, 7 and 8.
pub record Always (used : List Bool) : Type 0 where
  pub third : get_or used 2 false ≡ true
  pub fourth : get_or used 3 false ≡ true
  pub sixth : get_or used 5 false ≡ true
  pub seventh : get_or used 6 false ≡ true
  pub eighth : get_or used 7 false ≡ true

pub always : (s : Set) → Always (limits_of s).used
always code = record { third = refl; fourth = refl; sixth = refl; seventh = refl; eighth = refl }
always timber = record { third = refl; fourth = refl; sixth = refl; seventh = refl; eighth = refl }

pub slot_used : {used : Bool} (v : Verdict) → used ≡ true → verdict_of v ≡ verdict_of (slot used v)
slot_used v e = ap (λ (used : Bool). verdict_of (slot used v)) (sym e)

-- ---- criterion 7 as the code tests it: none; too far; the deck edge, where it counts; and where it does not
module _ (c : Loaded) where
  pub seven_none : None ≡ not_past (E c) (phi0 c) → false ≡ passes7 c
  unfolding passes7
  seven_none p = rw (lt-leb (phi0 c) (E c) (none_past (E c) (phi0 c) p))

  module _ (s : Criteria) (e : s ≡ criteria_of c) (t : ℕ) (p : Some t ≡ not_past (E c) (phi0 c)) where
    heel_is : s.heel ≡ (set c).heel
    heel_is = ap (λ (x : Criteria). x.heel) e

    deck_is : s.deck ≡ (set c).deck
    deck_is = ap (λ (x : Criteria). x.deck) e

    within : leb (phi0 c) (E c) ≡ true
    within = le-leb (phi0 c) (E c) (some_within (E c) (phi0 c) t p).1

    at_phi0 : t ≡ phi0 c
    at_phi0 = (some_within (E c) (phi0 c) t p).0

    pub seven_far : s.heel < t → false ≡ passes7 c
    unfolding passes7
    seven_far h = rw (within, ← heel_is, ← at_phi0, lt-leb t s.heel h)

    module _ (h : t ≤ s.heel) where
      pub seven_edge : s.deck ≡ true → leb (10 * t) (8 * c.weather.sky.deck_edge) ≡ passes7 c
      unfolding passes7
      seven_edge d = rw (within, ← heel_is, ← at_phi0, le-leb t s.heel h, ← deck_is, d)

      pub seven_free : s.deck ≡ false → true ≡ passes7 c
      unfolding passes7
      seven_free d = rw (within, ← heel_is, ← at_phi0, le-leb t s.heel h, ← deck_is, d)

-- ---- the figure of phi0
pub heel_some : (c : Loaded) (t : ℕ) → Some t ≡ not_past (E c) (phi0 c) → pos t ≡ phi0_figure c
heel_some c t p = let w = some_within (E c) (phi0 c) t p in rw (le-leb (phi0 c) (E c) w.1, w.0)
