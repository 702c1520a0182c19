-- The same loaded ship in either set of criteria: what the set does not touch, which slots it leaves unused, and which passes by the Code are passes as timber.
use mathlib.Core.Path.{◌≡◌, refl, ap, sym, ◌∙◌}
use mathlib.Core.Logic.{◌↔◌, ◌≢◌}
use mathlib.Core.Bool.{Bool, true, false, not, ◌&&◌, ◌||◌}
use mathlib.Core.List.{List, [], ◌∷◌, ◌++◌}
use Prim.Native.Nat.{ℕ, zero, suc, ◌-◌, ◌*◌, ◌≤◌, ◌<◌}
use native.Mathlib.Omega.{arith}
use native.Mathlib.Nat.{mul-le-mul_left}
use lib.Dec.{leb}
use lib.ListN.{length, get_or, get_or-replicate}
use lib.IntN.{ℤ, pos}
use lib.Signed.{le_z}
use borrow.Author.Tests.{leb-true, le-leb}
use Rattle.rules.specs.Blocks.{Set, code, timber}
use Rattle.rules.specs.Curve.{Loaded, E}
use Rattle.rules.specs.Criteria.{limits_of, set, uses, area1, area2, area3, greatest_lever, angle_of_greatest, gm, phi0_figure, phi0, lw1, lw2, passes1, passes2, passes3, passes4, passes5, passes6, passes7}
use Rattle.rules.specs.Roll as roll
use Rattle.rules.specs.Roll.{phi1, net, not_judged, no_gust, passes8}
use Rattle.rules.specs.Report.{Verdict, fail, pass, unjudged, void, unused, slot, verdict, verdict8, where8, judgement}
use Rattle.rules.specs.Timber.{loaded_by, UnusedSlot, slot1, slot2, slot5, EasedSlot, slot3, slot6, slot7}
use Rattle.rules.specs.Columns.{slot_of}
use Rattle.rules.proofs.layout.Fields.{both_true}
use Rattle.rules.proofs.rounding.Signed.{at_least, le_true}

-- ---- the figures
-- Two lists that differ in one place alone.
but_one : {A : Type 0} (xs ys : List A) (x y z : A) (i : ℕ) → i ≢ length xs → get_or (xs ++ (x ∷ ys)) i z ≡ get_or (xs ++ (y ∷ ys)) i z
but_one [] ys x y z zero h = absurd (h refl)
but_one [] ys x y z (suc i) h = refl
but_one (w ∷ xs) ys x y z zero h = refl
but_one (w ∷ xs) ys x y z (suc i) h = but_one xs ys x y z i (λ e. h (ap suc e))

module _ (c : Loaded) where
  abbrev before4 : List ℤ
  before4 = pos c.w ∷ pos c.kg ∷ gm c ∷ area1 c ∷ area2 c ∷ area3 c ∷ []

  abbrev after4 : List ℤ
  after4 = pos (angle_of_greatest c) ∷ phi0_figure c ∷ where8 c (pos (phi1 c)) ∷ where8 c (net c) ∷ []

  figures_in : (s : Set) → (judgement (loaded_by s c)).figures ≡ before4 ++ (greatest_lever (loaded_by s c) ∷ after4)
  unfolding judgement
  figures_in s = refl

  -- No figure but slot 4's looks at the set, nor does verdict 8.
  pub figures_but_four : (s s' : Set) (i : ℕ) → i ≢ 6 → get_or (judgement (loaded_by s c)).figures i (pos 0) ≡ get_or (judgement (loaded_by s' c)).figures i (pos 0)
  figures_but_four s s' i h =
      ap (λ l. get_or l i (pos 0)) (figures_in s) ∙ but_one before4 after4 (greatest_lever (loaded_by s c)) (greatest_lever (loaded_by s' c)) (pos 0) i h ∙ sym (ap (λ l. get_or l i (pos 0)) (figures_in s'))

  not_judged_in : (s : Set) → not_judged (loaded_by s c) ≡ not_judged c
  unfolding not_judged roll.outside_range roll.period roll.q roll.C roll.b
  not_judged_in s = refl

  gust_in : (s : Set) → (no_gust (loaded_by s c) ≡ no_gust c) × (passes8 (loaded_by s c) ≡ passes8 c)
  unfolding no_gust passes8 net phi0 phi1 lw1 lw2 roll.start roll.u roll.e roll.p roll.k roll.x1 roll.x2 roll.s roll.b roll.period roll.q roll.C
  gust_in s = (refl, refl)

  eighth_in : (s : Set) → verdict8 (loaded_by s c) ≡ verdict8 c
  unfolding verdict8
  eighth_in s = λ i. elim (not_judged_in s i) [ true ↦ unjudged | false ↦ elim ((gust_in s).0 i) [ true ↦ fail | false ↦ verdict ((gust_in s).1 i) ] ]

-- ---- the slots
pub verdicts_are : (c : Loaded) → (judgement c).verdicts
    ≡ slot (uses c 1) (verdict (passes1 c)) ∷ slot (uses c 2) (verdict (passes2 c)) ∷ slot (uses c 3) (verdict (passes3 c)) ∷ slot (uses c 4) (verdict (passes4 c)) ∷ slot (uses c 5) (verdict (passes5 c))
    ∷ slot (uses c 6) (verdict (passes6 c)) ∷ slot (uses c 7) (verdict (passes7 c)) ∷ slot (uses c 8) (verdict8 c) ∷ []
unfolding judgement
verdicts_are c = refl

pub figures_are : (c : Loaded) → (judgement c).figures
    ≡ pos c.w ∷ pos c.kg ∷ gm c ∷ area1 c ∷ area2 c ∷ area3 c ∷ greatest_lever c ∷ pos (angle_of_greatest c) ∷ phi0_figure c ∷ where8 c (pos (phi1 c)) ∷ where8 c (net c) ∷ []
unfolding judgement
figures_are c = refl

-- 8 reads the same in every set that uses it.
pub eighth_slot : (c : Loaded) (s : Set) → uses (loaded_by s c) 8 ≡ true → slot_of 8 (judgement (loaded_by s c)) ≡ verdict8 c
eighth_slot c s used = rw (verdicts_are (loaded_by s c), used) (eighth_in c s)

-- A slot that reads pass is used, and passes; one that reads 4 is not used, and what is judged never reads so.
pub slot_pass : (used passes : Bool) → slot used (verdict passes) ≡ pass → (used ≡ true) × (passes ≡ true)
slot_pass true true e = (refl, refl)
slot_pass true false e = absurd (let z : ◌≡◌ {A = ℕ} 0 1 = cc in omega arith)
slot_pass false passes e = absurd (let z : ◌≡◌ {A = ℕ} 0 1 = cc in omega arith)

pub slot_passed : (used : Bool) (v : Verdict) → slot used v ≡ pass → v ≡ pass
slot_passed true v e = e
slot_passed false v e = absurd (let z : ◌≡◌ {A = ℕ} 0 1 = cc in omega arith)

slot_unused : (used : Bool) (v : Verdict) → v ≢ unused → slot used v ≡ unused → used ≡ false
slot_unused true v h e = absurd (h e)
slot_unused false v h e = refl

verdict_used : (passes : Bool) → verdict passes ≢ unused
verdict_used true e = let z : ◌≡◌ {A = ℕ} 0 1 = cc in omega arith
verdict_used false e = let z : ◌≡◌ {A = ℕ} 0 1 = cc in omega arith

eighth_used : (c : Loaded) → verdict8 c ≢ unused
unfolding verdict8
eighth_used c = go (not_judged c) (no_gust c)
  where
    go : (off none : Bool) → elim off [ true ↦ unjudged | false ↦ elim none [ true ↦ fail | false ↦ verdict (passes8 c) ] ] ≢ unused
    go true none e = let z : ◌≡◌ {A = ℕ} 0 1 = cc in omega arith
    go false true e = let z : ◌≡◌ {A = ℕ} 0 1 = cc in omega arith
    go false false e = verdict_used (passes8 c) e

-- The slots that a set does not use.
left_out : (s : Set) (i : ℕ) → i < 8 → get_or (limits_of s).used i false ≡ false → (s ≡ timber) × UnusedSlot (suc i)
left_out code i h e = absurd (let t = sym (get_or-replicate 8 i true false h) ∙ e in let z : ◌≡◌ {A = ℕ} 0 1 = cc in omega arith)
left_out timber zero h e = (refl, slot1)
left_out timber (suc zero) h e = (refl, slot2)
left_out timber (suc (suc zero)) h e = absurd (let z : ◌≡◌ {A = ℕ} 0 1 = cc in omega arith)
left_out timber (suc (suc (suc zero))) h e = absurd (let z : ◌≡◌ {A = ℕ} 0 1 = cc in omega arith)
left_out timber (suc (suc (suc (suc zero)))) h e = (refl, slot5)
left_out timber (suc (suc (suc (suc (suc zero))))) h e = absurd (let z : ◌≡◌ {A = ℕ} 0 1 = cc in omega arith)
left_out timber (suc (suc (suc (suc (suc (suc zero)))))) h e = absurd (let z : ◌≡◌ {A = ℕ} 0 1 = cc in omega arith)
left_out timber (suc (suc (suc (suc (suc (suc (suc zero))))))) h e = absurd (let z : ◌≡◌ {A = ℕ} 0 1 = cc in omega arith)
left_out timber (suc (suc (suc (suc (suc (suc (suc (suc i)))))))) h e = absurd (omega arith)

-- A slot that reads 4 is not used.
read_unused : (c : Loaded) (i : ℕ) → i < 8 → slot_of (suc i) (judgement c) ≡ unused → get_or (set c).used i false ≡ false
read_unused c i h r = let n : suc i - 1 ≡ i = omega arith in go i h (rw (verdicts_are c, n) at r)
  where
    go : (i : ℕ) → i < 8 → get_or (slot (uses c 1) (verdict (passes1 c)) ∷ slot (uses c 2) (verdict (passes2 c)) ∷ slot (uses c 3) (verdict (passes3 c)) ∷ slot (uses c 4) (verdict (passes4 c)) ∷ slot (uses c 5) (verdict (passes5 c)) ∷ slot (uses c 6) (verdict (passes6 c)) ∷ slot (uses c 7) (verdict (passes7 c)) ∷ slot (uses c 8) (verdict8 c) ∷ []) i void ≡ unused → get_or (set c).used i false ≡ false
    go zero h e = slot_unused (uses c 1) _ (verdict_used (passes1 c)) e
    go (suc zero) h e = slot_unused (uses c 2) _ (verdict_used (passes2 c)) e
    go (suc (suc zero)) h e = slot_unused (uses c 3) _ (verdict_used (passes3 c)) e
    go (suc (suc (suc zero))) h e = slot_unused (uses c 4) _ (verdict_used (passes4 c)) e
    go (suc (suc (suc (suc zero)))) h e = slot_unused (uses c 5) _ (verdict_used (passes5 c)) e
    go (suc (suc (suc (suc (suc zero))))) h e = slot_unused (uses c 6) _ (verdict_used (passes6 c)) e
    go (suc (suc (suc (suc (suc (suc zero)))))) h e = slot_unused (uses c 7) _ (verdict_used (passes7 c)) e
    go (suc (suc (suc (suc (suc (suc (suc zero))))))) h e = slot_unused (uses c 8) _ (eighth_used c) e
    go (suc (suc (suc (suc (suc (suc (suc (suc i)))))))) h e = absurd (omega arith)

pub unused_iff : (c : Loaded) (i : ℕ) → i < 8 → (slot_of (suc i) (judgement c) ≡ unused) ↔ ((c.weather.set ≡ timber) × UnusedSlot (suc i))
unused_iff c i h = (λ r. left_out c.weather.set i h (read_unused c i h r), λ t. reads (suc i) t.0 t.1)
  where
    reads : (k : ℕ) → c.weather.set ≡ timber → UnusedSlot k → slot_of k (judgement c) ≡ unused
    reads k s slot1 = rw (verdicts_are c, s)
    reads k s slot2 = rw (verdicts_are c, s)
    reads k s slot5 = rw (verdicts_are c, s)

-- ---- passes by the Code
-- Where one set asks no more than another of 3, of 6 or of 7, a pass by the other is a pass by it. Over any two sets.
module _ (s s' : Set) (c : Loaded) where
  eased : (l l' : ℕ) (z : ℤ) → l' ≤ l → le_z (pos (c.unit * l)) z ≡ true → le_z (pos (c.unit * l')) z ≡ true
  eased l l' z h p = le_true (pos (c.unit * l')) z (omega (arith, mul-le-mul_left c.unit h, at_least (pos (c.unit * l)) z p))

  pub eased3 : (limits_of s').area3 ≤ (limits_of s).area3 → passes3 (loaded_by s c) ≡ true → passes3 (loaded_by s' c) ≡ true
  unfolding passes3 area3
  eased3 h p = eased (limits_of s).area3 (limits_of s').area3 (area3 c) h p

  pub eased6 : (limits_of s').gm ≤ (limits_of s).gm → passes6 (loaded_by s c) ≡ true → passes6 (loaded_by s' c) ≡ true
  unfolding passes6
  eased6 h p = eased (limits_of s).gm (limits_of s').gm (gm c) h p

  pub eased7 : (limits_of s).heel ≤ (limits_of s').heel → ((limits_of s').deck ≡ true → (limits_of s).deck ≡ true) → passes7 (loaded_by s c) ≡ true → passes7 (loaded_by s' c) ≡ true
  unfolding passes7 phi0 lw1
  eased7 h d p =
      let edge = leb (10 * phi0 c) (8 * c.weather.sky.deck_edge) in
      let a = both_true (leb (phi0 c) (E c) && leb (phi0 c) (limits_of s).heel) (not (limits_of s).deck || edge) p in
      let b = both_true (leb (phi0 c) (E c)) (leb (phi0 c) (limits_of s).heel) a.0 in
      rw (b.0, le-leb (phi0 c) (limits_of s').heel (omega (arith, leb-true (phi0 c) (limits_of s).heel b.1))) (dry (limits_of s).deck (limits_of s').deck edge d a.1)
    where
      dry : (deck deck' b : Bool) → (deck' ≡ true → deck ≡ true) → not deck || b ≡ true → not deck' || b ≡ true
      dry deck false b d e = refl
      dry true true b d e = e
      dry false true b d e = absurd (let f = d refl in let z : ◌≡◌ {A = ℕ} 0 1 = cc in omega arith)

-- So with timber on deck.
pub code_as_timber : (c : Loaded) (k : ℕ) → EasedSlot k → slot_of k (judgement (loaded_by code c)) ≡ pass → slot_of k (judgement (loaded_by timber c)) ≡ pass
code_as_timber c k slot3 r = rw (verdicts_are (loaded_by timber c)) (ap verdict (eased3 code timber c (omega arith) (slot_pass true _ (rw (verdicts_are (loaded_by code c)) at r)).1))
code_as_timber c k slot6 r = rw (verdicts_are (loaded_by timber c)) (ap verdict (eased6 code timber c (omega arith) (slot_pass true _ (rw (verdicts_are (loaded_by code c)) at r)).1))
code_as_timber c k slot7 r = rw (verdicts_are (loaded_by timber c)) (ap verdict (eased7 code timber c (omega arith) (λ d. refl) (slot_pass true _ (rw (verdicts_are (loaded_by code c)) at r)).1))
