-- Sums over the entries: each is counted once, and groups carry no meaning of their own.
use mathlib.Core.Path.{◌≡◌, refl, ap, ap₂, sym, ◌∙◌}
use mathlib.Core.List.{List, [], ◌∷◌, ◌++◌, append_assoc}
use Prim.Native.Nat.{ℕ, suc, ◌+◌, ◌*◌}
use native.Mathlib.Omega.{arith}
use lib.ListN.{length, length-append}
use Rattle.rules.specs.Rounding.{ceil}
use Rattle.rules.specs.Layout.{Entries, end, leaf, group, Reading, leaves}
use Rattle.rules.specs.Loading.{Entry, flat, total, mass, moment, free_surface, tenths, displacement, corrected_kg, corrected_kg_in, entries_of, weighed_at, weighed, weighed_in}
use Rattle.rules.specs.Leaves.{sum_leaves, SameSums, followed, ungrouped, loaded_with}
use Rattle.rules.specs.Outcome.{got, ◌>>◌}
use Rattle.rules.specs.Curve.{loaded_at, loaded, loaded_in}
use Rattle.rules.specs.Report.{judgement}
use Rattle.rules.specs.Answer.{judged, judged_in}

pub total_append : (f : Entry → ℕ) (a b : List Entry) → total f (a ++ b) ≡ total f a + total f b
unfolding total
total_append f [] b = omega arith
total_append f (e ∷ a) b = omega (arith, total_append f a b)

-- As many entries as leaves.
pub leaves_flat : (F : Entries) → leaves F ≡ length (flat F)
unfolding leaves flat
leaves_flat end = refl
leaves_flat (leaf k v r) = ap suc (leaves_flat r)
leaves_flat (group g r) = rw (length-append (flat g) (flat r), leaves_flat g, leaves_flat r)

-- A sum over the entries is the sum over the leaves.
pub total_leaves : (f : Entry → ℕ) (F : Entries) → total f (flat F) ≡ sum_leaves f F
unfolding total flat sum_leaves
total_leaves f end = refl
total_leaves f (leaf k v r) = ap (f (record { kind = k; values = v }) +◌) (total_leaves f r)
total_leaves f (group g r) = total_append f (flat g) (flat r) ∙ ap₂ ◌+◌ (total_leaves f g) (total_leaves f r)

-- So are W and the corrected KG.
pub displacement_leaves : (F : Entries) → displacement (flat F) ≡ sum_leaves mass F
unfolding displacement
displacement_leaves F = total_leaves mass F

pub corrected_kg_leaves : (unit : ℕ) (F : Entries) → corrected_kg_in unit (flat F) ≡ ceil (unit * (sum_leaves moment F + sum_leaves free_surface F)) (sum_leaves mass F)
unfolding corrected_kg_in
corrected_kg_leaves unit F = ap₂ (λ (moments w : ℕ). ceil (unit * moments) w) (ap₂ ◌+◌ (total_leaves moment F) (total_leaves free_surface F)) (displacement_leaves F)

-- ---- without groups
flat_followed : (a b : Entries) → flat (followed a b) ≡ flat a ++ flat b
unfolding flat followed
flat_followed end b = refl
flat_followed (leaf k v r) b = ap (record { kind = k; values = v } ∷◌) (flat_followed r b)
flat_followed (group g r) b = ap (flat g ++◌) (flat_followed r b) ∙ sym (append_assoc (flat g) (flat r) (flat b))

pub flat_ungrouped : (F : Entries) → flat (ungrouped F) ≡ flat F
unfolding flat ungrouped
flat_ungrouped end = refl
flat_ungrouped (leaf k v r) = ap (record { kind = k; values = v } ∷◌) (flat_ungrouped r)
flat_ungrouped (group g r) = flat_followed (ungrouped g) (ungrouped r) ∙ ap₂ ◌++◌ (flat_ungrouped g) (flat_ungrouped r)

-- ---- what is judged
-- W, KG and what they are judged with settle the judgement: readings of one ship, table and weather, with one W and one KG, are judged alike.
module _ (r s : Reading) (ship : r.ship ≡ s.ship) (rows : r.rows ≡ s.rows) (weather : r.condition.weather ≡ s.condition.weather) (w : displacement (entries_of r) ≡ displacement (entries_of s)) (kg : corrected_kg (entries_of r) ≡ corrected_kg (entries_of s)) where
  weighed_same : weighed r ≡ weighed s
  unfolding weighed_in
  weighed_same = λ i. weighed_at tenths (rows i) (w i) (kg i)

  loaded_same : loaded r ≡ loaded s
  unfolding loaded_in
  loaded_same = λ i. loaded_at tenths (ship i) (rows i) (weather i) (w i) (kg i)

  judged_by : judged r ≡ judged s
  unfolding judged_in
  judged_by = ap₂ (λ a b. a >> got (judgement b)) weighed_same loaded_same

-- So are readings of the same sums.
pub judged_by_sums : (r s : Reading) → SameSums r s → judged r ≡ judged s
judged_by_sums r s S =
    let F = r.condition.load in
    let G = s.condition.load in
    judged_by r s S.ship S.rows S.weather
    (displacement_leaves F ∙ S.masses ∙ sym (displacement_leaves G))
    (corrected_kg_leaves tenths F ∙ ap₂ (λ (moments w : ℕ). ceil (tenths * moments) w) S.moments S.masses ∙ sym (corrected_kg_leaves tenths G))

-- And loads of the same entries.
pub judged_same : (r : Reading) (F G : Entries) → flat F ≡ flat G → judged (loaded_with r F) ≡ judged (loaded_with r G)
judged_same r F G e = judged_by (loaded_with r F) (loaded_with r G) refl refl refl (ap displacement e) (ap corrected_kg e)
