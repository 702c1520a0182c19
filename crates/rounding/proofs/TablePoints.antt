-- A table's points as code holds them: each is small, and the table's own steps from one on through those after it.
use mathlib.Core.Path.{◌≡◌, refl, ◌∙◌}
use mathlib.Core.Bool.{true, ◌&&◌}
use mathlib.Core.List.{List, [], ◌∷◌}
use Prim.Native.Nat.{ℕ, zero, suc, ◌+◌, max, ◌<◌, ◌≤◌}
use native.Mathlib.Omega.{arith}
use lib.Dec.{ltb}
use lib.ListN.{length, get_or, drop}
use lib.Seq.{drop-cons}
use Rattle.std.proofs.Math.ListN.{drop_of_length-le}
use borrow.Author.Tests.{ltb-true}
use Rattle.rules.specs.Rounding.{Direction, onward, line, table}
use Rattle.rules.proofs.rounding.Tables.{near, far}
use Rattle.rules.proofs.layout.Fields.{both_true}
use Rattle.rounding.specs.declared.Point.{Point}
use Rattle.rounding.specs.Points.{point_of, points_of, tabled}

abbrev Small : Point → Type 0
Small p = (p.place < 65_536) × (p.value < 65_536)

pub first_small : (p : Point) (ps : List Point) → tabled (p ∷ ps) ≡ true → Small p × (tabled ps ≡ true)
first_small p ps t =
    let b = both_true (ltb p.place 65_536 && ltb p.value 65_536) (tabled ps) t in
    let h = both_true (ltb p.place 65_536) (ltb p.value 65_536) b.0 in
    ((ltb-true p.place 65_536 h.0, ltb-true p.value 65_536 h.1), b.1)

pub each_small : (ps : List Point) → tabled ps ≡ true → (i : ℕ) (d : Point) → i < length ps → Small (get_or ps i d)
each_small [] t i d h = absurd (omega arith)
each_small (p ∷ ps) t zero d h = (first_small p ps t).0
each_small (p ∷ ps) t (suc i) d h = each_small ps (first_small p ps t).1 i d (omega arith)

-- ---- its steps, from one point on
module _ (way : Direction) where
  pub from_first : (p : Point) (ps : List Point) (x : ℕ) → onward way (point_of p) (points_of ps) (max x p.place) ≡ table way (points_of (p ∷ ps)) x
  unfolding table
  from_first p ps x = refl

  -- What is left of a table that has more points than i, point by point.
  next : (p d : Point) (ps : List Point) (i x : ℕ) → i < length ps → onward way (point_of p) (points_of (drop i ps)) x ≡ onward way (point_of p) (point_of (get_or ps i d) ∷ points_of (drop (i + 1) ps)) x
  next p d ps i x h = let e : i + 1 ≡ suc i = omega arith in rw (drop-cons ps i d h, e)

  pub from_between : (p d : Point) (ps : List Point) (i x : ℕ) → i < length ps → x < (get_or ps i d).place → onward way (point_of p) (points_of (drop i ps)) x ≡ line way (point_of p) (point_of (get_or ps i d)) x
  from_between p d ps i x h l = next p d ps i x h ∙ near way (point_of p) (point_of (get_or ps i d)) (points_of (drop (i + 1) ps)) x l

  pub from_past : (p d : Point) (ps : List Point) (i x : ℕ) → i < length ps → (get_or ps i d).place ≤ x → onward way (point_of p) (points_of (drop i ps)) x ≡ onward way (point_of (get_or ps i d)) (points_of (drop (i + 1) ps)) x
  from_past p d ps i x h l = next p d ps i x h ∙ far way (point_of p) (point_of (get_or ps i d)) (points_of (drop (i + 1) ps)) x l

  pub from_last : (p : Point) (ps : List Point) (i x : ℕ) → length ps ≤ i → onward way (point_of p) (points_of (drop i ps)) x ≡ p.value
  unfolding onward
  from_last p ps i x h = rw (drop_of_length-le ps h)
