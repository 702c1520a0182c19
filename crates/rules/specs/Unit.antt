-- KG's unit (request 5): a ship whose KG is carried in a unit n times as fine, and what becomes of the figures of her judgement.
use Rattle.std.specs.Prelude.{Bool, true, false, List, [], ◌∷◌, ℕ, ◌*◌, ℤ, pos, ◌*ℤ◌}
use Rattle.rules.specs.Curve.{Loaded}
use Rattle.rules.specs.Report.{Judgement}

-- The same ship, the same KG, in parts of a millimetre n times as small.
abbrev pub finer : ℕ → Loaded → Loaded
finer n c = record { unit = n * c.unit; ship = c.ship; weather = c.weather; w = c.w; kg = n * c.kg; draught = c.draught; km = c.km; kn = c.kn }

-- 'The figures for KG, GM, areas, lever and net are reported so': of the eleven W, the angle of 5, phi0 and phi1 are not.
abbrev pub goes_up : List Bool
goes_up = false ∷ true ∷ true ∷ true ∷ true ∷ true ∷ true ∷ false ∷ false ∷ false ∷ true ∷ []

abbrev pub raised : ℕ → List Bool → List ℤ → List ℤ
raised n [] zs = []
raised n (b ∷ bs) [] = []
raised n (b ∷ bs) (z ∷ zs) = elim b [ true ↦ pos n *ℤ z | false ↦ z ] ∷ raised n bs zs

-- A judgement with the same verdicts and those figures n times as great.
abbrev pub manifold : ℕ → Judgement → Judgement
manifold n j = record { verdicts = j.verdicts; figures = raised n goes_up j.figures }
