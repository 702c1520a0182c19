-- 'The report is one frame and LF, 209 characters', and the judgement that it reports: eight verdicts and eleven figures.
use Rattle.std.specs.Prelude.{Bool, true, false, List, [], ◌∷◌, ◌++◌, map, ℕ, replicate, ℤ, pos}
use Rattle.rules.specs.Numbers.{digits, twos}
use Rattle.rules.specs.Text.{LF, hex}
use Rattle.rules.specs.Blocks.{block}
use Rattle.rules.specs.Rounding as rounding
use Rattle.rules.specs.Curve as curve
use Rattle.rules.specs.Criteria as criteria
use Rattle.rules.specs.Roll as roll
use Rattle.rules.specs.Curve.{Loaded}
use Rattle.rules.specs.Criteria.{area1, area2, area3, greatest_lever, angle_of_greatest, gm, uses, phi0, phi0_figure, passes1, passes2, passes3, passes4, passes5, passes6, passes7}
use Rattle.rules.specs.Roll.{phi1, net, not_judged, no_gust, passes8}

-- '0 fail, 1 pass, 2 not judged, 3 refused'; '4, unused' (request 2).
pub data Verdict : Type 0 where
  fail pass unjudged void unused : Verdict

abbrev pub verdict_number : Verdict → ℕ
verdict_number fail = 0
verdict_number pass = 1
verdict_number unjudged = 2
verdict_number void = 3
verdict_number unused = 4

abbrev pub verdict : Bool → Verdict
verdict true = pass
verdict false = fail

-- What a slot reads that the set uses, or does not.
abbrev pub slot : Bool → Verdict → Verdict
slot true v = v
slot false v = unused

-- 8, with its order of sentences.
unfoldable pub verdict8 : Loaded → Verdict
verdict8 c = elim (not_judged c) [ true ↦ unjudged | false ↦ elim (no_gust c) [ true ↦ fail | false ↦ verdict (passes8 c) ] ]

-- 'The last two are 0 where 8 is not judged, or phi0 or u is none.'
unfoldable pub where8 : Loaded → ℤ → ℤ
where8 c z = elim (not_judged c) [ true ↦ pos 0 | false ↦ elim (no_gust c) [ true ↦ pos 0 | false ↦ z ] ]

-- The verdicts of 1 to 8 and the figures of 01's list, in its order. (To unfold `judgement` is to unfold all that it names; each definition above unfolds alone.)
pub record Judgement : Type 0 where
  pub verdicts : List Verdict
  pub figures : List ℤ

unfoldable pub judgement : Loaded → Judgement
unfolding rounding.onward rounding.table rounding.first rounding.first_in rounding.greatest rounding.peak rounding.sum_z curve.lever curve.lever_z curve.area criteria.area1 criteria.area2 criteria.area3 criteria.greatest_lever criteria.angle_of_greatest criteria.lw1 criteria.lw2 criteria.reaches criteria.phi0 criteria.passes1 criteria.passes2 criteria.passes3 criteria.passes4 criteria.passes5 criteria.passes6 criteria.passes7 roll.b roll.C roll.q roll.period roll.keel_index roll.k roll.x1 roll.x2 roll.s roll.p roll.r_of roll.phi1 roll.start roll.u roll.stays roll.e roll.net roll.outside_range roll.not_judged roll.no_gust roll.passes8 verdict8 where8
judgement c = record {
  verdicts = slot (uses c 1) (verdict (passes1 c)) ∷ slot (uses c 2) (verdict (passes2 c)) ∷ slot (uses c 3) (verdict (passes3 c)) ∷ slot (uses c 4) (verdict (passes4 c)) ∷ slot (uses c 5) (verdict (passes5 c)) ∷ slot (uses c 6) (verdict (passes6 c)) ∷ slot (uses c 7) (verdict (passes7 c)) ∷ slot (uses c 8) (verdict8 c) ∷ [];
  figures =
      pos c.w ∷ pos c.kg ∷ gm c ∷ area1 c ∷ area2 c ∷ area3 c ∷ greatest_lever c ∷ pos (angle_of_greatest c) ∷ phi0_figure c ∷ where8 c (pos (phi1 c)) ∷ where8 c (net c) ∷ [];
}

-- 'On refusals 1 to 8 verdicts are 3 and figures 0', and likewise on 10 (request 4).
abbrev pub no_judgement : Judgement
no_judgement = record { verdicts = replicate 8 void; figures = replicate 11 (pos 0) }

unfoldable pub concat : List (List ℕ) → List ℕ
concat [] = []
concat (l ∷ ls) = l ++ concat ls

-- 'Refusal 1, line 2, offset 2, eight verdicts of 1 byte, eleven figures', 'each .. its own eight bytes'.
unfoldable pub report_body : ℕ → ℕ → ℕ → List ℕ → List ℤ → List ℕ
report_body number line offset verdicts figures = digits 1 number ++ (digits 2 line ++ (digits 2 offset ++ (verdicts ++ concat (map (λ z. digits 8 (twos z)) figures))))

abbrev pub report_tag : ℕ
report_tag = 0xD1

abbrev pub report_length : ℕ
report_length = 209

-- 'D1, length 0065', the body, two characters to a byte, and LF.
unfoldable pub report_line : ℕ → ℕ → ℕ → List ℕ → List ℤ → List ℕ
report_line number line offset verdicts figures = hex (block report_tag (report_body number line offset verdicts figures)) ++ (LF ∷ [])

unfoldable pub report : ℕ → ℕ → ℕ → Judgement → List ℕ
report number line offset j = report_line number line offset (map verdict_number j.verdicts) j.figures
