-- What the code answers on the way to the judgement, by the rules.
use Rattle.std.specs.Prelude.{Bool, false, cond, ◌*◌, get_or, ℤ, pos, Option, Some, None}
use Rattle.std.specs.Int.Signed.{le_z}
use Rattle.rules.specs.Loading.{tenths}
use Rattle.rules.specs.Curve.{Loaded}
use Rattle.rules.specs.Criteria as rules
use Rattle.rules.specs.Criteria.{area1, area2, area3, greatest_lever, angle_of_greatest, gm}
use Rattle.book.specs.Book.{passed}
use Rattle.book.specs.declared.Verdict.{Verdict}
use Rattle.book.specs.declared.Verdict.TheVariants as verdict
use Rattle.gust.specs.declared.Gust.{Gust}
use Rattle.gust.specs.declared.Gust.TheVariants.{NotJudged, Failed, Net}
use Rattle.criteria.specs.declared.righting.Righting.{Righting}
use Rattle.criteria.specs.declared.sets.Criteria.{Criteria}
use Rattle.criteria.specs.declared.eighth.Eighth.{Eighth}

-- A limit of a slot, or none where the set does not use it.
abbrev pub limit : Bool → ℤ → Option ℤ
limit used z = cond used (Some z) None

-- A set of criteria as plain data, its limits of areas, levers and GM with KG in tenths: 'every .. limit .. tenfold' (request 5). Only 1, 2 and 5 are unused in some set.
abbrev pub plain_criteria : rules.Criteria → Criteria
plain_criteria s = record {
  area1 = limit (get_or s.used 0 false) (pos (tenths * s.area1));
  area2 = limit (get_or s.used 1 false) (pos (tenths * s.area2));
  area3 = pos (tenths * s.area3);
  lever = pos (tenths * s.lever);
  angle = limit (get_or s.used 4 false) (pos s.angle);
  gm = pos (tenths * s.gm);
  heel = s.heel;
  from = s.from;
  deck = s.deck;
}

-- The set that the weather chose.
abbrev pub criteria_of : Loaded → Criteria
criteria_of c = plain_criteria (rules.set c)

-- The figures of 1 to 6.
abbrev pub righting_of : Loaded → Righting
righting_of c = record { area1 = area1 c; area2 = area2 c; area3 = area3 c; lever = greatest_lever c; angle = pos (angle_of_greatest c); gm = gm c }

-- What the report says of 8: '0 fail, 1 pass, 2 not judged', and 'the last two are 0 where 8 is not judged, or phi0 or u is none'.
abbrev pub eighth_of : Gust → Eighth
eighth_of NotJudged = record { verdict = verdict.NotJudged; roll = pos 0; net = pos 0 }
eighth_of Failed = record { verdict = verdict.Fail; roll = pos 0; net = pos 0 }
eighth_of (Net roll net) = record { verdict = passed (le_z (pos 0) net); roll = roll; net = net }

-- What a slot reads that asks for at least a limit: 'unused' where there is none.
abbrev pub least_of : Option ℤ → ℤ → Verdict
least_of None figure = verdict.Unused
least_of (Some least) figure = passed (le_z least figure)
