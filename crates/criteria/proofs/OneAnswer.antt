-- Any two results that the contract of a public function admits are the same.
use mathlib.Core.Path.{◌≡◌, sym, ◌∙◌}
use Rattle.criteria.proofs.judge.Reads as judge
use Rattle.criteria.proofs.sets.Criteria.code.Reads as code
use Rattle.criteria.proofs.sets.Criteria.timber.Reads as timber
use Rattle.criteria.proofs.righting.measure.Reads as measure
use Rattle.criteria.proofs.measures.Measures.of.Reads as of
use Rattle.criteria.proofs.measures.Measures.verdicts.Reads as verdicts
use Rattle.criteria.proofs.measures.Measures.figures.Reads as figures
use Rattle.criteria.proofs.sets.CriteriaFromSet.from.Reads as criteria
use Rattle.criteria.proofs.eighth.EighthFromGust.from.Reads as eighth

pub judge_one : (κs a r r' s s' : _) → judge.Post κs a r s → judge.Post κs a r' s' → r ≡ r'
judge_one κs a r r' s s' p q = p ∙ sym q

pub code_one : (κs a r r' s s' : _) → code.Post κs a r s → code.Post κs a r' s' → r ≡ r'
code_one κs a r r' s s' p q = p ∙ sym q

pub timber_one : (κs a r r' s s' : _) → timber.Post κs a r s → timber.Post κs a r' s' → r ≡ r'
timber_one κs a r r' s s' p q = p ∙ sym q

pub measure_one : (κs a r r' s s' : _) → measure.Post κs a r s → measure.Post κs a r' s' → r ≡ r'
measure_one κs a r r' s s' p q = p ∙ sym q

-- The measures of a ship are those of the rules.
pub measures_of_one : (κs a r r' s s' : _) → of.Post κs a r s → of.Post κs a r' s' → (r.ship ≡ r'.ship) × (r.righting ≡ r'.righting) × (r.wind ≡ r'.wind) × (r.eighth ≡ r'.eighth)
measures_of_one κs a r r' s s' p q =
    let e : r'.ship ≡ r.ship = q ∙ sym p in
    (p ∙ sym q, r.righted ∙ sym (rw e at r'.righted), r.blown ∙ sym (rw e at r'.blown), r.rolled ∙ sym (rw e at r'.rolled))

pub verdicts_one : (κs a r r' s s' : _) → verdicts.Post κs a r s → verdicts.Post κs a r' s' → r ≡ r'
verdicts_one κs a r r' s s' p q = p ∙ sym q

pub figures_one : (κs a r r' s s' : _) → figures.Post κs a r s → figures.Post κs a r' s' → r ≡ r'
figures_one κs a r r' s s' p q = p ∙ sym q

pub criteria_one : (κs a r r' s s' : _) → criteria.Post κs a r s → criteria.Post κs a r' s' → r ≡ r'
criteria_one κs a r r' s s' p q = p ∙ sym q

pub eighth_one : (κs a r r' s s' : _) → eighth.Post κs a r s → eighth.Post κs a r' s' → r ≡ r'
eighth_one κs a r r' s s' p q = p ∙ sym q
