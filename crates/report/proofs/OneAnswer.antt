-- Any two buffers that the contract of a public function admits are the same: stated of `Reads.Post`, which rattle makes of the contract itself.
use Rattle.std.proofs.Common.{◌≡◌, sym, ◌∙◌}
use Rattle.report.proofs.write.Reads as write
use Rattle.report.proofs.say.Reads as say
use Rattle.report.proofs.binary.put_figures.Reads as put-figures
use Rattle.report.proofs.binary.put_verdicts.Reads as put-verdicts
use Rattle.report.proofs.characters.put.Reads as characters-put

-- κs: the signature's lifetimes; a: the arguments; r: the result; s, s': the parameters at exit.
pub write_one : (κs a r r' s s' : _) → write.Post κs a r s → write.Post κs a r' s' → s.0.now ≡ s'.0.now
write_one κs a r r' s s' p q = p ∙ sym q

pub say_one : (κs a r r' s s' : _) → say.Post κs a r s → say.Post κs a r' s' → s.0.now ≡ s'.0.now
say_one κs a r r' s s' p q = p ∙ sym q

pub put_figures_one : (κs a r r' s s' : _) → put-figures.Post κs a r s → put-figures.Post κs a r' s' → s.0.now ≡ s'.0.now
put_figures_one κs a r r' s s' p q = p ∙ sym q

pub put_verdicts_one : (κs a r r' s s' : _) → put-verdicts.Post κs a r s → put-verdicts.Post κs a r' s' → s.0.now ≡ s'.0.now
put_verdicts_one κs a r r' s s' p q = p ∙ sym q

pub characters_put_one : (κs a r r' s s' : _) → characters-put.Post κs a r s → characters-put.Post κs a r' s' → s.0.now ≡ s'.0.now
characters_put_one κs a r r' s s' p q = p ∙ sym q
