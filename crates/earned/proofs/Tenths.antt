-- The two texts of specs/Tenths, judged in millimetres and in tenths: by computing.
use mathlib.Core.Path.{◌≡◌, refl}
use mathlib.Core.List.{[], ◌∷◌}
use lib.ListN.{replicate}
use lib.IntN.{pos, neg_ℤ}
use Rattle.rules.specs.Outcome.{got}
use Rattle.rules.specs.Loading.{millimetres}
use Rattle.rules.specs.Report.{pass, fail}
use Rattle.rules.specs.Answer.{answered, answered_in}
use Rattle.earned.specs.Tenths.{ferry, stiffer}

-- ---- the ferry: KG 4,760 mm against 4,759.5 mm, greatest lever 199.75 mm against 200.04 mm
pub ferry_before : answered_in millimetres ferry ≡ got (record {
  verdicts = pass ∷ pass ∷ pass ∷ fail ∷ pass ∷ pass ∷ pass ∷ pass ∷ [];
  figures = pos 900_000 ∷ pos 4_760 ∷ pos 550 ∷ pos 373_937_400_000 ∷ pos 197_959_500_000 ∷ pos 571_896_900_000 ∷ pos 998_796_000 ∷ pos 350 ∷ pos 58 ∷ pos 191 ∷ pos 94_940_663_520 ∷ [];
})
unfolding answered_in
ferry_before = refl

pub ferry_now : answered ferry ≡ got (record {
  verdicts = replicate 8 pass;
  figures = pos 900_000 ∷ pos 47_595 ∷ pos 5_505 ∷ pos 3_743_209_675_000 ∷ pos 1_982_457_437_500 ∷ pos 5_725_667_112_500 ∷ pos 10_002_299_500 ∷ pos 350 ∷ pos 58 ∷ pos 191 ∷ pos 957_012_726_940 ∷ [];
})
unfolding answered_in
ferry_now = refl

-- ---- criterion 8: with KG 4,674 mm all eight pass; with 4,673.1 mm the steady heel comes a tenth of a degree earlier, the period is shorter, the roll a tenth greater, and it fails
pub stiffer_before : answered_in millimetres stiffer ≡ got (record {
  verdicts = replicate 8 pass;
  figures = pos 4_740_521 ∷ pos 4_674 ∷ pos 690 ∷ pos 497_661_010_000 ∷ pos 332_193_425_000 ∷ pos 829_854_435_000 ∷ pos 1_819_839_300 ∷ pos 450 ∷ pos 98 ∷ pos 207 ∷ pos 3_589_509_992 ∷ [];
})
unfolding answered_in
stiffer_before = refl

pub stiffer_now : answered stiffer ≡ got (record {
  verdicts = pass ∷ pass ∷ pass ∷ pass ∷ pass ∷ pass ∷ pass ∷ fail ∷ [];
  figures = pos 4_740_521 ∷ pos 46_731 ∷ pos 6_909 ∷ pos 4_983_514_315_000 ∷ pos 3_327_086_637_500 ∷ pos 8_310_600_952_500 ∷ pos 18_230_212_950 ∷ pos 450 ∷ pos 97 ∷ pos 208 ∷ neg_ℤ (pos 9_353_477_464) ∷ [];
})
unfolding answered_in
stiffer_now = refl
