-- Where criterion 8 is judged: the ways that code takes to find out, one fact each.
use mathlib.Core.Path.{◌≡◌, refl, sym, ◌∙◌}
use mathlib.Core.Bool.{Bool, true, false, ◌||◌}
use Prim.Native.Nat.{ℕ, ◌*◌, ◌≤◌, ◌<◌}
use native.Mathlib.Omega.{arith}
use lib.Dec.{leb, ltb}
use borrow.Author.Tests.{le-leb, lt-leb, leb-false}
use Rattle.rules.specs.Curve.{Loaded}
use Rattle.rules.specs.Roll.{period, longest_period, outside_range, not_judged}
use Rattle.book.specs.declared.Loaded as book
use Rattle.book.specs.Book.{loaded_of}
use Rattle.rules.proofs.rounding.Times.{ltb_times}

-- 'The judged range is 7d to 15d in tenths': what the rules ask of ten times as much.
ten_times : (a b a' b' : ℕ) → 10 * a ≡ a' → 10 * b ≡ b' → ltb a b ≡ ltb a' b'
ten_times a b a' b' e f = sym (ltb_times 10 (omega arith) a b) ∙ rw (e, f)

-- What lies outside the judged range, KG in tenths.
pub outside_is : (c : book.Loaded) → outside_range (loaded_of c) ≡ leb (10 * c.km) c.kg || leb (35 * c.draught) (10 * c.ship.breadth) || ltb c.kg (7 * c.draught) || ltb (15 * c.draught) c.kg
unfolding outside_range
outside_is c = rw (ten_times c.kg (7 * c.draught) (10 * c.kg) (70 * c.draught) (omega arith) (omega arith), ten_times (15 * c.draught) c.kg (150 * c.draught) (10 * c.kg) (omega arith) (omega arith))

module _ (c : Loaded) where
  -- The period is what is left to ask.
  by_period : not_judged c ≡ outside_range c || leb longest_period (period c)
  unfolding not_judged
  by_period = refl

  pub slow : outside_range c ≡ false → longest_period ≤ period c → not_judged c ≡ true
  slow o h = by_period ∙ simp (o, le-leb longest_period (period c) h)

  pub swift : outside_range c ≡ false → period c < longest_period → not_judged c ≡ false
  swift o h = by_period ∙ simp (o, lt-leb longest_period (period c) h)

  pub off : outside_range c ≡ true → not_judged c ≡ true
  off o = by_period ∙ simp o

  -- GM is above 0.
  pub stable : outside_range c ≡ false → c.kg < c.unit * c.km
  unfolding outside_range
  stable o = leb-false (c.unit * c.km) c.kg (first (leb (c.unit * c.km) c.kg) (leb (35 * c.draught) (10 * c.ship.breadth)) (ltb (10 * c.kg) (c.unit * 7 * c.draught)) (ltb (c.unit * 15 * c.draught) (10 * c.kg)) o)
    where
      first : (v w x y : Bool) → v || w || x || y ≡ false → v ≡ false
      first true w x y e = e
      first false w x y e = refl
