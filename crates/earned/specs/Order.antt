-- The order that the levers follow, across scales: numbers over one denominator against numbers over another, in whole numbers.
use Rattle.std.specs.Prelude.{List, map, ℕ, ◌+◌, ◌*◌, ◌≤◌, get_or, ℤ, pos}
use Rattle.rules.specs.Rounding.{peak}
use Rattle.rules.specs.Loading.{millimetres}
use Rattle.rules.specs.Curve.{lever_z, area}
use Rattle.rules.specs.Criteria.{reaches}
use Rattle.rules.proofs.rounding.Signed.{up, dn}

-- m a ≤ n b, of whole numbers of either sign.
abbrev pub NoLess : ℕ → ℕ → ℤ → ℤ → Type 0
NoLess m n a b = m * up a + n * dn b ≤ n * up b + m * dn a

-- The numbers that 01 rounds before criteria 1 to 7 use them: KN at the stations, KM, KG and lw1.
pub record Hull : Type 0 where
  pub kn : List ℕ
  pub km : ℕ
  pub kg : ℕ
  pub lw1 : ℕ

-- The same hull over a denominator S times as great.
abbrev pub finer : ℕ → Hull → Hull
finer S h = record { kn = map (λ v. S * v) h.kn; km = S * h.km; kg = S * h.kg; lw1 = S * h.lw1 }

-- The second hull is no worse than the first, n of its units against m: KN and KM no less, KG and lw1 no greater.
pub record Better (m n : ℕ) (h h' : Hull) : Type 0 where
  pub kn : (i : ℕ) → m * get_or h.kn i 0 ≤ n * get_or h'.kn i 0
  pub km : m * h.km ≤ n * h'.km
  pub kg : n * h'.kg ≤ m * h.kg
  pub lw1 : n * h'.lw1 ≤ m * h.lw1

-- The curve of a hull: all its numbers are over one denominator, so that none is multiplied.
abbrev pub curve : Hull → ℤ → ℤ
curve h = lever_z millimetres h.kn h.kg

-- What follows where the second of two curves is nowhere below the first, n of its units against m.
pub record Follows (m n : ℕ) (f g : ℤ → ℤ) : Type 0 where
  pub levers : (t : ℕ) → NoLess m n (f (pos t)) (g (pos t))
  pub areas : (p q : ℕ) → NoLess m n (area f (pos p) (pos q)) (area g (pos p) (pos q))
  pub greatest : (t k : ℕ) → NoLess m n (f (pos (peak (λ j. f (pos j)) t k))) (g (pos (peak (λ j. g (pos j)) t k)))
  pub level : (l l' : ℕ) → n * l' ≤ m * l → (t e : ℕ) → reaches g (pos l') t e ≤ reaches f (pos l) t e
