-- Any two results that the contract of a public function admits are the same.
use mathlib.Core.Path.{◌≡◌, ap, sym, ◌∙◌}
use mathlib.Core.List.{List}
use Prim.Native.Nat.{ℕ}
use native.Mathlib.Omega.{arith}
use lib.IntN.{ℤ, pos}
use lib.Seq.{ext_get_or}
use Rattle.rules.specs.Curve as rules
use Rattle.book.specs.Book.{plain_ship, plain_weather, loaded_of}
use Rattle.book.proofs.Sets.{plain_set_lem}
use Rattle.book.proofs.Faults.{bilge_number_lem}
use Rattle.book.specs.declared.Loaded.{Loaded}
use Rattle.curve.specs.Levers.{Holds}
use Rattle.curve.proofs.loading.weigh.Reads as weigh
use Rattle.curve.proofs.table.loaded.Reads as loaded
use Rattle.curve.proofs.levers.curve.Reads as curve
use Rattle.curve.proofs.levers.areas.Reads as areas
use Rattle.curve.proofs.tenths.Curve.of.Reads as of
use Rattle.curve.proofs.tenths.Curve.flooding.Reads as flooding
use Rattle.curve.proofs.tenths.Curve.y.Reads as y
use Rattle.curve.proofs.tenths.Curve.area_to.Reads as area-to
use Rattle.curve.proofs.tenths.Curve.peak.Reads as peak
use Rattle.curve.proofs.tenths.Curve.reaches.Reads as reaches
use Rattle.curve.proofs.tenths.Curve.stays.Reads as stays

pub weigh_one : (κs a r r' s s' : _) → weigh.Post κs a r s → weigh.Post κs a r' s' → r ≡ r'
weigh_one κs a r r' s s' p q = p ∙ sym q

-- The loaded ship of the rules, as plain data: `loaded_of` loses nothing.
abbrev plain_loaded : rules.Loaded → Loaded
plain_loaded c = record {
  ship = plain_ship c.ship;
  weather = plain_weather c.weather;
  w = c.w;
  kg = c.kg;
  draught = c.draught;
  km = c.km;
  kn = c.kn;
}

loaded_back : (c : Loaded) → plain_loaded (loaded_of c) ≡ c
loaded_back c = rw (plain_set_lem c.weather.set, bilge_number_lem c.ship.bilge)

pub loaded_one : (κs a r r' s s' : _) → loaded.Post κs a r s → loaded.Post κs a r' s' → r ≡ r'
loaded_one κs a r r' s s' p q = sym (loaded_back r) ∙ ap plain_loaded (p ∙ sym q) ∙ loaded_back r'

-- Two arrays of 601 entries that are those of one f.
holds_one : (f : ℕ → ℤ) (y z : List ℤ) → Holds f y → Holds f z → y ≡ z
holds_one f y z p q = ext_get_or (pos 0) y z (p.long ∙ sym q.long) (λ i h. p.at i (omega (arith, p.long)) ∙ sym (q.at i (omega (arith, p.long))))

pub curve_one : (κs a r r' s s' : _) → curve.Post κs a r s → curve.Post κs a r' s' → s.1.1.0.now ≡ s'.1.1.0.now
curve_one κs a r r' s s' p q = holds_one _ _ _ p q

pub areas_one : (κs a r r' s s' : _) → areas.Post κs a r s → areas.Post κs a r' s' → s.1.0.now ≡ s'.1.0.now
areas_one κs a r r' s s' p q = holds_one _ _ _ p q

-- A curve of a ship: the same y at each tenth, and the same areas.
pub of_one : (κs a r r' s s' : _) → of.Post κs a r s → of.Post κs a r' s' → (r.ship.now ≡ r'.ship.now) × (r.y.now ≡ r'.y.now) × (r.area.now ≡ r'.area.now)
of_one κs a r r' s s' p q =
    let e : r'.ship.now ≡ r.ship.now = q ∙ sym p in
    (p ∙ sym q, holds_one _ _ _ r.levers (rw e at r'.levers), holds_one _ _ _ r.areas (rw e at r'.areas))

pub flooding_one : (κs a r r' s s' : _) → flooding.Post κs a r s → flooding.Post κs a r' s' → r ≡ r'
flooding_one κs a r r' s s' p q = p ∙ sym q

pub y_one : (κs a r r' s s' : _) → y.Post κs a r s → y.Post κs a r' s' → r ≡ r'
y_one κs a r r' s s' p q = p ∙ sym q

pub area_to_one : (κs a r r' s s' : _) → area-to.Post κs a r s → area-to.Post κs a r' s' → r ≡ r'
area_to_one κs a r r' s s' p q = p ∙ sym q

pub peak_one : (κs a r r' s s' : _) → peak.Post κs a r s → peak.Post κs a r' s' → r ≡ r'
peak_one κs a r r' s s' p q = p ∙ sym q

pub reaches_one : (κs a r r' s s' : _) → reaches.Post κs a r s → reaches.Post κs a r' s' → r ≡ r'
reaches_one κs a r r' s s' p q = p ∙ sym q

pub stays_one : (κs a r r' s s' : _) → stays.Post κs a r s → stays.Post κs a r' s' → r ≡ r'
stays_one κs a r r' s s' p q = p ∙ sym q
