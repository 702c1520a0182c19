-- Blocks: 'tag (1 byte), length (2 bytes), body of that length'. Each block of fixed size is one table of fields with their limits.
use Rattle.std.specs.Prelude.{Bool, true, false, ◌&&◌, ◌||◌, List, [], ◌∷◌, ◌++◌, ℕ, ◌+◌, ◌*◌, leb, ltb, eqb, length, take, drop, get_or, replicate}
use Rattle.rules.specs.Numbers.{num, digits}

unfoldable pub block : ℕ → List ℕ → List ℕ
unfolding digits
block tag body = tag ∷ (digits 2 (length body) ++ body)

-- A field: its bytes and its limits.
pub record Field : Type 0 where
  pub width : ℕ
  pub low : ℕ
  pub high : ℕ

abbrev pub field : ℕ → ℕ → ℕ → Field
field w l h = record { width = w; low = l; high = h }

unfoldable pub size : List Field → ℕ
size [] = 0
size (f ∷ fs) = f.width + size fs

-- The values that a body of these fields holds.
unfoldable pub values : List Field → List ℕ → List ℕ
values [] s = []
values (f ∷ fs) s = num (take f.width s) ∷ values fs (drop f.width s)

-- The body that holds these values.
unfoldable pub spell_values : List Field → List ℕ → List ℕ
spell_values [] v = []
spell_values (f ∷ fs) [] = []
spell_values (f ∷ fs) (x ∷ v) = digits f.width x ++ spell_values fs v

-- One value for each field, within its limits.
unfoldable pub within : List Field → List ℕ → Bool
within [] [] = true
within [] (x ∷ v) = false
within (f ∷ fs) [] = false
within (f ∷ fs) (x ∷ v) = leb f.low x && leb x f.high && within fs v

-- A block of fixed size: its tag, its fields in order, its values by name, and what is asked of them beyond the limits.
pub record Layout (A : Type 0) : Type 0 where
  pub tag : ℕ
  pub fields : List Field
  pub listed : A → List ℕ
  pub named : List ℕ → A
  pub further : A → Bool

-- 'A value outside its limits' is what this rules out.
unfoldable pub ok : {A : Type 0} → Layout A → A → Bool
ok L a = within L.fields (L.listed a) && L.further a

-- A block of fixed size, spelled.
unfoldable pub spell_block : {A : Type 0} → Layout A → A → List ℕ
spell_block L a = block L.tag (spell_values L.fields (L.listed a))

-- Nothing is asked beyond the limits.
abbrev pub no_more : {A : Type 0} → A → Bool
no_more a = true

-- ---- A1 ship: L and B in mm, bilge keel area in 0.01 m², bilge 0 round, 1 sharp
pub record Ship : Type 0 where
  pub hull_length : ℕ
  pub breadth : ℕ
  pub keel_area : ℕ
  pub bilge : ℕ

abbrev pub ship : Layout Ship
ship = record {
  tag = 0xA1;
  fields = field 4 24_000 400_000 ∷ field 4 3_000 70_000 ∷ field 4 0 20_000 ∷ field 1 0 1 ∷ [];
  listed = λ s. s.hull_length ∷ s.breadth ∷ s.keel_area ∷ s.bilge ∷ [];
  named = λ v. record { hull_length = get_or v 0 0; breadth = get_or v 1 0; keel_area = get_or v 2 0; bilge = get_or v 3 0 };
  further = no_more;
}

-- ---- A2 row: W in kg, d and KM in mm, thirteen KN values in mm at 0, 5, .. 60°, the first one 0
pub record Row : Type 0 where
  pub mass : ℕ
  pub draught : ℕ
  pub km : ℕ
  pub kn : List ℕ

abbrev pub row : Layout Row
row = record {
  tag = 0xA2;
  fields = field 4 100_000 600_000_000 ∷ field 2 500 30_000 ∷ field 2 0 60_000 ∷ field 2 0 0 ∷ replicate 12 (field 2 0 30_000);
  listed = λ r. r.mass ∷ r.draught ∷ r.km ∷ r.kn;
  named = λ v. record { mass = get_or v 0 0; draught = get_or v 1 0; km = get_or v 2 0; kn = drop 3 v };
  further = no_more;
}

-- 'Some inner KN value, doubled, differs from the sum of its two neighbours by more than 400' (request 4) is what this rules out, of a value x between a and b: it lies neither too high nor too low. It is asked beside the limits, for it has a number of its own.
abbrev pub most_bend : ℕ
most_bend = 400

abbrev pub not_too_high : ℕ → ℕ → ℕ → Bool
not_too_high a x b = leb (2 * x) (a + b + most_bend)

abbrev pub not_too_low : ℕ → ℕ → ℕ → Bool
not_too_low a x b = leb (a + b) (2 * x + most_bend)

abbrev pub unbent : ℕ → ℕ → ℕ → Bool
unbent a x b = not_too_high a x b && not_too_low a x b

-- Of values side by side: the first and the last have one neighbour only.
unfoldable pub smooth : List ℕ → Bool
smooth [] = true
smooth (a ∷ []) = true
smooth (a ∷ x ∷ []) = true
smooth (a ∷ x ∷ b ∷ s) = unbent a x b && smooth (x ∷ b ∷ s)

-- ---- A3 condition: a tag of its own, and its body holds blocks
abbrev pub condition_tag : ℕ
condition_tag = 0xA3

-- ---- C1 weather, C6 weather with timber on deck (request 2): wind area in 0.1 m², Z in mm, CB in 0.001, flooding and deck edge angles in tenths of a degree
pub record Sky : Type 0 where
  pub wind_area : ℕ
  pub z : ℕ
  pub cb : ℕ
  pub flooding : ℕ
  pub deck_edge : ℕ

-- The sets of criteria: the Code's, and request 2's for timber on deck.
pub data Set : Type 0 where
  code timber : Set

abbrev pub set_tag : Set → ℕ
set_tag code = 0xC1
set_tag timber = 0xC6

-- 'A block C6, with C1's twelve bytes': the tag apart, one table for both.
abbrev pub weather : Set → Layout Sky
weather s = record {
  tag = set_tag s;
  fields = field 4 0 300_000 ∷ field 2 0 60_000 ∷ field 2 200 1_000 ∷ field 2 0 600 ∷ field 2 1 600 ∷ [];
  listed = λ w. w.wind_area ∷ w.z ∷ w.cb ∷ w.flooding ∷ w.deck_edge ∷ [];
  named = λ v. record { wind_area = get_or v 0 0; z = get_or v 1 0; cb = get_or v 2 0; flooding = get_or v 3 0; deck_edge = get_or v 4 0 };
  further = no_more;
}

-- The weather of a condition: the set that its tag chooses, and its values.
pub record Weather : Type 0 where
  pub set : Set
  pub sky : Sky

abbrev pub ok_weather : Weather → Bool
ok_weather w = ok (weather w.set) w.sky

abbrev pub spell_weather : Weather → List ℕ
spell_weather w = spell_block (weather w.set) w.sky

-- ---- C2 item: mass in kg, centre in mm
pub record Item : Type 0 where
  pub mass : ℕ
  pub centre : ℕ

-- ---- C3 tank, C5 cargo tank (request 1): mass and centre as C2, fill in 0.1 %, density in kg/m³, inertia in m⁴
pub record Tank : Type 0 where
  pub mass : ℕ
  pub centre : ℕ
  pub fill : ℕ
  pub density : ℕ
  pub inertia : ℕ

-- 'Fill 0 only with mass 0.'
abbrev pub fill_rule : Tank → Bool
fill_rule t = ltb 0 t.fill || eqb t.mass 0

-- The kinds of tank: those of 01, and request 1's 'for cargo tanks'.
pub data TankKind : Type 0 where
  ordinary cargo : TankKind

-- The kinds of entry, and what an entry of each kind holds.
pub data Load : Type 0 where
  item : Load
  tank : TankKind → Load

abbrev pub Values : Load → Type 0
Values item = Item
Values (tank k) = Tank

-- Mass and centre have the limits of C2 in every kind of entry.
abbrev pub mass_and_centre : List Field
mass_and_centre = field 4 0 600_000_000 ∷ field 2 0 60_000 ∷ []

abbrev pub tank_tag : TankKind → ℕ
tank_tag ordinary = 0xC3
tank_tag cargo = 0xC5

-- 'A block C5, laid out and limited as C3': the tag apart, one table for both.
abbrev pub entry : (k : Load) → Layout (Values k)
entry item = record {
  tag = 0xC2;
  fields = mass_and_centre;
  listed = λ i. i.mass ∷ i.centre ∷ [];
  named = λ v. record { mass = get_or v 0 0; centre = get_or v 1 0 };
  further = no_more;
}
entry (tank k) = record {
  tag = tank_tag k;
  fields = mass_and_centre ++ (field 2 0 1_000 ∷ field 2 0 2_000 ∷ field 4 0 100_000 ∷ []);
  listed = λ t. t.mass ∷ t.centre ∷ t.fill ∷ t.density ∷ t.inertia ∷ [];
  named = λ v. record { mass = get_or v 0 0; centre = get_or v 1 0; fill = get_or v 2 0; density = get_or v 3 0; inertia = get_or v 4 0 };
  further = fill_rule;
}

-- ---- C4 group: a tag of its own, and its body holds blocks
abbrev pub group_tag : ℕ
group_tag = 0xC4
