-- Laws of the tables of fields: within its limits, a body and its values determine each other, in every block of fixed size.
use mathlib.Core.Path.{◌≡◌, refl, ap, ap₂, sym, ◌∙◌}
use mathlib.Core.Bool.{Bool, true, false, ◌&&◌}
use mathlib.Core.List.{List, [], ◌∷◌}
use Prim.Native.Nat.{ℕ, zero, suc, ◌+◌, ◌^◌, ◌≤◌, ◌<◌}
use native.Mathlib.Omega.{arith}
use lib.ListN.{length, take, drop, get_or, set, length-append, length-take, length-drop, take-append-drop, drop_of_length-le}
use lib.Seq.{drop-cons, take_at, drop_at}
use lib.Dec.{ltb, leb}
use borrow.Author.Tests.{ltb-true, leb-true, le-leb}
use Rattle.rules.specs.Numbers.{digits, Bytes}
use Rattle.rules.specs.Blocks.{Field, field, size, values, spell_values, within, Layout, ok, ship, row, Set, code, timber, weather, TankKind, ordinary, cargo, tank_tag, Load, item, tank, entry}
use Rattle.rules.proofs.layout.Numbers.{Bytes-take, Bytes-drop, Bytes-append, Bytes-digits, length_digits, num_digits, digits_num}

pub both_true : (a b : Bool) → (a && b) ≡ true → (a ≡ true) × (b ≡ true)
both_true true b e = (refl, e)
both_true false b e = absurd (let z : ◌≡◌ {A = ℕ} 0 1 = cc in omega arith)

-- The limits of a table fit its widths.
unfoldable pub narrow : List Field → Bool
narrow [] = true
narrow (f ∷ fs) = ltb f.high (256 ^ f.width) && narrow fs

-- The limits as facts.
unfoldable pub Limited : List Field → List ℕ → Type 0
Limited [] v = Unit {0}
Limited (f ∷ fs) [] = Unit {0}
Limited (f ∷ fs) (x ∷ v) = (f.low ≤ x) × (x ≤ f.high) × Limited fs v

pub limited : (fs : List Field) (v : List ℕ) → within fs v ≡ true → Limited fs v
unfolding within Limited
limited [] v e = tt
limited (f ∷ fs) [] e = tt
limited (f ∷ fs) (x ∷ v) e =
    let a : ((leb f.low x && leb x f.high) ≡ true) × (within fs v ≡ true) = both_true _ _ e in
    let b : (leb f.low x ≡ true) × (leb x f.high ≡ true) = both_true _ _ a.0 in
    (leb-true _ _ b.0, leb-true _ _ b.1, limited fs v a.1)

-- There are as many values as fields; and a value within its own field's limits may stand in the place of another.
pub within_long : (fs : List Field) (v : List ℕ) → within fs v ≡ true → length v ≡ length fs
unfolding within
within_long [] [] e = refl
within_long [] (x ∷ v) e = absurd (let z : ◌≡◌ {A = ℕ} 0 1 = cc in omega arith)
within_long (f ∷ fs) [] e = absurd (let z : ◌≡◌ {A = ℕ} 0 1 = cc in omega arith)
within_long (f ∷ fs) (x ∷ v) e = let a : ((leb f.low x && leb x f.high) ≡ true) × (within fs v ≡ true) = both_true _ _ e in ap suc (within_long fs v a.1)

pub within_set : (fs : List Field) (v : List ℕ) (i x : ℕ) (d : Field) → within fs v ≡ true → (get_or fs i d).low ≤ x → x ≤ (get_or fs i d).high → within fs (set v i x) ≡ true
unfolding within
within_set fs [] i x d e from to = e
within_set [] (y ∷ v) i x d e from to = absurd (let z : ◌≡◌ {A = ℕ} 0 1 = cc in omega arith)
within_set (f ∷ fs) (y ∷ v) zero x d e from to =
    let a : ((leb f.low y && leb y f.high) ≡ true) × (within fs v ≡ true) = both_true _ _ e in
    rw (le-leb f.low x from, le-leb x f.high to) a.1
within_set (f ∷ fs) (y ∷ v) (suc i) x d e from to =
    let a : ((leb f.low y && leb y f.high) ≡ true) × (within fs v ≡ true) = both_true _ _ e in
    rw a.0 (within_set fs v i x d a.1 from to)

-- ---- a body and its values
length_values : (fs : List Field) (s : List ℕ) → length (values fs s) ≡ length fs
unfolding values
length_values [] s = refl
length_values (f ∷ fs) s = ap suc (length_values fs _)

spell_values_lem : (fs : List Field) (s : List ℕ) → Bytes s → length s ≡ size fs → spell_values fs (values fs s) ≡ s
unfolding size values spell_values
spell_values_lem [] [] h e = refl
spell_values_lem [] (b ∷ s) h e = absurd (omega arith)
spell_values_lem (f ∷ fs) s h e =
    let l : length (take f.width s) ≡ f.width = simp length-take (omega arith) in
    let l2 : length (drop f.width s) ≡ size fs = simp length-drop (omega arith) in
    rw (digits_num f.width (take f.width s) (Bytes-take f.width s h) l, spell_values_lem fs (drop f.width s) (Bytes-drop f.width s h) l2) (take-append-drop f.width s)

-- What values within their limits come to when spelled.
record Spelled (fs : List Field) (v : List ℕ) : Type 0 where
  back : values fs (spell_values fs v) ≡ v
  sized : length (spell_values fs v) ≡ size fs
  bytes : Bytes (spell_values fs v)

spelled : (fs : List Field) (v : List ℕ) → narrow fs ≡ true → within fs v ≡ true → Spelled fs v
unfolding size values spell_values within narrow Bytes
spelled [] [] h e = record { back = refl; sized = refl; bytes = tt }
spelled [] (x ∷ v) h e = absurd (let z : ◌≡◌ {A = ℕ} 0 1 = cc in omega arith)
spelled (f ∷ fs) [] h e = absurd (let z : ◌≡◌ {A = ℕ} 0 1 = cc in omega arith)
spelled (f ∷ fs) (x ∷ v) h e =
    let n : (ltb f.high (256 ^ f.width) ≡ true) × (narrow fs ≡ true) = both_true _ _ h in
    let a : ((leb f.low x && leb x f.high) ≡ true) × (within fs v ≡ true) = both_true _ _ e in
    let b : (leb f.low x ≡ true) × (leb x f.high ≡ true) = both_true _ _ a.0 in
    let i : Spelled fs v = spelled fs v n.1 a.1 in
    let d = length_digits f.width x in
    let p : x < 256 ^ f.width = omega (arith, ltb-true, leb-true) in
    record {
      back = rw (take_at (digits f.width x) (spell_values fs v) f.width d, drop_at (digits f.width x) (spell_values fs v) f.width d) (ap₂ ◌∷◌ (num_digits f.width x p) i.back);
      sized = rw length-append (omega (arith, d, i.sized));
      bytes = Bytes-append (digits f.width x) (spell_values fs v) (Bytes-digits f.width x p) i.bytes;
    }

-- ---- a block of fixed size
-- Its values by name and in order are the same, its limits fit its widths, its tag fits a byte and its size a length.
pub record Lawful {A : Type 0} (L : Layout A) : Type 0 where
  pub named_listed : (a : A) → L.named (L.listed a) ≡ a
  pub listed_named : (v : List ℕ) → length v ≡ length L.fields → L.listed (L.named v) ≡ v
  pub limits : narrow L.fields ≡ true
  pub tag_fits : L.tag < 256
  pub size_fits : size L.fields < 65_536

module _ {A : Type 0} (L : Layout A) (W : Lawful L) where
  -- Bytes of the right length spell the values that they hold.
  pub spell_named : (s : List ℕ) → Bytes s → length s ≡ size L.fields → spell_values L.fields (L.listed (L.named (values L.fields s))) ≡ s
  spell_named s B e = ap (spell_values L.fields) (W.listed_named (values L.fields s) (length_values L.fields s)) ∙ spell_values_lem L.fields s B e

  module _ (a : A) (e : ok L a ≡ true) where
    is_spelled : Spelled L.fields (L.listed a)
    unfolding ok
    is_spelled = spelled L.fields (L.listed a) W.limits (both_true _ _ e).0

    -- Values within their limits are held by the bytes that they spell.
    pub named_spell : L.named (values L.fields (spell_values L.fields (L.listed a))) ≡ a
    named_spell = ap L.named is_spelled.back ∙ W.named_listed a

    pub length_spell : length (spell_values L.fields (L.listed a)) ≡ size L.fields
    length_spell = is_spelled.sized

    pub length_fits : length (spell_values L.fields (L.listed a)) < 65_536
    length_fits = omega (arith, length_spell, W.size_fits)

    pub Bytes-spell : Bytes (spell_values L.fields (L.listed a))
    Bytes-spell = is_spelled.bytes

-- ---- the blocks of document 01
-- n values from place i on, then e.
abbrev placed : ℕ → ℕ → List ℕ → List ℕ → List ℕ
placed i zero v e = e
placed i (suc n) v e = get_or v i 0 ∷ placed (suc i) n v e

placed_all : (n i j : ℕ) (v e : List ℕ) → i + n ≡ j → j ≤ length v → drop j v ≡ e → placed i n v e ≡ drop i v
placed_all zero i j v e p l d = let q : j ≡ i = omega arith in sym d ∙ ap (λ k. drop k v) q
placed_all (suc n) i j v e p l d = ap (get_or v i 0 ∷◌) (placed_all n (suc i) j v e (omega arith) l d) ∙ sym (drop-cons v i 0 (omega arith))

-- A list of n values is its values one by one.
each : (n : ℕ) (v : List ℕ) → length v ≡ n → placed 0 n v [] ≡ v
each n v l = placed_all n 0 n v [] (omega arith) (omega arith) (drop_of_length-le v {i = n} (omega arith))

pub ship_lawful : Lawful ship
unfolding narrow size
ship_lawful = record { named_listed = λ a. refl; listed_named = each 4; limits = refl; tag_fits = omega arith; size_fits = omega arith }

pub row_lawful : Lawful row
unfolding narrow size
row_lawful = record { named_listed = λ a. refl; listed_named = λ v l. placed_all 3 0 3 v (drop 3 v) refl (omega arith) refl; limits = refl; tag_fits = omega arith; size_fits = omega arith }

tag_of_set : (s : Set) → (weather s).tag < 256
tag_of_set code = omega arith
tag_of_set timber = omega arith

pub weather_lawful : (s : Set) → Lawful (weather s)
unfolding narrow size
weather_lawful s = record { named_listed = λ a. refl; listed_named = each 5; limits = refl; tag_fits = tag_of_set s; size_fits = omega arith }

pub entry_lawful : (k : Load) → Lawful (entry k)
unfolding narrow size
entry_lawful item = record { named_listed = λ a. refl; listed_named = each 2; limits = refl; tag_fits = omega arith; size_fits = omega arith }
entry_lawful (tank k) = record { named_listed = λ a. refl; listed_named = each 5; limits = refl; tag_fits = tag_fits k; size_fits = omega arith }
  where
    tag_fits : (k : TankKind) → tank_tag k < 256
    tag_fits ordinary = omega arith
    tag_fits cargo = omega arith

-- ---- limits, field by field
-- The field of a number, and a value between its limits.
abbrev pub field_at : List Field → ℕ → Field
field_at fs i = get_or fs i (field 0 0 0)

abbrev pub Inside : Field → ℕ → Type 0
Inside f x = (f.low ≤ x) × (x ≤ f.high)

within_at : (fs : List Field) (v : List ℕ) → within fs v ≡ true → (i : ℕ) → Inside (field_at fs i) (get_or v i 0)
unfolding within
within_at [] [] e i = (omega arith, omega arith)
within_at [] (x ∷ v) e i = absurd (let z : ◌≡◌ {A = ℕ} 0 1 = cc in omega arith)
within_at (f ∷ fs) [] e i = absurd (let z : ◌≡◌ {A = ℕ} 0 1 = cc in omega arith)
within_at (f ∷ fs) (x ∷ v) e zero =
    let b = both_true (leb f.low x) (leb x f.high) (both_true (leb f.low x && leb x f.high) (within fs v) e).0 in
    (leb-true f.low x b.0, leb-true x f.high b.1)
within_at (f ∷ fs) (x ∷ v) e (suc i) = within_at fs v (both_true (leb f.low x && leb x f.high) (within fs v) e).1 i

-- A value of a block that is ok lies within its field's limits.
pub ok_at : {A : Type 0} (L : Layout A) (a : A) → ok L a ≡ true → (i : ℕ) → Inside (field_at L.fields i) (get_or (L.listed a) i 0)
unfolding ok
ok_at L a e = within_at L.fields (L.listed a) (both_true (within L.fields (L.listed a)) (L.further a) e).0
