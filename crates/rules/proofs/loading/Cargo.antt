-- Request 1: a C5 is a tank as a C3 is, spelled and limited alike; it differs in its free surface and in nothing else.
use mathlib.Core.Path.{◌≡◌, refl, sym, ◌∙◌}
use mathlib.Core.Logic.{◌↔◌}
use mathlib.Core.Bool.{Bool, true, false, cond, ◌&&◌}
use Prim.Native.Nat.{ℕ, ◌+◌, ◌*◌, ◌≤◌, ◌<◌}
use native.Mathlib.Omega.{arith}
use lib.Dec.{ltb}
use lib.ListN.{length, length-append}
use borrow.Author.Tests.{lt-ltb, le-ltb}
use Rattle.rules.specs.Blocks.{ok, Tank, TankKind, ordinary, cargo, tank, entry}
use Rattle.rules.specs.Text.{text}
use Rattle.rules.specs.Layout.{Entries, spell, spell_condition, frames, spell_text, Reading, leaves, depth, some, Good, Limits}
use Rattle.rules.specs.Loading.{Entry, mass, moment, nominally_full, surface_moment, free_surface_of, free_surface}
use Rattle.rules.specs.Leaves.{sum_leaves, loaded_with}
use Rattle.rules.specs.Cargo.{MadeCargo, here, after_entry, after_group, in_group}
use Rattle.rules.proofs.layout.OtherTag.{same_length, as_many_characters}
use Rattle.rules.proofs.layout.Retagged.{spell_retagged, frames_retagged}

-- ---- one tank
-- At fill 0 neither kind has any; from fill 1 on a cargo tank has its whole moment, and a C3 up to 979.
pub empty_none : (k : TankKind) (t : Tank) → t.fill ≡ 0 → free_surface_of (tank k) t ≡ 0
empty_none ordinary t h = rw h
empty_none cargo t h = rw h

pub cargo_moment : (t : Tank) → 0 < t.fill → free_surface_of (tank cargo) t ≡ 1000 * t.density * t.inertia
cargo_moment t h = rw (lt-ltb 0 t.fill h)

pub slack_moment : (t : Tank) → 0 < t.fill → t.fill < nominally_full → free_surface_of (tank ordinary) t ≡ 1000 * t.density * t.inertia
slack_moment t h l = rw (lt-ltb 0 t.fill h, lt-ltb t.fill nominally_full l)

-- Below 980 both kinds have the same; from there on a C3 has none.
pub alike_below : (t : Tank) → t.fill < nominally_full → free_surface_of (tank cargo) t ≡ free_surface_of (tank ordinary) t
alike_below t h = rw (lt-ltb t.fill nominally_full h) (go (ltb 0 t.fill))
  where
    go : (b : Bool) → cond b (surface_moment t) 0 ≡ cond (b && true) (surface_moment t) 0
    go true = refl
    go false = refl

pub forgiven : (t : Tank) → nominally_full ≤ t.fill → free_surface_of (tank ordinary) t ≡ 0
forgiven t h = rw (le-ltb t.fill nominally_full h) (go (ltb 0 t.fill))
  where
    go : (b : Bool) → cond (b && false) (surface_moment t) 0 ≡ 0
    go true = refl
    go false = refl

ok_alike : (t : Tank) → ok (entry (tank cargo)) t ≡ ok (entry (tank ordinary)) t
unfolding ok
ok_alike t = refl

-- ---- a load with one tank made a cargo tank
-- As many leaves, as deep, and some where there were some.
record SameShape (F G : Entries) : Type 0 where
  many : leaves F ≡ leaves G
  deep : depth F ≡ depth G
  any : some F ≡ some G

module _ {t : Tank} where
  -- A sum over the leaves differs by what the tank adds as the one and as the other.
  sums_differ : (f : Entry → ℕ) {F G : Entries} → MadeCargo t F G → sum_leaves f F + f (record { kind = tank cargo; values = t }) ≡ sum_leaves f G + f (record { kind = tank ordinary; values = t })
  unfolding sum_leaves
  sums_differ f (here r) = omega arith
  sums_differ f (after_entry k v m) = omega (arith, sums_differ f m)
  sums_differ f (after_group g m) = omega (arith, sums_differ f m)
  sums_differ f (in_group r m) = omega (arith, sums_differ f m)

  pub sums_made_cargo : {F G : Entries} → MadeCargo t F G → (sum_leaves mass F ≡ sum_leaves mass G) × (sum_leaves moment F ≡ sum_leaves moment G)
      × (sum_leaves free_surface F + free_surface_of (tank cargo) t ≡ sum_leaves free_surface G + free_surface_of (tank ordinary) t)
  sums_made_cargo m = (omega (arith, sums_differ mass m), omega (arith, sums_differ moment m), sums_differ free_surface m)

  -- Below 980 the sums stay; from there on the full moment comes in.
  pub sums_below : {F G : Entries} → MadeCargo t F G → t.fill < nominally_full → (sum_leaves mass F ≡ sum_leaves mass G) × (sum_leaves moment F + sum_leaves free_surface F ≡ sum_leaves moment G + sum_leaves free_surface G)
  sums_below m h = let s = sums_made_cargo m in let e = alike_below t h in (s.0, omega arith)

  pub sums_full : {F G : Entries} → MadeCargo t F G → nominally_full ≤ t.fill
      → (sum_leaves mass G ≡ sum_leaves mass F) × (sum_leaves moment G + sum_leaves free_surface G ≡ sum_leaves moment F + sum_leaves free_surface F + 1000 * t.density * t.inertia)
  sums_full m h = let s = sums_made_cargo m in let e = forgiven t h in let c = cargo_moment t (omega arith) in (sym s.0, omega arith)

  same_shape : {F G : Entries} → MadeCargo t F G → SameShape F G
  unfolding leaves depth some
  same_shape (here r) = record { many = refl; deep = refl; any = refl }
  same_shape (after_entry k v m) = let a = same_shape m in record { many = omega (arith, a.many); deep = a.deep; any = refl }
  same_shape (after_group g m) = let a = same_shape m in record { many = omega (arith, a.many); deep = omega (arith, a.deep); any = refl }
  same_shape (in_group r m) = let a = same_shape m in record { many = omega (arith, a.many); deep = omega (arith, a.deep); any = refl }

  pub as_many : {F G : Entries} → MadeCargo t F G → leaves F ≡ leaves G
  as_many m = (same_shape m).many

  -- Within the limits as it was.
  good_alike : {F G : Entries} → MadeCargo t F G → Good F ↔ Good G
  unfolding Good
  good_alike (here r) = (λ g. (ok_alike t ∙ g.0, g.1), λ g. (sym (ok_alike t) ∙ g.0, g.1))
  good_alike (after_entry k v m) = let a = good_alike m in (λ g. (g.0, a.0 g.1), λ g. (g.0, a.1 g.1))
  good_alike (after_group g m) = let a = good_alike m in (λ x. (x.0, x.1, a.0 x.2), λ x. (x.0, x.1, a.1 x.2))
  good_alike (in_group r m) = let a = good_alike m in let s = (same_shape m).any in (λ x. (sym s ∙ x.0, a.0 x.1, x.2), λ x. (s ∙ x.0, a.1 x.1, x.2))

-- ---- a reading with such a load
-- Of the same shape and as long, it is within the limits if it was.
limits_kept : (r : Reading) (G : Entries) → SameShape r.condition.load G → (Good r.condition.load → Good G) → length (spell r.condition.load) ≡ length (spell G) → length (spell_text r) ≡ length (spell_text (loaded_with r G)) → Limits r → Limits (loaded_with r G)
unfolding spell_condition
limits_kept r G a good e f l =
    let c : length (spell_condition r.condition) ≡ length (spell_condition (loaded_with r G).condition) = simp length-append (omega (arith, e)) in
    let L = l.loaded in
    record {
      hull = l.hull;
      rising = l.rising;
      few = l.few;
      many = l.many;
      loaded = record {
        sky = L.sky;
        good = good L.good;
        any = sym a.any ∙ L.any;
        deep = omega (arith, a.deep, L.deep);
        many = omega (arith, a.many, L.many);
        long = omega (arith, c, L.long);
      };
      long = omega (arith, f, l.long);
    }

pub limits_alike : {t : Tank} (r : Reading) (G : Entries) → MadeCargo t r.condition.load G → Limits r ↔ Limits (loaded_with r G)
unfolding spell_text spell_condition
limits_alike r G m =
    let a = same_shape m in
    let back : SameShape G r.condition.load = record { many = sym a.many; deep = sym a.deep; any = sym a.any } in
    let e = same_length (spell_retagged m) in
    let c : length (spell_condition r.condition) ≡ length (spell_condition (loaded_with r G).condition) = simp length-append (omega (arith, e)) in
    let f : length (spell_condition r.condition) < 65_536 → length (text (frames r)) ≡ length (text (frames (loaded_with r G))) = λ short. as_many_characters (frames_retagged r G short m) in (
      λ l. limits_kept r G a (good_alike m).0 e (f (omega (arith, l.loaded.long))) l,
      λ l. limits_kept (loaded_with r G) r.condition.load back (good_alike m).1 (sym e) (sym (f (omega (arith, c, l.loaded.long)))) l,
    )
