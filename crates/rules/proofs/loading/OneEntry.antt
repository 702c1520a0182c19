-- A load with one entry in another's place: as many entries, as deep and in the same groups; its sums differ by what the two entries add, and it is within the limits if the new entry is, and as long.
use mathlib.Core.Path.{◌≡◌, refl, sym, ◌∙◌}
use mathlib.Core.Bool.{true}
use Prim.Native.Nat.{ℕ, ◌+◌}
use native.Mathlib.Omega.{arith}
use lib.ListN.{length, length-append}
use Rattle.rules.specs.Blocks.{ok, Weather, entry}
use Rattle.rules.specs.Layout.{Entries, Condition, spell, spell_condition, spell_text, Reading, leaves, depth, some, Good, ConditionLimits, Limits}
use Rattle.rules.specs.Loading.{Entry}
use Rattle.rules.specs.Leaves.{sum_leaves, OneEntry, here, after_entry, after_group, in_group, loaded_with}

-- As many leaves, as deep, and some where there were some.
record SameShape (F G : Entries) : Type 0 where
  many : leaves F ≡ leaves G
  deep : depth F ≡ depth G
  any : some F ≡ some G

module _ {e e' : Entry} where
  -- The other way round.
  pub turned : {F G : Entries} → OneEntry e e' F G → OneEntry e' e G F
  turned (here r) = here r
  turned (after_entry k v m) = after_entry k v (turned m)
  turned (after_group g m) = after_group g (turned m)
  turned (in_group r m) = in_group r (turned m)

  -- A sum over the leaves differs by what the one entry adds and what the other does.
  pub sums_differ : (f : Entry → ℕ) {F G : Entries} → OneEntry e e' F G → sum_leaves f F + f e' ≡ sum_leaves f G + f e
  unfolding sum_leaves
  sums_differ f (here r) = omega arith
  sums_differ f (after_entry k v m) = omega (arith, sums_differ f m)
  sums_differ f (after_group g m) = omega (arith, sums_differ f m)
  sums_differ f (in_group r m) = omega (arith, sums_differ f m)

  same_shape : {F G : Entries} → OneEntry e e' F G → SameShape F G
  unfolding leaves depth some
  same_shape (here r) = record { many = refl; deep = refl; any = refl }
  same_shape (after_entry k v m) = let a = same_shape m in record { many = omega (arith, a.many); deep = a.deep; any = refl }
  same_shape (after_group g m) = let a = same_shape m in record { many = omega (arith, a.many); deep = omega (arith, a.deep); any = refl }
  same_shape (in_group r m) = let a = same_shape m in record { many = omega (arith, a.many); deep = omega (arith, a.deep); any = refl }

  pub as_many : {F G : Entries} → OneEntry e e' F G → leaves F ≡ leaves G
  as_many m = (same_shape m).many

  module _ (ok-kept : ok (entry e.kind) e.values ≡ true → ok (entry e'.kind) e'.values ≡ true) where
    good_kept : {F G : Entries} → OneEntry e e' F G → Good F → Good G
    unfolding Good
    good_kept (here r) g = (ok-kept g.0, g.1)
    good_kept (after_entry k v m) g = (g.0, good_kept m g.1)
    good_kept (after_group h m) g = (g.0, g.1, good_kept m g.2)
    good_kept (in_group r m) g = (sym (same_shape m).any ∙ g.0, good_kept m g.1, g.2)

-- ---- a condition, and a reading, with such a load
pub as_long : (w : Weather) (F G : Entries) → length (spell F) ≡ length (spell G) → length (spell_condition (record { weather = w; load = F })) ≡ length (spell_condition (record { weather = w; load = G }))
unfolding spell_condition
as_long w F G e = simp length-append (omega (arith, e))

module _ {e e' : Entry} where
  pub condition_kept : (c : Condition) (G : Entries) → OneEntry e e' c.load G → (ok (entry e.kind) e.values ≡ true → ok (entry e'.kind) e'.values ≡ true) → length (spell c.load) ≡ length (spell G)
      → ConditionLimits c → ConditionLimits (record { weather = c.weather; load = G })
  condition_kept c G m good long L =
      let a = same_shape m in
      record {
        sky = L.sky;
        good = good_kept good m L.good;
        any = sym a.any ∙ L.any;
        deep = omega (arith, a.deep, L.deep);
        many = omega (arith, a.many, L.many);
        long = omega (arith, as_long c.weather c.load G long, L.long);
      }

  pub limits_kept : (r : Reading) (G : Entries) → OneEntry e e' r.condition.load G → (ok (entry e.kind) e.values ≡ true → ok (entry e'.kind) e'.values ≡ true) → length (spell r.condition.load) ≡ length (spell G)
      → length (spell_text r) ≡ length (spell_text (loaded_with r G)) → Limits r → Limits (loaded_with r G)
  limits_kept r G m good long whole l = record { hull = l.hull; rising = l.rising; few = l.few; many = l.many; loaded = condition_kept r.condition G m good long l.loaded; long = omega (arith, whole, l.long) }
