-- A block among the entries: one fact for each way out.
use mathlib.Core.Path.{◌≡◌, refl, sym, subst, ◌∙◌}
use mathlib.Core.Bool.{Bool, true, false}
use mathlib.Core.List.{List}
use Prim.Native.Nat.{ℕ, ◌<◌}
use native.Mathlib.Omega.{arith}
use lib.ListN.{length}
use lib.Dec.{ltb, eqb}
use borrow.Author.Tests.{lt-ltb, le-ltb, eqb-true, eqb-false}
use Rattle.std.specs.Prelude.{Result, Ok, Err}
use Rattle.rules.specs.Blocks.{size, values, ok, code, timber, Load, entry}
use Rattle.rules.specs.Outcome.{refused, got}
use Rattle.rules.specs.Walk.{load, nested, tag_of, one, begun, chosen, block_at}
use Rattle.rules.proofs.walk.Outcome.{bind_got, bind_refused}
use Rattle.rules.proofs.walk.BlockExits.{fixed_length, fixed_full, fixed_outside, fixed_within}
use Rattle.rules.proofs.walk.FrameExits.{set_known, set_other}
use Rattle.book.specs.Book.{set_of, set_told}
use Rattle.book.specs.declared.Set.{Set}
use Rattle.book.specs.declared.Fault.{Fault}
use Rattle.blocks.specs.BlockAnswers.{tag_told, tag_meant}

-- ---- an entry: 3, 5, 6, or its values
module _ (k : Load) (ln at n : ℕ) (body : List ℕ) where
  pub leaf_length : (length body ≡ size (entry k).fields → ⊥) → begun ln 0 n at body (load k) ≡ refused 3 ln at
  unfolding begun
  leaf_length h = bind_refused _ (fixed_length ln at (entry k) body (ltb 0 n) h)

  module _ (h : length body ≡ size (entry k).fields) where
    pub leaf_full : n ≡ 0 → begun ln 0 n at body (load k) ≡ refused 5 ln at
    unfolding begun
    leaf_full z = bind_refused _ (fixed_full ln at (entry k) body (ltb 0 n) h (le-ltb 0 n (omega arith)))

    module _ (z : 0 < n) where
      pub leaf_outside : ok (entry k) ((entry k).named (values (entry k).fields body)) ≡ false → begun ln 0 n at body (load k) ≡ refused 6 ln at
      unfolding begun
      leaf_outside o = bind_refused _ (fixed_outside ln at (entry k) body (ltb 0 n) h (lt-ltb 0 n z) o)

      pub leaf_within : ok (entry k) ((entry k).named (values (entry k).fields body)) ≡ true → begun ln 0 n at body (load k) ≡ got (one k ((entry k).named (values (entry k).fields body)))
      unfolding begun
      leaf_within o = bind_got _ (fixed_within ln at (entry k) body (ltb 0 n) h (lt-ltb 0 n z) o)

-- ---- a block among the entries, by its tag
-- What the code is told by a tag is what the rules say of it.
pub tag_meaning : (ln at t : ℕ) → tag_of ln at t ≡ tag_meant ln at (tag_told t)
unfolding tag_of
tag_meaning ln at t = go (eqb t 0xC2) (eqb t 0xC3) (eqb t 0xC5) (eqb t 0xC4) refl refl refl refl
  where
    go : (a b c d : Bool) → eqb t 0xC2 ≡ a → eqb t 0xC3 ≡ b → eqb t 0xC5 ≡ c → eqb t 0xC4 ≡ d → tag_of ln at t ≡ tag_meant ln at (tag_told t)
    go true b c d p q r s = rw p refl
    go false true c d p q r s = rw (p, q) refl
    go false false true d p q r s = rw (p, q, r) refl
    go false false false true p q r s = rw (p, q, r, s) refl
    go false false false false p q r s = rw (p, q, r, s) refl

module _ (ln d n at t : ℕ) (body : List ℕ) where
  pub block_load : (k : Load) → tag_of ln at t ≡ got (load k) → block_at ln d n at t body ≡ begun ln 0 n at body (load k)
  unfolding block_at begun
  block_load k e = bind_got {a = load k} _ e

  pub block_group : tag_of ln at t ≡ got nested → block_at ln d n at t body ≡ begun ln d 0 at body nested
  unfolding block_at begun
  block_group e = bind_got {a = nested} _ e

  pub block_other : tag_of ln at t ≡ refused 4 ln at → block_at ln d n at t body ≡ refused 4 ln at
  unfolding block_at
  block_other e = bind_refused _ e

-- ---- the set of criteria, by its tag
module _ (ln t : ℕ) (r : Result Set Fault) (e : r ≡ set_told t) where
  -- What the code is told by a tag is what the rules say of it.
  abbrev Told : Result Set Fault → Type 0
  Told (Ok s) = chosen ln t ≡ got (set_of s)
  Told (Err f) = chosen ln t ≡ refused 4 ln 3

  told : Told (set_told t)
  told = go (eqb t 0xC1) (eqb t 0xC6) refl refl
    where
      go : (a b : Bool) → eqb t 0xC1 ≡ a → eqb t 0xC6 ≡ b → Told (set_told t)
      go true b p q = rw p (set_known ln t code (eqb-true t 0xC1 p))
      go false true p q = rw (p, q) (set_known ln t timber (eqb-true t 0xC6 q))
      go false false p q = rw (p, q) (set_other ln t (eqb-false t 0xC1 p) (eqb-false t 0xC6 q))

  pub set_known_told : (s : Set) → r ≡ Ok s → chosen ln t ≡ got (set_of s)
  set_known_told s q = subst Told (sym e ∙ q) told

  pub set_other_told : (f : Fault) → r ≡ Err f → chosen ln t ≡ refused 4 ln 3
  set_other_told f q = subst Told (sym e ∙ q) told
