-- A block among the entries: what the answer of `block_at` says of what the rules read there.
use mathlib.Core.Path.{◌≡◌, refl, subst}
use mathlib.Core.Bool.{true}
use mathlib.Core.List.{List}
use Prim.Native.Nat.{ℕ, ◌+◌, ◌-◌, ◌≤◌, ◌<◌}
use native.Mathlib.Omega.{arith}
use borrow.Author.Tests.{ltb-true}
use Rattle.rules.specs.Blocks.{Load, Values, ok, entry}
use Rattle.rules.specs.Blocks as rules
use Rattle.rules.specs.Layout.{most_entries}
use Rattle.rules.specs.Outcome.{got}
use Rattle.rules.specs.Walk.{Tag, load, nested, fixed, one, nest, begun, block_at}
use Rattle.rules.specs.Walk as walk
use Rattle.rules.proofs.walk.Outcome.{bind_inv, test_inv}
use Rattle.book.specs.declared.Sums.{Sums}
use Rattle.blocks.specs.BlockAnswers.{sums_of_one, plain_block}
use Rattle.blocks.specs.declared.entries.Block.TheVariants as block
use Rattle.frames.specs.Sums.{Bounded}
use Rattle.frames.proofs.Bounds.{one_bounded}

-- Which block was read.
module _ (w : walk.Block) where
  pub told_entry : (s : Sums) → block.Entry s ≡ plain_block w → (k : Load) × (v : Values k) × (w ≡ one k v) × (s ≡ sums_of_one k v)
  told_entry s p = go w p
    where
      go : (w : walk.Block) → block.Entry s ≡ plain_block w → (k : Load) × (v : Values k) × (w ≡ one k v) × (s ≡ sums_of_one k v)
      go (one k v) p = (k, v, refl, cc)
      go nest p = absurd (let z : ◌≡◌ {A = ℕ} 0 1 = cc in omega arith)

  pub told_group : block.Group ≡ plain_block w → w ≡ nest
  told_group p = go w p
    where
      go : (w : walk.Block) → block.Group ≡ plain_block w → w ≡ nest
      go (one k v) p = absurd (let z : ◌≡◌ {A = ℕ} 0 1 = cc in omega arith)
      go nest p = refl

-- An entry that is read had room, and is within its limits.
abbrev Room : ℕ → walk.Block → Type 0
Room n (one k v) = (0 < n) × (ok (entry k) v ≡ true)
Room n nest = Unit {0}

room : (ln d n at t : ℕ) (body : List ℕ) (b : walk.Block) → block_at ln d n at t body ≡ got b → Room n b
unfolding block_at begun fixed
room ln d n at t body nest e = tt
room ln d n at t body (one k v) e = let a = bind_inv _ _ e in go a.0 a.2
  where
    go : (x : Tag) → begun ln d n at body x ≡ got (one k v) → Room n (one k v)
    go (load j) e =
        let a = bind_inv _ _ e in
        let x = test_inv _ 3 ln at _ a.1 in
        let y = test_inv _ 5 ln at _ x.1 in
        let z = test_inv _ 6 ln at _ y.1 in
        let w : (entry j).named (rules.values (entry j).fields body) ≡ a.0 = cc in
        let q : one j a.0 ≡ one k v = cc in
        subst (Room n) q (ltb-true 0 n y.0, rw w at z.0)
    go nested e = let a = test_inv _ 5 ln at _ e in let f = test_inv _ 5 ln at _ a.1 in absurd (let z : ◌≡◌ {A = ℕ} 0 1 = cc in omega arith)

-- So one more entry can be added.
pub entry_bounded : (ln d at g : ℕ) (body : List ℕ) (t e : Sums) (k : Load) (v : Values k) → block_at ln d (most_entries - t.count) at g body ≡ got (one k v) → e ≡ sums_of_one k v → Bounded e × (t.count + e.count ≤ most_entries)
entry_bounded ln d at g body t e k v p q = let r = room ln d (most_entries - t.count) at g body (one k v) p in rw q (one_bounded k v r.1, omega arith)
