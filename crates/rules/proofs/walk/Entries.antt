-- The walk over entries is sound and complete: it gives a tree exactly where the bytes spell that tree within the limits.
use mathlib.Core.Path.{◌≡◌, refl, ap, ap₂, sym, ◌∙◌}
use mathlib.Core.Bool.{Bool, true, false, cond}
use mathlib.Core.List.{List, [], ◌∷◌, ◌++◌}
use Prim.Native.Nat.{ℕ, zero, suc, ◌+◌, ◌-◌, ◌≤◌, ◌<◌}
use native.Mathlib.Omega.{arith}
use lib.ListN.{length}
use lib.Dec.{ltb, eqb}
use borrow.Author.Tests.{ltb-true, eqb-true, lt-ltb}
use Rattle.rules.specs.Numbers.{Bytes, full}
use Rattle.rules.specs.Blocks.{block, spell_values, ok, spell_block, ordinary, cargo, Load, item, tank, Values, entry, group_tag}
use Rattle.rules.specs.Layout.{Entries, end, leaf, group, spell, leaves, depth, some, Good}
use Rattle.rules.specs.Outcome.{refused, got}
use Rattle.rules.specs.Walk.{Head, Tag, load, nested, tag_of, Block, one, nest, begun, block_at, Walk, step, walk, entries}
use Rattle.rules.proofs.layout.Numbers.{Bytes-append}
use Rattle.rules.proofs.walk.Outcome.{refused_got, bind_inv, test_inv, bind_got, test_got}
use Rattle.rules.proofs.layout.Fields.{entry_lawful}
use Rattle.rules.proofs.walk.Heads.{length_block, Bytes-block, Bytes-fixed, header_sound, fixed_sound, fixed_got}
use Rattle.rules.proofs.walk.Fuel.{entries_none, entries_block}

-- ---- what is spelled
-- A group is empty when its bytes are.
pub full_spell : (F : Entries) → full (spell F) ≡ some F
unfolding spell spell_block block some
full_spell end = refl
full_spell (leaf k v r) = refl
full_spell (group g r) = refl

pub length_leaf : (k : Load) (v : Values k) (r : Entries) → length (spell (leaf k v r)) ≡ 3 + length (spell_values (entry k).fields ((entry k).listed v)) + length (spell r)
unfolding spell spell_block
length_leaf k v r = length_block (entry k).tag (spell_values (entry k).fields ((entry k).listed v)) (spell r)

pub length_group : (g r : Entries) → length (spell (group g r)) ≡ 3 + length (spell g) + length (spell r)
unfolding spell
length_group g r = length_block group_tag (spell g) (spell r)

pub Bytes-entries : (F : Entries) → Good F → length (spell F) < 65_536 → Bytes (spell F)
unfolding spell Good Bytes
Bytes-entries end G l = tt
Bytes-entries (leaf k v r) G l = Bytes-append (spell_block (entry k) v) (spell r) (Bytes-fixed (entry k) (entry_lawful k) v G.0) (Bytes-entries r G.1 (omega (arith, length_leaf k v r)))
Bytes-entries (group g r) G l =
    let L = length_group g r in
    Bytes-append (block group_tag (spell g)) (spell r) (Bytes-block group_tag (spell g) (omega arith) (omega arith) (Bytes-entries g G.1 (omega arith))) (Bytes-entries r G.2 (omega arith))

-- ---- one block
-- The tag that stands for each.
abbrev pub code : Tag → ℕ
code (load k) = (entry k).tag
code nested = group_tag

module _ (ln : ℕ) where
  pub tag_of_got : (at : ℕ) (x : Tag) → tag_of ln at (code x) ≡ got x
  unfolding tag_of
  tag_of_got at (load item) = refl
  tag_of_got at (load (tank ordinary)) = refl
  tag_of_got at (load (tank cargo)) = refl
  tag_of_got at nested = refl

  -- An entry within its limits, and a group with something in it, pass their tests.
  pub entry_passes : (d n at : ℕ) (k : Load) (v : Values k) → 0 < n → ok (entry k) v ≡ true → block_at ln d n at (entry k).tag (spell_values (entry k).fields ((entry k).listed v)) ≡ got (one k v)
  unfolding block_at begun
  entry_passes d n at k v h e = bind_got _ (tag_of_got at (load k)) ∙ bind_got _ (fixed_got ln at (entry k) (entry_lawful k) (ltb 0 n) v (lt-ltb 0 n h) e)

  pub group_passes : (d n at : ℕ) (body : List ℕ) → 0 < d → full body ≡ true → block_at ln d n at group_tag body ≡ got nest
  unfolding block_at begun
  group_passes d n at body h e = bind_got _ (tag_of_got at nested) ∙ test_got _ _ _ _ (lt-ltb 0 d h) ∙ test_got _ _ _ _ e

-- ---- sound
-- What it means for a tree to stand in these bytes, with d depths and n entries left.
pub record Stands (d n : ℕ) (s : List ℕ) (F : Entries) : Type 0 where
  pub spells : spell F ≡ s
  pub good : Good F
  pub deep : depth F ≤ d
  pub many : leaves F ≤ n

abbrev pub Sound : Walk → Type 0
Sound w = (d n at : ℕ) (s : List ℕ) (F : Entries) → Bytes s → w d n at s ≡ got F → Stands d n s F

-- What a block that passed its tests tells.
abbrev pub BlockSpelled : ℕ → ℕ → Head → Block → Type 0
BlockSpelled d n h (one k v) = (spell_block (entry k) v ≡ block h.tag h.body) × (0 < n) × (ok (entry k) v ≡ true)
BlockSpelled d n h nest = (group_tag ≡ h.tag) × (0 < d) × (full h.body ≡ true)

module _ (ln : ℕ) where
  tag_of_sound : (at t : ℕ) (x : Tag) → tag_of ln at t ≡ got x → code x ≡ t
  unfolding tag_of
  tag_of_sound at t x e = go (eqb t (entry item).tag) (eqb t (entry (tank ordinary)).tag) (eqb t (entry (tank cargo)).tag) (eqb t group_tag) refl refl refl refl e
    where
      go : (a b c d : Bool) → eqb t (entry item).tag ≡ a → eqb t (entry (tank ordinary)).tag ≡ b → eqb t (entry (tank cargo)).tag ≡ c → eqb t group_tag ≡ d
          → cond a (got (load item)) (cond b (got (load (tank ordinary))) (cond c (got (load (tank cargo))) (cond d (got nested) (refused 4 ln at)))) ≡ got x → code x ≡ t
      go true b c d p q r s e = let z : load item ≡ x = cc in rw (← z) (sym (eqb-true _ _ p))
      go false true c d p q r s e = let z : load (tank ordinary) ≡ x = cc in rw (← z) (sym (eqb-true _ _ q))
      go false false true d p q r s e = let z : load (tank cargo) ≡ x = cc in rw (← z) (sym (eqb-true _ _ r))
      go false false false true p q r s e = let z : nested ≡ x = cc in rw (← z) (sym (eqb-true _ _ s))
      go false false false false p q r s e = refused_got e

  begun_nested : (d n at : ℕ) (body : List ℕ) (b : Block) → begun ln d n at body nested ≡ got b → (nest ≡ b) × (0 < d) × (full body ≡ true)
  unfolding begun
  begun_nested d n at body b e =
      let a = test_inv _ _ _ _ _ e in
      let f = test_inv _ _ _ _ _ a.1 in
      let q : nest ≡ b = cc in
      (q, ltb-true 0 d a.0, f.0)

  pub block_sound : (d n at : ℕ) (h : Head) (b : Block) → Bytes h.body → block_at ln d n at h.tag h.body ≡ got b → BlockSpelled d n h b
  unfolding block_at begun spell_block
  block_sound d n at h b B e = let a = bind_inv _ _ e in go a.0 (tag_of_sound at h.tag a.0 a.1) a.2
    where
      go : (t : Tag) → code t ≡ h.tag → begun ln d n at h.body t ≡ got b → BlockSpelled d n h b
      go (load k) c e =
          let a = bind_inv _ _ e in
          let v = fixed_sound ln at (entry k) (entry_lawful k) (ltb 0 n) h.body a.0 B a.1 in
          let q : one k a.0 ≡ b = cc in
          rw (← q) (ap₂ block c v.0, ltb-true 0 n v.1, v.2)
      go nested c e = let g = begun_nested d n at h.body b e in rw (← g.0) (c, g.1, g.2)

  -- A block that passes as a group is one, and whatever else it held it would pass.
  pub nest_inv : (d n at t : ℕ) (body : List ℕ) → block_at ln d n at t body ≡ got nest → (group_tag ≡ t) × (0 < d) × (full body ≡ true)
  unfolding block_at begun
  nest_inv d n at t body e = let a = bind_inv _ _ e in go a.0 (tag_of_sound at t a.0 a.1) a.2
    where
      go : (x : Tag) → code x ≡ t → begun ln d n at body x ≡ got nest → (group_tag ≡ t) × (0 < d) × (full body ≡ true)
      go (load k) c e = absurd (let v = bind_inv _ _ e in let z : ◌≡◌ {A = ℕ} 0 1 = cc in omega arith)
      go nested c e = let g = begun_nested d n at body nest e in (c, g.1, g.2)

  step_sound : (w : Walk) → Sound w → (d n at : ℕ) (h : Head) (b : Block) (F : Entries) → Bytes h.body → Bytes h.rest → BlockSpelled d n h b → step ln w d n at h b ≡ got F
      → Stands d n (block h.tag h.body ++ h.rest) F
  unfolding step spell Good depth leaves
  step_sound w S d n at h (one k v) F B C T e =
      let b = bind_inv _ _ e in
      let r = S _ _ _ h.rest b.0 C b.1 in
      let q : leaf k v b.0 ≡ F = cc in
      rw (← q) (record { spells = ap₂ ◌++◌ T.0 r.spells; good = (T.2, r.good); deep = r.deep; many = omega (arith, T.1, r.many) })
  step_sound w S d n at h nest F B C T e =
      let b = bind_inv _ _ e in
      let x = bind_inv _ _ b.2 in
      let g = S _ _ _ h.body b.0 B b.1 in
      let r = S _ _ _ h.rest x.0 C x.1 in
      let q : group b.0 x.0 ≡ F = cc in
      rw (← q) (record {
        spells = ap₂ ◌++◌ (ap₂ block T.0 g.spells) r.spells;
        good = (sym (full_spell b.0) ∙ ap full g.spells ∙ T.2, g.good, r.good);
        deep = omega (arith, T.1, g.deep, r.deep);
        many = omega (arith, g.many, r.many);
      })

  pub walk_sound : (f : ℕ) → Sound (walk ln f)
  unfolding walk spell Good depth leaves
  walk_sound zero d n at s F B e = refused_got e
  walk_sound (suc f) d n at [] F B e = let q : end ≡ F = cc in rw (← q) (record { spells = refl; good = tt; deep = omega arith; many = omega arith })
  walk_sound (suc f) d n at (x ∷ s) F B e =
      let a = bind_inv _ _ e in
      let b = bind_inv _ _ a.2 in
      let h = header_sound ln at (x ∷ s) a.0 B a.1 in
      let p = step_sound (walk ln f) (walk_sound f) d n at a.0 b.0 F h.1 h.2 (block_sound d n at a.0 b.0 h.1 b.1) b.2 in
      record { spells = p.spells ∙ h.0; good = p.good; deep = p.deep; many = p.many }

  pub entries_sound : Sound (entries ln)
  unfolding entries
  entries_sound d n at s = walk_sound (suc (length s)) d n at s

  -- ---- complete
  pub entries_got : (F : Entries) (d n at : ℕ) → Good F → depth F ≤ d → leaves F ≤ n → length (spell F) < 65_536 → entries ln d n at (spell F) ≡ got F
  unfolding step spell spell_block Good depth leaves
  entries_got end d n at G D N l = entries_none ln d n at
  entries_got (leaf k v r) d n at G D N l =
      let body : List ℕ = spell_values (entry k).fields ((entry k).listed v) in
      let L = length_leaf k v r in
      entries_block ln d n at (entry k).tag body (spell r) (omega arith) ∙ bind_got _ (entry_passes ln d n at k v (omega arith) G.0)
      ∙ bind_got _ (entries_got r d (n - 1) (at + 3 + length body) G.1 D (omega arith) (omega arith))
  entries_got (group g r) d n at G D N l =
      let L = length_group g r in
      entries_block ln d n at group_tag (spell g) (spell r) (omega arith) ∙ bind_got _ (group_passes ln d n at (spell g) (omega arith) (full_spell g ∙ G.0))
      ∙ bind_got _ (entries_got g (d - 1) n (at + 3) G.1 (omega arith) (omega arith) (omega arith))
      ∙ bind_got _ (entries_got r d (n - leaves g) (at + 3 + length (spell g)) G.2 (omega arith) (omega arith) (omega arith))
