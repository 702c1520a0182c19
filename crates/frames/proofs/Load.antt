-- The entries, on top of sums: how the answer for a whole follows from those for its parts.
use mathlib.Core.Path.{◌≡◌, refl, ap, sym, ◌∙◌}
use mathlib.Core.List.{List}
use Prim.Native.Nat.{ℕ, ◌+◌, ◌-◌, ◌≤◌}
use native.Mathlib.Omega.{arith}
use lib.ListN.{length}
use Rattle.std.specs.Prelude.{Ok, Err}
use Rattle.rules.specs.Blocks.{Load, Values}
use Rattle.rules.specs.Layout.{Entries, leaf, group, leaves, most_entries, most_bytes}
use Rattle.rules.specs.Outcome.{Ans, refused, got, ◌>>=◌}
use Rattle.rules.specs.Walk.{nest, header, block_at, entries}
use Rattle.rules.specs.Walk as walk
use Rattle.rules.specs.Parts.{part, head_at}
use Rattle.rules.proofs.layout.Parts.{length_part}
use Rattle.rules.proofs.walk.Entries.{nest_inv}
use Rattle.rules.proofs.walk.BlockExits.{block_refused, block_entry, group_refused, group_got}
use Rattle.book.specs.Book.{answered, sums_of}
use Rattle.book.specs.declared.Refusal.{Refusal}
use Rattle.book.specs.declared.Sums.{Sums}
use Rattle.blocks.specs.BlockAnswers.{sums_of_one, plain_block}
use Rattle.blocks.specs.declared.entries.Block.TheVariants as block
use Rattle.blocks.proofs.Answered.{Refused, Got, passed_on}
use Rattle.cursor.specs.Readers.{OverPart}
use Rattle.cursor.specs.declared.Reader.{Reader}
use Rattle.frames.specs.Sums.{plus, Bounded}
use Rattle.frames.specs.FrameAnswers.{on_top}
use Rattle.frames.proofs.Adding.{plus_leaf, plus_group}
use Rattle.frames.proofs.Bounds.{counted, plus_bounded}
use Rattle.frames.proofs.Blocks.{told_entry, told_group, entry_bounded}

module _ (t : Sums) (m : Ans Entries) where
  pub load_leaf : (k : Load) (v : Values k) → answered (on_top t) (m >>= λ f. got (leaf k v f)) ≡ answered (on_top (plus t (sums_of_one k v))) m
  unfolding ◌>>=◌
  load_leaf k v = go m
    where
      go : (m : Ans Entries) → answered (on_top t) (m >>= λ f. got (leaf k v f)) ≡ answered (on_top (plus t (sums_of_one k v))) m
      go (refused n l o) = refl
      go (got F) = ap Ok (plus_leaf t k v F)

  pub load_group : (g : Entries) → answered (on_top t) (m >>= λ f. got (group g f)) ≡ answered (on_top (plus t (sums_of g))) m
  unfolding ◌>>=◌
  load_group g = go m
    where
      go : (m : Ans Entries) → answered (on_top t) (m >>= λ f. got (group g f)) ≡ answered (on_top (plus t (sums_of g))) m
      go (refused n l o) = refl
      go (got F) = ap Ok (plus_group t g F)

-- After an entry, and after a group: what follows is read on top of the sums so far, with fewer entries left.
module _ (t u : Sums) (X : Ans Entries) (ln d at : ℕ) (rest : List ℕ) where
  pub after_entry_lem : (k : Load) (v : Values k) (e : Sums) → e ≡ sums_of_one k v → u ≡ plus t e → X ≡ (entries ln d (most_entries - t.count - 1) at rest >>= λ r. got (leaf k v r))
      → answered (on_top u) (entries ln d (most_entries - u.count) at rest) ≡ answered (on_top t) X
  after_entry_lem k v e p q x =
      let n : most_entries - (t.count + 1) ≡ most_entries - t.count - 1 = omega arith in
      rw (q, p, n, x) (sym (load_leaf t (entries ln d (most_entries - t.count - 1) at rest) k v))

  pub after_group_lem : (g : Entries) → u ≡ plus t (sums_of g) → X ≡ (entries ln d (most_entries - t.count - leaves g) at rest >>= λ r. got (group g r))
      → answered (on_top u) (entries ln d (most_entries - u.count) at rest) ≡ answered (on_top t) X
  after_group_lem g q x =
      let n : most_entries - (t.count + (sums_of g).count) ≡ most_entries - t.count - leaves g = omega (arith, counted g) in
      rw (q, n, x) (sym (load_group t (entries ln d (most_entries - t.count - leaves g) at rest) g))

-- ---- one after the other
-- What is left of the entries at `a` on top of t: those at r, on top of u.
pub record Left (d : ℕ) (t : Sums) (a : Reader) (u : Sums) (r : Reader) : Type 0 where
  pub placed : r.place.offset + length r.src.now ≤ 3 + most_bytes
  pub bounded : Bounded u
  pub same : answered (on_top u) (entries r.place.line d (most_entries - u.count) r.place.offset r.src.now) ≡ answered (on_top t) (entries a.place.line d (most_entries - t.count) a.place.offset a.src.now)

-- A block of n bytes with its tag at a reader, and its body: what is read on top of u.
module _ (d tag n : ℕ) (r b : Reader) (u : Sums) (n-in : 3 + n ≤ length r.src.now) (begins : header r.place.line r.place.offset r.src.now ≡ got (head_at tag n r.src.now)) (part-of : OverPart r 3 (3 + n) b) where
  abbrev The_block : Ans walk.Block
  The_block = block_at r.place.line d (most_entries - u.count) r.place.offset tag b.src.now

  abbrev Whole : Ans Entries
  Whole = entries r.place.line d (most_entries - u.count) r.place.offset r.src.now

  at_body : {m : Ans walk.Block} → The_block ≡ m → block_at r.place.line d (most_entries - u.count) r.place.offset tag (part 3 (3 + n) r.src.now) ≡ m
  at_body q = rw part-of.bytes at q

  pub body_length : length b.src.now ≡ n
  body_length = ap length part-of.bytes ∙ length_part r.src.now 3 (3 + n) n-in ∙ omega arith

  pub refused_here : (x : Refusal) → Refused The_block x → Err x ≡ answered (on_top u) Whole
  refused_here x h = passed_on (on_top u) _ _ x h (λ l o p q. block_refused _ _ _ _ _ _ _ begins n-in (at_body q))

  -- Where the block is behind: the sums are bounded, and what is left comes to the same.
  abbrev pub Behind : Sums → Type 0
  Behind w = Bounded w × (answered (on_top w) (entries r.place.line d (most_entries - w.count) (r.place.offset + 3 + n) (part (3 + n) (length r.src.now) r.src.now)) ≡ answered (on_top u) Whole)

  pub room_for : (x : Sums) → Got plain_block The_block (block.Entry x) → Bounded x × (u.count + x.count ≤ most_entries)
  room_for x g = let v = told_entry g.value x g.told in entry_bounded _ _ _ _ _ u x v.0 v.1 (g.is ∙ ap got v.2) v.3

  pub behind_entry : (x w : Sums) → Bounded u → Got plain_block The_block (block.Entry x) → w ≡ plus u x → Behind w
  behind_entry x w B g a =
      let v = told_entry g.value x g.told in
      let m = room_for x g in
      (rw a (plus_bounded _ _ B m.0 m.1), after_entry_lem _ _ _ _ _ _ _ v.0 v.1 _ v.3 a (block_entry _ _ _ _ _ _ _ begins n-in v.0 v.1 (at_body (g.is ∙ ap got v.2))))

  -- A group, whose own body is read with one depth less.
  module _ (g : Got plain_block The_block block.Group) where
    is_group : The_block ≡ got nest
    is_group = g.is ∙ ap got (told_group g.value g.told)

    pub deep : 1 ≤ d
    deep = let h = nest_inv _ _ _ _ _ _ is_group in omega (arith, h.1)

    abbrev Inner : Ans Entries
    Inner = entries b.place.line (d - 1) (most_entries - u.count) b.place.offset b.src.now

    inner : {m : Ans Entries} → Inner ≡ m → entries r.place.line (d - 1) (most_entries - u.count) (r.place.offset + 3) (part 3 (3 + n) r.src.now) ≡ m
    inner q = rw (part-of.bytes, part-of.place) at q

    pub refused_inside : (x : Refusal) → Refused Inner x → Err x ≡ answered (on_top u) Whole
    refused_inside x h = passed_on (on_top u) _ _ x h (λ l o p q. group_refused _ _ _ _ _ _ _ begins n-in (at_body is_group) (inner q))

    pub behind_group : (w : Sums) → Bounded w → Got (on_top u) Inner w → Behind w
    behind_group w B h = (B, after_group_lem _ _ _ _ _ _ _ h.value h.told (group_got _ _ _ _ _ _ _ begins n-in (at_body is_group) h.value (inner h.is)))

-- After a block.
pub one_further : (d n : ℕ) (t : Sums) (a : Reader) (u w : Sums) (r q : Reader) → Left d t a u r → 3 + n ≤ length r.src.now → OverPart r (3 + n) (length r.src.now) q → Bounded w
    → answered (on_top w) (entries r.place.line d (most_entries - w.count) (r.place.offset + 3 + n) (part (3 + n) (length r.src.now) r.src.now)) ≡ answered (on_top u) (entries r.place.line d (most_entries - u.count) r.place.offset r.src.now)
    → Left d t a w q
one_further d n t a u w r q L l p B e =
    let m = length_part r.src.now (3 + n) (length r.src.now) (omega arith) in
    let o : r.place.offset + (3 + n) ≡ r.place.offset + 3 + n = omega arith in
    record {
      placed = rw (p.place, p.bytes) (omega (arith, m, L.placed));
      bounded = B;
      same = rw (p.place, p.bytes, o) (e ∙ L.same);
    }
