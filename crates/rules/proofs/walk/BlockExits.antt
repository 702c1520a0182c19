-- The ways out of a block and of the entries, one fact each, by places: what the code answers with.
use mathlib.Core.Path.{◌≡◌, ap, ◌∙◌}
use mathlib.Core.Bool.{Bool, true, false}
use mathlib.Core.List.{List, [], ◌∷◌}
use Prim.Native.Nat.{ℕ, ◌+◌, ◌-◌, ◌≤◌, ◌<◌}
use native.Mathlib.Omega.{arith}
use lib.ListN.{length}
use borrow.Author.Tests.{lt-ltb, le-ltb, eq-eqb, ne_eqb}
use Rattle.rules.specs.Blocks.{Layout, size, ok, values, Load, Values}
use Rattle.rules.specs.Layout.{Entries, end, leaf, group, leaves}
use Rattle.rules.specs.Outcome.{refused, got, ◌>>=◌}
use Rattle.rules.specs.Walk.{header, fixed, nested, begun, one, nest, block_at, step, entries}
use Rattle.rules.specs.Parts.{part, head_at}
use Rattle.rules.proofs.walk.Outcome.{bind_got, bind_refused, test_got, test_refused}
use Rattle.rules.proofs.layout.Parts.{full_some, full_none, length_part}
use Rattle.rules.proofs.walk.Fuel.{entries_none, entries_some}

-- ---- a block of fixed size: 3, 5, 6 or its values
module _ {A : Type 0} (ln at : ℕ) (L : Layout A) (body : List ℕ) (room : Bool) where
  pub fixed_length : (length body ≡ size L.fields → ⊥) → fixed ln L room at body ≡ refused 3 ln at
  unfolding fixed
  fixed_length h = test_refused _ _ _ _ (ne_eqb _ _ h)

  module _ (h : length body ≡ size L.fields) where
    pub fixed_full : room ≡ false → fixed ln L room at body ≡ refused 5 ln at
    unfolding fixed
    fixed_full f = test_got _ _ _ _ (eq-eqb _ _ h) ∙ test_refused _ _ _ _ f

    pub fixed_outside : room ≡ true → ok L (L.named (values L.fields body)) ≡ false → fixed ln L room at body ≡ refused 6 ln at
    unfolding fixed
    fixed_outside f o = test_got _ _ _ _ (eq-eqb _ _ h) ∙ test_got _ _ _ _ f ∙ test_refused _ _ _ _ o

    pub fixed_within : room ≡ true → ok L (L.named (values L.fields body)) ≡ true → fixed ln L room at body ≡ got (L.named (values L.fields body))
    unfolding fixed
    fixed_within f o = test_got _ _ _ _ (eq-eqb _ _ h) ∙ test_got _ _ _ _ f ∙ test_got _ _ _ _ o

-- ---- an entry or a group as it begins
module _ (ln d n at : ℕ) (body : List ℕ) where
  pub begun_deep : d ≡ 0 → begun ln d n at body nested ≡ refused 5 ln at
  unfolding begun
  begun_deep z = test_refused _ _ _ _ (le-ltb 0 d (omega arith))

  pub begun_empty : 0 < d → length body ≡ 0 → begun ln d n at body nested ≡ refused 5 ln at
  unfolding begun
  begun_empty z h = test_got _ _ _ _ (lt-ltb 0 d z) ∙ test_refused _ _ _ _ (full_none body h)

  pub begun_nest : 0 < d → 0 < length body → begun ln d n at body nested ≡ got nest
  unfolding begun
  begun_nest z h = test_got _ _ _ _ (lt-ltb 0 d z) ∙ test_got _ _ _ _ (full_some body h)

-- ---- entries: none, a head that is refused, or a block of len bytes
pub entries_empty : (s : List ℕ) (ln d n at : ℕ) → length s ≡ 0 → entries ln d n at s ≡ got end
entries_empty [] ln d n at h = entries_none ln d n at
entries_empty (x ∷ s) ln d n at h = absurd (omega arith)

pub entries_short : (s : List ℕ) (ln d n at : ℕ) {a b c : ℕ} → 0 < length s → header ln at s ≡ refused a b c → entries ln d n at s ≡ refused a b c
entries_short s ln d n at l e = entries_some ln d n at s l ∙ bind_refused _ e

module _ (s : List ℕ) (ln at d n tag len : ℕ) (H : header ln at s ≡ got (head_at tag len s)) (l : 3 + len ≤ length s) where
  block_first : entries ln d n at s ≡ (block_at ln d n at tag (part 3 (3 + len) s) >>= λ b. step ln (entries ln) d n at (head_at tag len s) b)
  block_first = entries_some ln d n at s (omega arith) ∙ bind_got _ H

  block_length : length (part 3 (3 + len) s) ≡ len
  block_length = length_part s 3 (3 + len) l ∙ omega arith

  pub block_refused : {a b c : ℕ} → block_at ln d n at tag (part 3 (3 + len) s) ≡ refused a b c → entries ln d n at s ≡ refused a b c
  block_refused e = block_first ∙ bind_refused _ e

  pub block_entry : (k : Load) (v : Values k) → block_at ln d n at tag (part 3 (3 + len) s) ≡ got (one k v)
      → entries ln d n at s ≡ (entries ln d (n - 1) (at + 3 + len) (part (3 + len) (length s) s) >>= λ r. got (leaf k v r))
  unfolding step
  block_entry k v e = block_first ∙ bind_got _ e ∙ ap (λ x. entries ln d (n - 1) (at + 3 + x) (part (3 + len) (length s) s) >>= λ r. got (leaf k v r)) block_length

  module _ (e : block_at ln d n at tag (part 3 (3 + len) s) ≡ got nest) where
    block_group :
        entries ln d n at s ≡ (entries ln (d - 1) n (at + 3) (part 3 (3 + len) s) >>= λ g. entries ln d (n - leaves g) (at + 3 + len) (part (3 + len) (length s) s) >>= λ r. got (group g r))
    unfolding step
    block_group = block_first ∙ bind_got _ e ∙ ap (λ x. entries ln (d - 1) n (at + 3) (part 3 (3 + len) s) >>= λ g. entries ln d (n - leaves g) (at + 3 + x) (part (3 + len) (length s) s) >>= λ r. got (group g r)) block_length

    pub group_refused : {a b c : ℕ} → entries ln (d - 1) n (at + 3) (part 3 (3 + len) s) ≡ refused a b c → entries ln d n at s ≡ refused a b c
    group_refused i = block_group ∙ bind_refused _ i

    pub group_got : (g : Entries) → entries ln (d - 1) n (at + 3) (part 3 (3 + len) s) ≡ got g
        → entries ln d n at s ≡ (entries ln d (n - leaves g) (at + 3 + len) (part (3 + len) (length s) s) >>= λ r. got (group g r))
    group_got g i = block_group ∙ bind_got _ i
