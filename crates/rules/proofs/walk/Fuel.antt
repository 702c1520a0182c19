-- Any number of steps beyond the length walks the same: so the entries have equations with no count of steps, which code can follow.
use mathlib.Core.Path.{◌≡◌, refl, ap, ◌∙◌}
use mathlib.Core.List.{List, [], ◌∷◌, ◌++◌}
use Prim.Native.Nat.{ℕ, zero, suc, ◌+◌, ◌-◌, ◌≤◌, ◌<◌}
use native.Mathlib.Omega.{arith}
use lib.ListN.{length}
use Rattle.rules.specs.Blocks.{block}
use Rattle.rules.specs.Layout.{end, leaf, group, leaves}
use Rattle.rules.specs.Outcome.{got, ◌>>=◌}
use Rattle.rules.specs.Walk.{Head, header, Block, one, nest, block_at, Walk, step, walk, entries}
use Rattle.rules.proofs.walk.Outcome.{bind_got, bind_cong}
use Rattle.rules.proofs.walk.Heads.{length_block, header_got, header_splits}

-- Two walks that agree on what is shorter than m.
abbrev Same : ℕ → Walk → Walk → Type 0
Same m w w' = (d n at : ℕ) (s : List ℕ) → length s < m → w d n at s ≡ w' d n at s

step_same : (ln m : ℕ) (w w' : Walk) → Same m w w' → (d n at : ℕ) (h : Head) (b : Block) → length h.body < m → length h.rest < m → step ln w d n at h b ≡ step ln w' d n at h b
unfolding step
step_same ln m w w' S d n at h (one k v) a b = ap (◌>>= (λ r. got (leaf k v r))) (S _ _ _ h.rest b)
step_same ln m w w' S d n at h nest a b =
    ap (◌>>= (λ g. w d (n - leaves g) (at + 3 + length h.body) h.rest >>= λ r. got (group g r))) (S (d - 1) n (at + 3) h.body a)
    ∙ bind_cong _ _ _ (λ g eg. ap (◌>>= (λ r. got (group g r))) (S _ _ _ h.rest b))

walk_same : (ln f g m : ℕ) → m ≤ f → m ≤ g → Same m (walk ln f) (walk ln g)
unfolding walk
walk_same ln zero g m a b d n at s l = absurd (omega arith)
walk_same ln (suc f) zero m a b d n at s l = absurd (omega arith)
walk_same ln (suc f) (suc g) m a b d n at [] l = refl
walk_same ln (suc f) (suc g) m a b d n at (x ∷ s) l =
    bind_cong _ _ _ (λ h eh. bind_cong _ _ _ (λ t et.
    let p = header_splits ln at (x ∷ s) h eh in
    step_same ln (m - 1) (walk ln f) (walk ln g) (walk_same ln f g (m - 1) (omega arith) (omega arith)) d n at h t (omega arith) (omega arith)))

module _ (ln d n at : ℕ) where
  pub entries_none : entries ln d n at [] ≡ got end
  unfolding entries walk
  entries_none = refl

  pub entries_some : (s : List ℕ) → 0 < length s → entries ln d n at s ≡ (header ln at s >>= λ h. block_at ln d n at h.tag h.body >>= λ b. step ln (entries ln) d n at h b)
  unfolding entries walk
  entries_some [] l = absurd (omega arith)
  entries_some (x ∷ s) l =
      bind_cong _ _ _ (λ h eh. bind_cong _ _ _ (λ b eb.
      let p = header_splits ln at (x ∷ s) h eh in
      step_same ln (suc (length s)) (walk ln (suc (length s))) (entries ln) (λ d n at s' l. walk_same ln (suc (length s)) (suc (length s')) (suc (length s')) (omega arith) (omega arith) d n at s' (omega arith)) d n at h b (omega arith) (omega arith)))

  -- At a block that is spelled.
  pub entries_block : (t : ℕ) (body rest : List ℕ) → length body < 65_536
      → entries ln d n at (block t body ++ rest) ≡ (block_at ln d n at t body >>= λ b. step ln (entries ln) d n at (record { tag = t; body = body; rest = rest }) b)
  entries_block t body rest l = entries_some (block t body ++ rest) (rw (length_block t body rest) (omega arith)) ∙ bind_got _ (header_got ln at t body rest l)
