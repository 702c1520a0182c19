-- Among entries, what stands behind the block that a refusal names has no say in it.
use mathlib.Core.Path.{◌≡◌, refl, ap, sym, ◌∙◌}
use mathlib.Core.List.{List, [], ◌∷◌}
use Prim.Native.Nat.{ℕ, zero, suc, ◌+◌, ◌-◌, min, ◌≤◌, ◌<◌}
use native.Mathlib.Omega.{arith}
use lib.ListN.{length, drop, get_or, length-take, length-drop}
use Rattle.rules.specs.Layout.{Entries, leaves}
use Rattle.rules.specs.Outcome.{Ans, refused, got}
use Rattle.rules.specs.Walk.{header, Block, one, nest, block_at, entries}
use Rattle.rules.specs.Parts.{be2, part, head_at}
use Rattle.rules.specs.Places.{SameBefore, looked_at}
use Rattle.rules.proofs.walk.Outcome.{refused_got, bind_last, bind_refused}
use Rattle.rules.proofs.walk.Fuel.{entries_none}
use Rattle.rules.proofs.walk.Entries.{nest_inv, group_passes}
use Rattle.rules.proofs.walk.BlockExits.{entries_short, block_refused, block_entry, group_refused, group_got}
use Rattle.rules.proofs.walk.Refusals.{block_refusal, entries_refusal}
use Rattle.rules.proofs.walk.HeadAlone.{block_by_head}
use Rattle.rules.proofs.walk.SameBefore.{looked_part, looked_head, looked_first, part_long, part_full, same_part, same_body, same_heads}

some_left : (ln d n at : ℕ) (s : List ℕ) {a b o : ℕ} → entries ln d n at s ≡ refused a b o → 0 < length s
some_left ln d n at [] e = refused_got (sym e ∙ entries_none ln d n at)
some_left ln d n at (x ∷ s) e = omega arith

-- ---- among entries
-- s and s' begin at offset `at`; the block that the refusal names, at offset o, begins i bytes further on; they are the same before the end of what it looks at.
module _ (ln d n at : ℕ) (s s' : List ℕ) (m i a b o : ℕ) (A : SameBefore m s s') (r : looked_at s a i ≤ m) (q : at + i ≡ o) where
  -- The same of the entries in any part behind the first head.
  abbrev Again : Type 0
  Again = (d n at' x e : ℕ) → at + x ≡ at' → 3 ≤ x → entries ln d n at' (part x e s) ≡ refused a b o → (x ≤ i) × (entries ln d n at' (part x e s') ≡ refused a b o)

  abbrev len : ℕ
  len = be2 s 1

  abbrev tag : ℕ
  tag = get_or s 0 0

  module _ (w : Again) (e : entries ln d n at s ≡ refused a b o) (l : 3 + len ≤ length s) (H : header ln at s ≡ got (head_at tag len s)) (H' : header ln at s' ≡ got (head_at tag len s')) where
    l' : 3 + len ≤ length s'
    l' = omega (arith, A.long)

    -- What is refused behind the block, is so in both.
    rest : (d n : ℕ) → entries ln d n (at + 3 + len) (part (3 + len) (length s) s) ≡ refused a b o → (3 + len ≤ i) × (entries ln d n (at + 3 + len) (part (3 + len) (length s') s') ≡ refused a b o)
    rest d n p = let x = w d n (at + 3 + len) (3 + len) (length s) (omega arith) (omega arith) p in (x.0, rw A.long at x.1)

    inner : block_at ln d n at tag (part 3 (3 + len) s) ≡ got nest → block_at ln d n at tag (part 3 (3 + len) s') ≡ got nest → (x : Ans Entries) → entries ln (d - 1) n (at + 3) (part 3 (3 + len) s) ≡ x → entries ln d n at s' ≡ refused a b o
    inner p p' (refused x y z) h = group_refused s' ln at d n tag len H' l' p' (w (d - 1) n (at + 3) 3 (3 + len) refl (omega arith) (h ∙ (sym (group_refused s ln at d n tag len H l p h) ∙ e))).1
    inner p p' (got g) h =
        let x = rest d (n - leaves g) (bind_last _ _ (sym (group_got s ln at d n tag len H l p g h) ∙ e)) in
        group_got s' ln at d n tag len H' l' p' g (rw (← (same_body A l (omega (arith, looked_head a i s m r, x.0)))) h) ∙ bind_refused _ x.1

    block : (x : Ans Block) → block_at ln d n at tag (part 3 (3 + len) s) ≡ x → entries ln d n at s' ≡ refused a b o
    block (refused x y z) p =
        let E : refused x y z ≡ refused a b o = sym (block_refused s ln at d n tag len H l p) ∙ e in
        let u : z ≡ o = cc in
        let n≡ : x ≡ a = cc in
        let P = (block_refusal ln d n at tag (part 3 (3 + len) s)).holds x y z p in
        let p' : block_at ln d n at tag (part 3 (3 + len) s') ≡ refused x y z = looked_first a i s m r (omega (arith, P.2)) (λ h. (block_by_head ln d n at tag (part 3 (3 + len) s) (part 3 (3 + len) s') (part_long A 3 (3 + len))).same x y z (omega arith) P.2 p) (λ h. rw (same_body A l h) at p) in
        block_refused s' ln at d n tag len H' l' p' ∙ E
    block (got (one k v)) p =
        let x = rest d (n - 1) (bind_last _ _ (sym (block_entry s ln at d n tag len H l k v p) ∙ e)) in
        block_entry s' ln at d n tag len H' l' k v (rw (← (same_body A l (omega (arith, looked_head a i s m r, x.0)))) p) ∙ bind_refused _ x.1
    block (got nest) p =
        let g = nest_inv ln d n at tag (part 3 (3 + len) s) p in
        inner p (rw (← g.0) (group_passes ln d n at (part 3 (3 + len) s') g.1 (sym (part_full A 3 (3 + len)) ∙ g.2))) _ refl

  first_block : Again → entries ln d n at s ≡ refused a b o → entries ln d n at s' ≡ refused a b o
  first_block w e =
      let g = some_left ln d n at s e in
      same_heads A ln at (omega (arith, looked_head a i s m r)) (λ h h'. entries_short s' ln d n at (omega (arith, A.long)) h' ∙ (sym (entries_short s ln d n at g h) ∙ e)) (λ l h h'. block w e l h h' _ refl)

-- The claim, of what is shorter than f.
abbrev pub Claim : ℕ → ℕ → Type 0
Claim ln f = (d n at : ℕ) (s s' : List ℕ) (m i a b o : ℕ) → length s < f → SameBefore m s s' → looked_at s a i ≤ m → at + i ≡ o → entries ln d n at s ≡ refused a b o → entries ln d n at s' ≡ refused a b o

of_parts : (ln f d n at : ℕ) (s s' : List ℕ) (m i a b o : ℕ) (A : SameBefore m s s') (r : looked_at s a i ≤ m) (q : at + i ≡ o) → length s < suc f → Claim ln f → Again ln d n at s s' m i a b o A r q
of_parts ln f d n at s s' m i a b o A r q l C d' n' at' x j p t h =
    let g = some_left ln d' n' at' (part x j s) h in
    let k : length (part x j s) ≡ min (j - x) (length s - x) = length-take (j - x) (drop x s) ∙ ap (min (j - x)) (length-drop x s) in
    let u : x ≤ i = omega (arith, ((entries_refusal ln d' n' at' (part x j s)).holds a b o h).2) in
    (u, C d' n' at' (part x j s) (part x j s') (m - x) (i - x) a b o (omega arith) (same_part A x j (m - x) (omega (arith, looked_head a i s m r))) (looked_part a x j s (i - x) i m (omega arith) r) (omega arith) h)

pub fault_entries : (ln f : ℕ) → Claim ln f
fault_entries ln zero d n at s s' m i a b o l A r q e = absurd (omega arith)
fault_entries ln (suc f) d n at s s' m i a b o l A r q e = first_block ln d n at s s' m i a b o A r q (of_parts ln f d n at s s' m i a b o A r q l (fault_entries ln f)) e
