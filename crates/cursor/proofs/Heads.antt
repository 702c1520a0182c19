-- What the answer where a block begins says of the head that the rules read at that place.
use mathlib.Core.Path.{◌≡◌, refl, ap, sym, subst, ◌∙◌}
use mathlib.Core.List.{List}
use Prim.Native.Nat.{ℕ, ◌+◌, ◌≤◌}
use native.Mathlib.Omega.{arith}
use lib.ListN.{length}
use Rattle.std.specs.Prelude.{Option, Some, None, Result, Ok, Err}
use Rattle.rules.specs.Outcome.{refused, got}
use Rattle.rules.specs.Walk.{header}
use Rattle.rules.specs.Parts.{part, head_at}
use Rattle.rules.proofs.layout.Parts.{length_part}
use Rattle.book.specs.Book.{refusal, answered}
use Rattle.book.specs.declared.Refusal.{Refusal}
use Rattle.blocks.specs.BlockAnswers.{plain_head, begun_of}
use Rattle.blocks.specs.declared.Head.{Head}
use Rattle.blocks.proofs.Heads.{head_short, head_block}

module _ (s : List ℕ) (ln at : ℕ) where
  pub block_head : (h : Head) → 3 + h.len ≤ length s → header ln at s ≡ got (head_at h.tag h.len s) → Ok h ≡ answered plain_head (header ln at s)
  block_head h l e =
      let k : length (part 3 (3 + h.len) s) ≡ h.len = length_part s 3 (3 + h.len) l ∙ omega arith in
      ap (λ n. Ok (record { tag = h.tag; len = n })) (sym k) ∙ sym (ap (answered plain_head) e)

  -- What an answer says of the head.
  abbrev Is : Result Head Refusal → Type 0
  Is (Err x) = (x ≡ refusal 2 ln at) × (header ln at s ≡ refused 2 ln at)
  Is (Ok h) = (3 + h.len ≤ length s) × (header ln at s ≡ got (head_at h.tag h.len s))

  is_head : Is (answered plain_head (header ln at s))
  is_head = go (begun_of (header 0 0 s)) refl
    where
      go : (b : Option Head) → begun_of (header 0 0 s) ≡ b → Is (answered plain_head (header ln at s))
      go None e = let h = head_short s (begun_of (header 0 0 s)) refl e ln at in subst Is (sym (ap (answered plain_head) h)) (refl, h)
      go (Some b) e = let h = head_block s (begun_of (header 0 0 s)) refl b e in subst Is (block_head b h.0 (h.1 ln at)) (h.0, h.1 ln at)

  module _ (r : Result Head Refusal) (e : r ≡ answered plain_head (header ln at s)) where
    -- A head that is refused, and its refusal.
    pub begins_fault : (x : Refusal) → r ≡ Err x → (x ≡ refusal 2 ln at) × (header ln at s ≡ refused 2 ln at)
    begins_fault x q = subst Is (sym e ∙ q) is_head

    pub begins_block : (h : Head) → r ≡ Ok h → (3 + h.len ≤ length s) × (header ln at s ≡ got (head_at h.tag h.len s))
    begins_block h q = subst Is (sym e ∙ q) is_head
