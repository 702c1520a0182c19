-- How a block begins: what the answer of `header` says of the head that the rules read, wherever it stands.
use mathlib.Core.Path.{◌≡◌, refl, ap, sym, subst, ◌∙◌}
use mathlib.Core.Bool.{Bool, true, false}
use mathlib.Core.List.{List}
use Prim.Native.Nat.{ℕ, ◌+◌, ◌≤◌}
use native.Mathlib.Omega.{arith}
use lib.ListN.{length, get_or}
use lib.Dec.{ltb}
use borrow.Author.Tests.{ltb-true, ltb-false}
use Rattle.std.specs.Prelude.{Option, Some, None}
use Rattle.rules.specs.Outcome.{refused, got}
use Rattle.rules.specs.Walk.{header}
use Rattle.rules.specs.Parts.{be2, part, head_at}
use Rattle.rules.proofs.layout.Parts.{length_part, header_overrun, header_block}
use Rattle.blocks.specs.BlockAnswers.{begun_of}
use Rattle.blocks.specs.declared.Head.{Head}

-- What the answer says of the head.
abbrev HeadIs : List ℕ → Option Head → Type 0
HeadIs s None = (ln at : ℕ) → header ln at s ≡ refused 2 ln at
HeadIs s (Some h) = (3 + h.len ≤ length s) × ((ln at : ℕ) → header ln at s ≡ got (head_at h.tag h.len s))

module _ (s : List ℕ) where
  pub begins : (n : ℕ) → n ≡ be2 s 1 → 3 + n ≤ length s → Some (record { tag = get_or s 0 0; len = n }) ≡ begun_of (header 0 0 s)
  begins n e l =
      let k : length (part 3 (3 + n) s) ≡ n = length_part s 3 (3 + n) l ∙ omega arith in
      ap (λ m. Some (record { tag = get_or s 0 0; len = m })) (sym k) ∙ sym (ap begun_of (header_block s 0 0 n e l))

  is_head : HeadIs s (begun_of (header 0 0 s))
  is_head = go (ltb (length s) (3 + be2 s 1)) refl
    where
      go : (b : Bool) → ltb (length s) (3 + be2 s 1) ≡ b → HeadIs s (begun_of (header 0 0 s))
      go true p = let h = ltb-true _ _ p in rw (header_overrun s 0 0 h) (λ ln at. header_overrun s ln at h)
      go false p = let l : 3 + be2 s 1 ≤ length s = ltb-false _ _ p in subst (HeadIs s) (begins (be2 s 1) refl l) (l, λ ln at. header_block s ln at (be2 s 1) refl l)

  module _ (r : Option Head) (e : r ≡ begun_of (header 0 0 s)) where
    pub head_short : r ≡ None → (ln at : ℕ) → header ln at s ≡ refused 2 ln at
    head_short q = subst (HeadIs s) (sym e ∙ q) is_head

    pub head_block : (h : Head) → r ≡ Some h → (3 + h.len ≤ length s) × ((ln at : ℕ) → header ln at s ≡ got (head_at h.tag h.len s))
    head_block h q = subst (HeadIs s) (sym e ∙ q) is_head
