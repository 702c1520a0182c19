-- Lines that are the same before an offset: so are their parts, and so are their heads.
use mathlib.Core.Path.{◌≡◌, refl, ap, ap₂, sym, ◌∙◌}
use mathlib.Core.Bool.{Bool, true, false, cond}
use mathlib.Core.List.{List, [], ◌∷◌}
use Prim.Native.Nat.{ℕ, ◌+◌, ◌-◌, ◌*◌, ◌≤◌, ◌<◌}
use native.Mathlib.Omega.{arith}
use lib.ListN.{length, drop, get_or, length-take, length-drop, get_or-eq_default}
use lib.Seq.{get_or-take, get_or-drop, ext_get_or}
use lib.Dec.{ltb, leb}
use borrow.Author.Tests.{ltb-true, ltb-false, leb-true, leb-false}
use Rattle.rules.specs.Numbers.{full}
use Rattle.rules.specs.Outcome.{refused, got}
use Rattle.rules.specs.Walk.{header}
use Rattle.rules.specs.Parts.{be2, part, head_at}
use Rattle.rules.specs.Places.{end_of, SameBefore, looked_at}
use Rattle.rules.proofs.layout.Parts.{length_part, header_overrun, header_block}

-- Two lists of one length have something in them, or not.
same_full : (s s' : List ℕ) → length s ≡ length s' → full s ≡ full s'
same_full [] [] e = refl
same_full [] (x ∷ s') e = absurd (omega arith)
same_full (x ∷ s) [] e = absurd (omega arith)
same_full (x ∷ s) (y ∷ s') e = refl

-- What is the same before its end is the same.
same_whole : {m : ℕ} {s s' : List ℕ} → SameBefore m s s' → length s ≤ m → s ≡ s'
same_whole {s = s} {s' = s'} A l = ext_get_or 0 s s' A.long (λ i h. A.bytes i (omega arith))

-- ---- parts
-- A byte of a part is one of the whole, or is not there.
part_byte : (a e : ℕ) (s : List ℕ) (i : ℕ) → i < e - a → get_or (part a e s) i 0 ≡ get_or s (a + i) 0
part_byte a e s i h = get_or-take (e - a) (drop a s) i 0 h ∙ get_or-drop a s i 0

part_none : (a e : ℕ) (s : List ℕ) (i : ℕ) → e - a ≤ i → get_or (part a e s) i 0 ≡ 0
part_none a e s i h = get_or-eq_default (part a e s) 0 (rw (length-take (e - a) (drop a s)) (omega arith))

part_le : (a e : ℕ) (s : List ℕ) (i j : ℕ) → a + i ≡ j → get_or (part a e s) i 0 ≤ get_or s j 0
part_le a e s i j q = go (ltb i (e - a)) refl
  where
    go : (c : Bool) → ltb i (e - a) ≡ c → get_or (part a e s) i 0 ≤ get_or s j 0
    go true p = rw (part_byte a e s i (ltb-true _ _ p), q) (omega arith)
    go false p = rw (part_none a e s i (ltb-false _ _ p)) (omega arith)

-- A block that ends before m ends, in a part, before what the part has of it; so with what a refusal looks at.
end_part : (a e : ℕ) (s : List ℕ) (i j m : ℕ) → a + i ≡ j → end_of s j ≤ m → end_of (part a e s) i ≤ m - a
end_part a e s i j m q h = omega (arith, part_le a e s (i + 1) (j + 1) (omega arith), part_le a e s (i + 1 + 1) (j + 1 + 1) (omega arith))

pub looked_part : (n a e : ℕ) (s : List ℕ) (i j m : ℕ) → a + i ≡ j → looked_at s n j ≤ m → looked_at (part a e s) n i ≤ m - a
looked_part n a e s i j m q h = go (leb n 4) h
  where
    go : (c : Bool) → cond c (j + 3) (end_of s j) ≤ m → cond c (i + 3) (end_of (part a e s) i) ≤ m - a
    go true h = omega arith
    go false h = end_part a e s i j m q h

-- A refusal looks at a head at least.
pub looked_head : (n i : ℕ) (s : List ℕ) (m : ℕ) → looked_at s n i ≤ m → i + 3 ≤ m
looked_head n i s m h = go (leb n 4) h
  where
    go : (c : Bool) → cond c (i + 3) (end_of s i) ≤ m → i + 3 ≤ m
    go true h = h
    go false h = omega arith

-- At the first block it looks at the head alone, or to the end.
pub looked_first : {C : Type 0} (n i : ℕ) (s : List ℕ) (m : ℕ) → looked_at s n i ≤ m → i ≡ 0 → (n ≤ 4 → C) → (3 + be2 s 1 ≤ m → C) → C
looked_first {C} n i s m h z f g = go (leb n 4) refl (rw z at h)
  where
    go : (c : Bool) → leb n 4 ≡ c → cond c 3 (end_of s 0) ≤ m → C
    go true p h = f (leb-true n 4 p)
    go false p h = g h

module _ {m : ℕ} {s s' : List ℕ} (A : SameBefore m s s') where
  pub part_long : (a e : ℕ) → length (part a e s) ≡ length (part a e s')
  part_long a e = rw (length-take (e - a) (drop a s), length-drop a s, length-take (e - a) (drop a s'), length-drop a s', A.long)

  pub same_part : (a e j : ℕ) → a + j ≤ m → SameBefore j (part a e s) (part a e s')
  same_part a e j l = record { long = part_long a e; bytes = λ i h. go i h (ltb i (e - a)) refl }
    where
      go : (i : ℕ) → i < j → (c : Bool) → ltb i (e - a) ≡ c → get_or (part a e s) i 0 ≡ get_or (part a e s') i 0
      go i h true p = let q = ltb-true _ _ p in part_byte a e s i q ∙ A.bytes (a + i) (omega arith) ∙ sym (part_byte a e s' i q)
      go i h false p = let q = ltb-false _ _ p in part_none a e s i q ∙ sym (part_none a e s' i q)

  pub part_full : (a e : ℕ) → full (part a e s) ≡ full (part a e s')
  part_full a e = same_full (part a e s) (part a e s') (part_long a e)

  -- ---- heads
  -- The bodies of the two first blocks are the same, where they end before m.
  pub same_body : 3 + be2 s 1 ≤ length s → 3 + be2 s 1 ≤ m → part 3 (3 + be2 s 1) s ≡ part 3 (3 + be2 s 1) s'
  same_body l h = same_whole (same_part 3 (3 + be2 s 1) (be2 s 1) h) (rw (length_part s 3 (3 + be2 s 1) l) (omega arith))

  -- Both heads are refused, or both are read, with one tag and one length.
  pub same_heads : {C : Type 0} (ln at : ℕ) → 3 ≤ m → (header ln at s ≡ refused 2 ln at → header ln at s' ≡ refused 2 ln at → C)
      → (3 + be2 s 1 ≤ length s → header ln at s ≡ got (head_at (get_or s 0 0) (be2 s 1) s) → header ln at s' ≡ got (head_at (get_or s 0 0) (be2 s 1) s') → C) → C
  same_heads {C} ln at h over in_both = go (leb (3 + be2 s 1) (length s)) refl
    where
      same_length : be2 s 1 ≡ be2 s' 1
      same_length = ap₂ (λ x y. x * 256 + y) (A.bytes 1 (omega arith)) (A.bytes 2 (omega arith))

      go : (c : Bool) → leb (3 + be2 s 1) (length s) ≡ c → C
      go false p = let v = leb-false _ _ p in over (header_overrun s ln at v) (header_overrun s' ln at (omega (arith, A.long, same_length)))
      go true p =
          let l = leb-true _ _ p in
          in_both l (header_block s ln at (be2 s 1) refl l) (header_block s' ln at (be2 s 1) same_length (omega (arith, A.long)) ∙ ap (λ t. got (head_at t (be2 s 1) s')) (sym (A.bytes 0 (omega arith))))
