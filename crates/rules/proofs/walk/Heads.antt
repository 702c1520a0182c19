-- A block as it begins: its head is read exactly where the bytes spell a block, and a block of fixed size gives its values exactly where they are within their limits.
use mathlib.Core.Path.{◌≡◌, refl, ap, ◌∙◌}
use mathlib.Core.Bool.{Bool, true}
use mathlib.Core.List.{List, [], ◌∷◌, ◌++◌}
use Prim.Native.Nat.{ℕ, ◌+◌, ◌≤◌, ◌<◌}
use native.Mathlib.Omega.{arith}
use lib.ListN.{length, take, drop, get_or, length-append, length-take, length-drop, take-append-drop}
use lib.Seq.{length-take-le, take-append_seam, drop-append_seam}
use lib.Dec.{leb, eqb}
use borrow.Author.Tests.{leb-true, eqb-true, le-leb, eq-eqb}
use Rattle.rules.specs.Numbers.{num, digits, Bytes, full}
use Rattle.rules.specs.Blocks.{block, size, values, spell_values, Layout, ok, spell_block}
use Rattle.rules.specs.Outcome.{got}
use Rattle.rules.specs.Walk.{Head, header, fixed}
use Rattle.rules.proofs.layout.Numbers.{Bytes-take, Bytes-drop, Bytes-append, Bytes-digits, num_digits, digits_num}
use Rattle.rules.proofs.walk.Outcome.{refused_got, test_inv, test_got}
use Rattle.rules.proofs.layout.Fields.{Lawful, spell_named, named_spell, length_spell, length_fits, Bytes-spell}

-- ---- a block's bytes
pub length_block : (t : ℕ) (body rest : List ℕ) → length (block t body ++ rest) ≡ 3 + length body + length rest
unfolding block
length_block t body rest = let l : length (body ++ rest) ≡ length body + length rest = length-append body rest in omega arith

pub length_alone : (t : ℕ) (body : List ℕ) → length (block t body) ≡ 3 + length body
unfolding block
length_alone t body = omega arith

pub full_block : (t : ℕ) (body rest : List ℕ) → full (block t body ++ rest) ≡ true
unfolding block
full_block t body rest = refl

pub Bytes-block : (t : ℕ) (body : List ℕ) → t < 256 → length body < 65_536 → Bytes body → Bytes (block t body)
unfolding block Bytes
Bytes-block t body h l B = (h, Bytes-append (digits 2 (length body)) body (Bytes-digits 2 (length body) l) B)

pub Bytes-fixed : {A : Type 0} (L : Layout A) (W : Lawful L) (a : A) → ok L a ≡ true → Bytes (spell_block L a)
unfolding spell_block
Bytes-fixed L W a e = Bytes-block L.tag (spell_values L.fields (L.listed a)) W.tag_fits (length_fits L W a e) (Bytes-spell L W a e)

module _ (ln at : ℕ) where
  -- ---- the head
  pub header_sound : (s : List ℕ) (h : Head) → Bytes s → header ln at s ≡ got h → (block h.tag h.body ++ h.rest ≡ s) × Bytes h.body × Bytes h.rest
  unfolding header block Bytes
  header_sound [] h B e = refused_got e
  header_sound (t ∷ []) h B e = refused_got e
  header_sound (t ∷ a ∷ []) h B e = refused_got e
  header_sound (t ∷ a ∷ b ∷ s) h B e =
      let n : ℕ = num (a ∷ b ∷ []) in
      let i = test_inv (leb n (length s)) 2 ln at _ e in
      let q : ◌≡◌ {A = Head} (record { tag = t; body = take n s; rest = drop n s }) h = cc in
      let l : n ≤ length s = leb-true n (length s) i.0 in
      let D : digits 2 (length (take n s)) ≡ a ∷ b ∷ [] = rw (length-take-le n s l) (digits_num 2 (a ∷ b ∷ []) (B.1.0, (B.1.1.0, tt)) refl) in
      rw (← q) (ap (λ z. t ∷ (z ++ take n s) ++ drop n s) D ∙ ap (λ z. t ∷ a ∷ b ∷ z) (take-append-drop n s), Bytes-take n s B.1.1.1, Bytes-drop n s B.1.1.1)

  pub header_got : (t : ℕ) (body rest : List ℕ) → length body < 65_536 → header ln at (block t body ++ rest) ≡ got (record { tag = t; body = body; rest = rest })
  unfolding header block
  header_got t body rest l =
      rw (num_digits 2 (length body) l, take-append_seam body rest, drop-append_seam body rest) (test_got _ _ _ _ (le-leb (length body) (length (body ++ rest)) (rw length-append (omega arith))))

  -- The tag is the first byte.
  pub header_tag : (s : List ℕ) (h : Head) → header ln at s ≡ got h → get_or s 0 0 ≡ h.tag
  unfolding header
  header_tag [] h e = refused_got e
  header_tag (t ∷ []) h e = refused_got e
  header_tag (t ∷ a ∷ []) h e = refused_got e
  header_tag (t ∷ a ∷ b ∷ s) h e =
      let n : ℕ = num (a ∷ b ∷ []) in
      let i = test_inv (leb n (length s)) 2 ln at _ e in
      let q : ◌≡◌ {A = Head} (record { tag = t; body = take n s; rest = drop n s }) h = cc in
      ap (λ x. x.tag) q

  -- What a block holds, and what is left after it, is all but its head.
  pub header_splits : (s : List ℕ) (h : Head) → header ln at s ≡ got h → length h.body + length h.rest + 3 ≡ length s
  unfolding header
  header_splits [] h e = refused_got e
  header_splits (t ∷ []) h e = refused_got e
  header_splits (t ∷ a ∷ []) h e = refused_got e
  header_splits (t ∷ a ∷ b ∷ s) h e =
      let n : ℕ = num (a ∷ b ∷ []) in
      let i = test_inv (leb n (length s)) 2 ln at _ e in
      let q : ◌≡◌ {A = Head} (record { tag = t; body = take n s; rest = drop n s }) h = cc in
      let l = leb-true n (length s) i.0 in
      rw (← q) (rw (length-take n s, length-drop n s) (omega arith))

  -- ---- a block of fixed size
  module _ {A : Type 0} (L : Layout A) (W : Lawful L) (room : Bool) where
    pub fixed_sound : (body : List ℕ) (a : A) → Bytes body → fixed ln L room at body ≡ got a → (spell_values L.fields (L.listed a) ≡ body) × (room ≡ true) × (ok L a ≡ true)
    unfolding fixed
    fixed_sound body a B e =
        let x = test_inv (eqb (length body) (size L.fields)) 3 ln at _ e in
        let y = test_inv room 5 ln at _ x.1 in
        let z = test_inv (ok L (L.named (values L.fields body))) 6 ln at _ y.1 in
        let q : L.named (values L.fields body) ≡ a = cc in
        rw (← q) (spell_named L W body B (eqb-true _ _ x.0), y.0, z.0)

    pub fixed_got : (a : A) → room ≡ true → ok L a ≡ true → fixed ln L room at (spell_values L.fields (L.listed a)) ≡ got a
    unfolding fixed
    fixed_got a f e = rw (named_spell L W a e) (test_got _ _ _ _ (eq-eqb _ _ (length_spell L W a e)) ∙ test_got _ _ _ _ f ∙ test_got _ _ _ _ e)
