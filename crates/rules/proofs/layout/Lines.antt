-- Characters and lines: the lines of a text are read exactly where the text spells them.
use mathlib.Core.Path.{◌≡◌, refl, ap, ap₂, sym, ◌∙◌}
use mathlib.Core.Logic.{◌≢◌}
use mathlib.Core.Bool.{Bool, true, false, cond, ◌&&◌}
use mathlib.Core.List.{List, [], ◌∷◌, ◌++◌}
use Prim.Native.Nat.{ℕ, ◌+◌, ◌-◌, ◌*◌, ◌/◌, ◌%◌, ◌<◌}
use native.Mathlib.Omega.{arith}
use lib.Dec.{ltb, leb, eqb}
use lib.ListN.{length}
use borrow.Author.Tests.{ltb-true, ltb-false, leb-true, eqb-true, lt-ltb, le-ltb, le-leb, lt-leb, ne_eqb}
use Rattle.rules.specs.Numbers.{Bytes}
use Rattle.rules.specs.Text.{LF, digit, hex, text, Lines}
use Rattle.rules.specs.Outcome.{refused, got}
use Rattle.rules.specs.Walk.{nibble, unhex, Pieces, put, split, decode, lines_from}
use Rattle.rules.specs.Met.{NoLF}
use Rattle.rules.proofs.walk.Outcome.{refused_got, bind_inv, test_inv, bind_got, test_got}
use Rattle.rules.proofs.layout.Fields.{both_true}

-- Two characters to a byte.
pub length_hex : (s : List ℕ) → length (hex s) ≡ 2 * length s
unfolding hex
length_hex [] = refl
length_hex (b ∷ s) = omega (arith, length_hex s)

-- ---- digits
nibble_sound : (ln c x : ℕ) → nibble ln c ≡ got x → (x < 16) × (digit x ≡ c)
unfolding nibble digit
nibble_sound ln c x e = go (leb 48 c && leb c 57) (leb 65 c && leb c 70) refl refl e
  where
    go : (a b : Bool) → (leb 48 c && leb c 57) ≡ a → (leb 65 c && leb c 70) ≡ b → cond a (got (c - 48)) (cond b (got (c - 55)) (refused 1 ln 0)) ≡ got x
        → (x < 16) × (cond (ltb x 10) (48 + x) (55 + x) ≡ c)
    go true b p q e =
        let z : c - 48 ≡ x = cc in
        let i : (leb 48 c ≡ true) × (leb c 57 ≡ true) = both_true _ _ p in
        (omega (arith, leb-true), rw (lt-ltb x 10 (omega (arith, leb-true))) (omega (arith, leb-true)))
    go false true p q e =
        let z : c - 55 ≡ x = cc in
        let i : (leb 65 c ≡ true) × (leb c 70 ≡ true) = both_true _ _ q in
        (omega (arith, leb-true), rw (le-ltb x 10 (omega (arith, leb-true))) (omega (arith, leb-true)))
    go false false p q e = refused_got e

nibble_got : (ln x : ℕ) → x < 16 → nibble ln (digit x) ≡ got x
unfolding nibble digit
nibble_got ln x h = go (ltb x 10) refl
  where
    go : (a : Bool) → ltb x 10 ≡ a → nibble ln (cond a (48 + x) (55 + x)) ≡ got x
    go true p = rw (le-leb 48 (48 + x) (omega arith), le-leb (48 + x) 57 (omega (arith, ltb-true))) (ap got (omega arith))
    go false p = rw (le-leb 48 (55 + x) (omega arith), lt-leb (55 + x) 57 (omega (arith, ltb-false)), le-leb 65 (55 + x) (omega (arith, ltb-false)), le-leb (55 + x) 70 (omega arith)) (ap got (omega arith))

-- ---- the bytes of a line
pub unhex_sound : (ln : ℕ) (s b : List ℕ) → unhex ln s ≡ got b → (hex b ≡ s) × Bytes b
unfolding unhex hex Bytes
unhex_sound ln [] b e = let q : [] ≡ b = cc in rw (← q) (refl, tt)
unhex_sound ln (c ∷ []) b e = refused_got e
unhex_sound ln (c ∷ d ∷ s) b e =
    let i = bind_inv _ _ e in
    let j = bind_inv _ _ i.2 in
    let k = bind_inv _ _ j.2 in
    let x = nibble_sound ln c i.0 i.1 in
    let y = nibble_sound ln d j.0 j.1 in
    let r = unhex_sound ln s k.0 k.1 in
    let q : (16 * i.0 + j.0) ∷ k.0 ≡ b = cc in
    let u : (16 * i.0 + j.0) / 16 ≡ i.0 = omega (arith, x.0, y.0) in
    let v : (16 * i.0 + j.0) % 16 ≡ j.0 = omega (arith, x.0, y.0) in
    rw (← q) (rw (u, v, x.1, y.1, r.0) refl, (omega (arith, x.0, y.0), r.1))

pub unhex_got : (ln : ℕ) (b : List ℕ) → Bytes b → unhex ln (hex b) ≡ got b
unfolding unhex hex Bytes
unhex_got ln [] B = refl
unhex_got ln (b ∷ s) B =
    bind_got _ (nibble_got ln (b / 16) (omega (arith, B.0))) ∙ bind_got _ (nibble_got ln (b % 16) (omega arith)) ∙ bind_got _ (unhex_got ln s B.1)
    ∙ ap (λ z. got (z ∷ s)) (omega arith)

-- ---- the lines of a text
-- The pieces of a text, with an LF between.
unfoldable pub join : List ℕ → List (List ℕ) → List ℕ
join p [] = p
join p (q ∷ ps) = p ++ (LF ∷ join q ps)

pub join_split : (t : List ℕ) → join (split t).0 (split t).1 ≡ t
unfolding join split put
join_split [] = refl
join_split (c ∷ t) = go (eqb c LF) refl (split t) (join_split t)
  where
    go : (a : Bool) → eqb c LF ≡ a → (s : Pieces) → join s.0 s.1 ≡ t → join (put c a s).0 (put c a s).1 ≡ c ∷ t
    go true p s e = ap₂ ◌∷◌ (sym (eqb-true c LF p)) e
    go false p s e = front s.0 s.1 ∙ ap (c ∷◌) e
      where
        front : (x : List ℕ) (y : List (List ℕ)) → join (c ∷ x) y ≡ c ∷ join x y
        front x [] = refl
        front x (q ∷ y) = refl

decode_sound : (ps : List (List ℕ)) (ln : ℕ) (p : List ℕ) (ls : List (List ℕ)) → decode ln p ps ≡ got ls → (text ls ≡ join p ps) × Lines ls
unfolding decode text Lines join
decode_sound [] ln [] ls e = let q : [] ≡ ls = cc in rw (← q) (refl, tt)
decode_sound [] ln (c ∷ p) ls e = refused_got e
decode_sound (q ∷ ps) ln p ls e =
    let i = bind_inv _ _ e in
    let j = test_inv _ _ _ _ _ i.2 in
    let k = bind_inv _ _ j.1 in
    let b = unhex_sound ln p i.0 i.1 in
    let r = decode_sound ps _ q k.0 k.1 in
    let z : i.0 ∷ k.0 ≡ ls = cc in
    rw (← z) (rw (b.0, r.0) refl, (j.0, b.1, r.1))

digit_no_lf : (n : ℕ) → digit n ≢ LF
unfolding digit
digit_no_lf n = go (ltb n 10)
  where
    go : (a : Bool) → cond a (48 + n) (55 + n) ≢ LF
    go true = λ e. omega arith
    go false = λ e. omega arith

pub hex_no_lf : (b : List ℕ) → NoLF (hex b)
unfolding hex NoLF
hex_no_lf [] = tt
hex_no_lf (b ∷ s) = (digit_no_lf (b / 16), (digit_no_lf (b % 16), hex_no_lf s))

-- A text is cut at its first LF.
pub split_piece : (p t : List ℕ) → NoLF p → split (p ++ (LF ∷ t)) ≡ (p, (split t).0 ∷ (split t).1)
unfolding split put NoLF
split_piece [] t h = refl
split_piece (c ∷ p) t h = rw (ne_eqb c LF h.0, split_piece p t h.1)

decode_got : (ls : List (List ℕ)) (ln : ℕ) → Lines ls → decode ln (split (text ls)).0 (split (text ls)).1 ≡ got ls
unfolding decode text Lines split
decode_got [] ln h = refl
decode_got (l ∷ ls) ln h = rw (split_piece (hex l) (text ls) (hex_no_lf l)) (bind_got _ (unhex_got ln l h.1) ∙ test_got _ _ _ _ h.0 ∙ bind_got _ (decode_got ls (ln + 1) h.2))

-- Where lines are read, the text spells them.
pub lines_sound : (ln : ℕ) (t : List ℕ) (ls : List (List ℕ)) → lines_from ln t ≡ got ls → (text ls ≡ t) × Lines ls
unfolding lines_from
lines_sound ln t ls e = let d = decode_sound (split t).1 ln (split t).0 ls e in (d.0 ∙ join_split t, d.1)

-- Where a text spells lines, they are read.
pub lines_got : (ls : List (List ℕ)) (ln : ℕ) → Lines ls → lines_from ln (text ls) ≡ got ls
unfolding lines_from
lines_got ls ln h = decode_got ls ln h
