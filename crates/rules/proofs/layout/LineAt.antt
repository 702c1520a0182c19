-- Line n of a text: it is one list of characters, it is no longer than the text, and n is no more than there are characters.
use mathlib.Core.Path.{◌≡◌, refl, ap₂, sym}
use mathlib.Core.List.{List, [], ◌∷◌, ◌++◌, append_assoc}
use Prim.Native.Nat.{ℕ, ◌+◌, ◌≤◌}
use native.Mathlib.Omega.{arith}
use lib.ListN.{length, length-append}
use Rattle.rules.specs.Text.{LF, hex, text}
use Rattle.rules.specs.Met.{NoLF}
use Rattle.rules.specs.Places.{LineAt, first_line, open_line, later_line}
use Rattle.rules.proofs.layout.Lines.{hex_no_lf}

-- A text is cut at its first LF in one way.
one_cut : (p p' r r' : List ℕ) → NoLF p → NoLF p' → p ++ (LF ∷ r) ≡ p' ++ (LF ∷ r') → (p ≡ p') × (r ≡ r')
unfolding NoLF
one_cut [] [] r r' N N' e = (refl, cc)
one_cut [] (c ∷ p') r r' N N' e = absurd (N'.0 (let z : LF ≡ c = cc in sym z))
one_cut (c ∷ p) [] r r' N N' e = absurd (N.0 (let z : c ≡ LF = cc in z))
one_cut (c ∷ p) (c' ∷ p') r r' N N' e =
    let q : c ≡ c' = cc in
    let s : p ++ (LF ∷ r) ≡ p' ++ (LF ∷ r') = cc in
    let x = one_cut p p' r r' N.1 N'.1 s in
    (ap₂ ◌∷◌ q x.0, x.1)

-- What has no LF is not cut.
not_cut : (p r t : List ℕ) → NoLF t → p ++ (LF ∷ r) ≡ t → ⊥
unfolding NoLF
not_cut p r t N e = go p (rw (← e) at N)
  where
    go : (p : List ℕ) → NoLF (p ++ (LF ∷ r)) → ⊥
    go [] N = N.0 refl
    go (c ∷ p) N = go p N.1

-- Lines are counted from 1, each takes a character at least, and none is longer than the text.
pub line_fits : {t : List ℕ} {n : ℕ} {p : List ℕ} → LineAt t n p → (1 ≤ n) × (n ≤ length t) × (length p ≤ length t)
line_fits (first_line p rest N) = let L = length-append p (LF ∷ rest) in omega arith
line_fits (open_line p N s) = omega arith
line_fits (later_line q rest N m) = let L = length-append q (LF ∷ rest) in let x = line_fits m in omega arith

-- Line n of a text is one list of characters.
pub line_unique : {t : List ℕ} {n : ℕ} {p p' : List ℕ} → LineAt t n p → LineAt t n p' → p ≡ p'
line_unique a b = go a b refl refl
  where
    go : {t t' : List ℕ} {n n' : ℕ} {p p' : List ℕ} → LineAt t n p → LineAt t' n' p' → t ≡ t' → n ≡ n' → p ≡ p'
    go (first_line p r N) (first_line p' r' N') e q = (one_cut p p' r r' N N' e).0
    go (first_line p r N) (open_line p' N' s') e q = absurd (not_cut p r p' N' e)
    go (first_line p r N) (later_line p' r' N' m') e q = absurd (omega (arith, line_fits m'))
    go (open_line p N s) (first_line p' r' N') e q = absurd (not_cut p' r' p N (sym e))
    go (open_line p N s) (open_line p' N' s') e q = e
    go (open_line p N s) (later_line p' r' N' m') e q = absurd (not_cut p' r' p N (sym e))
    go (later_line p r N m) (first_line p' r' N') e q = absurd (omega (arith, line_fits m))
    go (later_line p r N m) (open_line p' N' s') e q = absurd (not_cut p r p' N' e)
    go (later_line p r N m) (later_line p' r' N' m') e q = go m m' (one_cut p p' r r' N N' e).1 (omega arith)

-- Behind lines that are spelled, they are counted on.
pub line_behind : (front : List (List ℕ)) {t : List ℕ} {n : ℕ} {p : List ℕ} (m : ℕ) → m ≡ length front + n → LineAt t n p → LineAt (text front ++ t) m p
unfolding text
line_behind [] {n = n} m q x = let z : m ≡ n = omega arith in rw z x
line_behind (l ∷ front) {t} {n} {p} m q x =
    let z : m ≡ 1 + (length front + n) = omega arith in
    rw (append_assoc (hex l) (LF ∷ text front) t, z) (later_line (hex l) (text front ++ t) (hex_no_lf l) (line_behind front (length front + n) refl x))
