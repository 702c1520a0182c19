-- Refusal 1: within 180,000 characters it names the first line that is none, whatever stands behind it, and there is no other; over 180,000 characters it has line 0. What gets another number is lines.
use mathlib.Core.Path.{◌≡◌, refl, ap, sym, ◌∙◌}
use mathlib.Core.Logic.{◌↔◌, ◌≢◌}
use mathlib.Core.Bool.{Bool, true, false}
use mathlib.Core.List.{List, [], ◌∷◌, ◌++◌, append_assoc}
use Prim.Native.Nat.{ℕ, ◌+◌, ◌≤◌, ◌<◌}
use native.Mathlib.Omega.{arith}
use lib.ListN.{length}
use lib.Dec.{leb, eqb}
use borrow.Author.Tests.{leb-true, leb-false, eqb-false, le-leb, lt-leb, ne_eqb}
use Rattle.rules.specs.Numbers.{Bytes, full}
use Rattle.rules.specs.Text.{LF, hex, text, Lines}
use Rattle.rules.specs.Layout.{most_characters}
use Rattle.rules.specs.Outcome.{Ans, refused, got, test, ◌>>=◌, ◌>>◌}
use Rattle.rules.specs.Walk.{unhex, Pieces, put, split, decode, lines_from, read_frames, read}
use Rattle.rules.specs.Met.{NoLF, NoLine, FirstNoLine, bad_line, open_end}
use Rattle.rules.proofs.walk.Outcome.{refused_got, bind_got, bind_refused, test_got, test_refused}
use Rattle.rules.proofs.layout.Lines.{unhex_sound, unhex_got, hex_no_lf, join, join_split, split_piece, lines_sound}
use Rattle.rules.proofs.walk.WholeText.{read_steps}
use Rattle.rules.proofs.walk.Refusals.{Refusal, given, plain, weaker, bind_refusal, test_cases, unhex_refusal, read_frames_refusal}

-- ---- what is no line is refused there
-- The first line, and what follows it.
lines_first : (ln : ℕ) (p t : List ℕ) → NoLF p → lines_from ln (p ++ (LF ∷ t)) ≡ (unhex ln p >>= λ b. test (full b) 1 ln 0 >> (lines_from (ln + 1) t >>= λ r. got (b ∷ r)))
unfolding lines_from decode
lines_first ln p t h = rw (split_piece p t h)

first_bad : (ln : ℕ) (p t : List ℕ) → NoLine p → lines_from ln (p ++ (LF ∷ t)) ≡ refused 1 ln 0
first_bad ln p t N = lines_first ln p t N.0 ∙ go (unhex ln p) refl
  where
    empty : (b : List ℕ) → unhex ln p ≡ got b → (c : Bool) → full b ≡ c → full b ≡ false
    empty b e true f = let u = unhex_sound ln p b e in absurd (N.1 b f u.1 u.0)
    empty b e false f = f

    go : (x : Ans (List ℕ)) → unhex ln p ≡ x → (unhex ln p >>= λ b. test (full b) 1 ln 0 >> (lines_from (ln + 1) t >>= λ r. got (b ∷ r))) ≡ refused 1 ln 0
    go (refused x y z) e = let h = (unhex_refusal ln p).holds x y z e in bind_refused _ (rw (h.0, h.1, h.2) at e)
    go (got b) e = bind_got _ e ∙ test_refused _ _ _ _ (empty b e (full b) refl)

-- A text with no LF is one piece.
split_open : (p : List ℕ) → NoLF p → split p ≡ (p, [])
unfolding split put NoLF
split_open [] h = refl
split_open (c ∷ p) h = rw (ne_eqb c LF h.0, split_open p h.1)

first_open : (ln : ℕ) (p : List ℕ) → NoLF p → 0 < length p → lines_from ln p ≡ refused 1 ln 0
unfolding lines_from decode
first_open ln p h l = rw (split_open p h) (go p l)
  where
    go : (p : List ℕ) → 0 < length p → decode ln p [] ≡ refused 1 ln 0
    go [] l = absurd (omega arith)
    go (c ∷ p) l = refl

-- What is refused is so behind lines.
behind_lines : (front : List (List ℕ)) (ln ln' : ℕ) (t : List ℕ) → Lines front → ln + length front ≡ ln' → lines_from ln' t ≡ refused 1 ln' 0 → lines_from ln (text front ++ t) ≡ refused 1 ln' 0
unfolding text Lines
behind_lines [] ln ln' t B q e = let z : ln ≡ ln' = omega arith in rw z e
behind_lines (l ∷ front) ln ln' t B q e =
    ap (lines_from ln) (append_assoc (hex l) (LF ∷ text front) t) ∙ lines_first ln (hex l) (text front ++ t) (hex_no_lf l)
    ∙ bind_got _ (unhex_got ln l B.1) ∙ test_got _ _ _ _ B.0 ∙ bind_refused _ (behind_lines front (ln + 1) ln' t B.2 (omega arith) e)

read_bad : (front : List (List ℕ)) (t : List ℕ) → Lines front → ((ln : ℕ) → lines_from ln t ≡ refused 1 ln 0) → length (text front ++ t) ≤ most_characters → read (text front ++ t) ≡ refused 1 (1 + length front) 0
read_bad front t B e l = read_steps _ ∙ test_got _ _ _ _ (le-leb _ _ l) ∙ bind_refused _ (behind_lines front 1 (1 + length front) t B refl (e (1 + length front)))

pub bad_line_lem : (front : List (List ℕ)) (p rest : List ℕ) → Lines front → NoLine p → length (text front ++ (p ++ (LF ∷ rest))) ≤ most_characters → read (text front ++ (p ++ (LF ∷ rest))) ≡ refused 1 (1 + length front) 0
bad_line_lem front p rest B N l = read_bad front (p ++ (LF ∷ rest)) B (λ ln. first_bad ln p rest N) l

pub open_line_lem : (front : List (List ℕ)) (p : List ℕ) → Lines front → NoLF p → 0 < length p → length (text front ++ p) ≤ most_characters → read (text front ++ p) ≡ refused 1 (1 + length front) 0
open_line_lem front p B N s l = read_bad front p B (λ ln. first_open ln p N s) l

-- ---- and nothing else is refused with 1
-- What is not read as bytes, at least one, is no line.
no_line : (ln : ℕ) (p : List ℕ) → NoLF p → ((b : List ℕ) → unhex ln p ≡ got b → full b ≡ false) → NoLine p
no_line ln p N h = (N, λ b f B e. let z : unhex ln p ≡ got b = rw (← e) (unhex_got ln b B) in let w = h b z in let q : true ≡ false = cc in let r : ◌≡◌ {A = ℕ} 0 1 = cc in omega arith)

-- One more line in front.
behind_line : {t : List ℕ} {l : ℕ} (b : List ℕ) (l' : ℕ) → full b ≡ true → Bytes b → 1 + l ≡ l' → FirstNoLine t l → FirstNoLine (hex b ++ (LF ∷ t)) l'
unfolding text Lines
behind_line b l' f B q (bad_line front p rest L N) =
    let z : 1 + length (b ∷ front) ≡ l' = omega arith in rw (← (append_assoc (hex b) (LF ∷ text front) (p ++ (LF ∷ rest))), ← z) (bad_line (b ∷ front) p rest (f, B, L) N)
behind_line b l' f B q (open_end front p L N s) = let z : 1 + length (b ∷ front) ≡ l' = omega arith in rw (← (append_assoc (hex b) (LF ∷ text front) p), ← z) (open_end (b ∷ front) p (f, B, L) N s)

-- The pieces of a text have no LF.
NoLFs : List (List ℕ) → Type 0
NoLFs [] = Unit {0}
NoLFs (p ∷ ps) = NoLF p × NoLFs ps

split_no_lf : (t : List ℕ) → NoLF (split t).0 × NoLFs (split t).1
unfolding split put NoLF NoLFs
split_no_lf [] = (tt, tt)
split_no_lf (c ∷ t) = go (eqb c LF) refl (split t) (split_no_lf t)
  where
    go : (a : Bool) → eqb c LF ≡ a → (s : Pieces) → NoLF s.0 × NoLFs s.1 → NoLF (put c a s).0 × NoLFs (put c a s).1
    go true p s h = (tt, (h.0, h.1))
    go false p s h = ((eqb-false c LF p, h.0), h.1)

-- A refusal, of a text whose first line has the number ln.
abbrev pub Bad : ℕ → List ℕ → ℕ → ℕ → ℕ → Type 0
Bad ln t n l o = (n ≡ 1) × (o ≡ 0) × (i : ℕ) × (ln + i ≡ l) × FirstNoLine t (1 + i)

decode_bad : (ps : List (List ℕ)) (ln : ℕ) (p : List ℕ) → NoLF p → NoLFs ps → Refusal (Bad ln (join p ps)) (decode ln p ps)
unfolding decode join NoLFs text Lines
decode_bad [] ln [] N M = given
decode_bad [] ln (c ∷ p) N M = plain (refl, refl, 0, omega arith, open_end [] (c ∷ p) tt N (omega arith))
decode_bad (q ∷ ps) ln p N M =
    bind_refusal _ _
    (record { holds = λ n l o e. let u = (unhex_refusal ln p).holds n l o e in (u.0, u.2, 0, omega (arith, u.1), bad_line [] p (join q ps) tt (no_line ln p N (λ b eb. refused_got (sym e ∙ eb)))) })
    (λ b eb. test_cases _ _ _ _ _
    (λ f. (refl, refl, 0, omega arith, bad_line [] p (join q ps) tt (no_line ln p N (λ b' eb'. let z : b ≡ b' = cc in rw (← z) f))))
    (λ f. bind_refusal _ _ (weaker (λ n l o x. let u = unhex_sound ln p b eb in (x.0, x.1, 1 + x.2, omega (arith, x.3), rw (← u.0) (behind_line b _ f u.1 (omega arith) x.4))) (decode_bad ps (ln + 1) q M.0 M.1)) (λ r er. given)))

pub lines_bad : (ln : ℕ) (t : List ℕ) → Refusal (Bad ln t) (lines_from ln t)
unfolding lines_from
lines_bad ln t = let N = split_no_lf t in rw (join_split t) at (decode_bad (split t).1 ln (split t).0 N.0 N.1)

-- ---- 1, of a text within 180,000 characters
pub one_no_line : (t : List ℕ) → length t ≤ most_characters → (l o : ℕ) → (read t ≡ refused 1 l o) ↔ ((o ≡ 0) × FirstNoLine t l)
one_no_line t c l o = (λ e. only.holds 1 l o (sym walked ∙ e) refl, λ x. rw x.0 (there x.1 c))
  where
    walked : read t ≡ (lines_from 1 t >>= read_frames)
    walked = read_steps t ∙ test_got _ _ _ _ (le-leb _ _ c)

    only : Refusal (λ n l o. n ≡ 1 → (o ≡ 0) × FirstNoLine t l) (lines_from 1 t >>= read_frames)
    only = bind_refusal _ _ (weaker (λ n l o x e. (x.1, rw (← x.3) x.4)) (lines_bad 1 t)) (λ ls els. weaker (λ n l o x e. absurd (omega arith)) (read_frames_refusal ls))

    there : {t : List ℕ} {l : ℕ} → FirstNoLine t l → length t ≤ most_characters → read t ≡ refused 1 l 0
    there (bad_line front p rest L N) c = bad_line_lem front p rest L N c
    there (open_end front p L N s) c = open_line_lem front p L N s c

-- What is refused with another number is lines.
pub lines_unless_one : (t : List ℕ) (n l o : ℕ) → read t ≡ refused n l o → n ≢ 1 → (ls : List (List ℕ)) × Lines ls × (text ls ≡ t) × (length t ≤ most_characters)
lines_unless_one t n l o e h = other.holds n l o e h
  where
    other : Refusal (λ n l o. n ≢ 1 → (ls : List (List ℕ)) × Lines ls × (text ls ≡ t) × (length t ≤ most_characters)) (read t)
    other =
        rw (read_steps t)
        (test_cases _ _ _ _ _ (λ c h. absurd (h refl)) (λ c.
        bind_refusal _ _ (weaker (λ n l o x h. absurd (h x.0)) (lines_bad 1 t)) (λ ls els.
        let s = lines_sound 1 t ls els in
        record { holds = λ n l o e h. (ls, s.1, s.0, leb-true _ _ c) })))

-- ---- 1, of a text over 180,000 characters
pub one_too_long : (t : List ℕ) → (read t ≡ refused 1 0 0) ↔ (most_characters < length t)
one_too_long t = (λ e. go (leb (length t) most_characters) refl e, λ c. read_steps t ∙ test_refused _ _ _ _ (lt-leb _ _ c))
  where
    from_one : {t : List ℕ} {l : ℕ} → FirstNoLine t l → l ≡ 0 → ⊥
    from_one (bad_line front p rest L N) q = omega arith
    from_one (open_end front p L N s) q = omega arith

    go : (b : Bool) → leb (length t) most_characters ≡ b → read t ≡ refused 1 0 0 → most_characters < length t
    go true c e = absurd (from_one ((one_no_line t (leb-true _ _ c) 0 0).0 e).1 refl)
    go false c e = leb-false _ _ c
