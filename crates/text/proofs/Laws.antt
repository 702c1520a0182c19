-- What the line at the front of a text comes to in the document's terms: the text's lines are this line and those after it, or refusal 1.
use mathlib.Core.Path.{◌≡◌, refl, ap, sym, ◌∙◌}
use mathlib.Core.Bool.{Bool, true, false, cond}
use mathlib.Core.List.{List, [], ◌∷◌}
use Prim.Native.Nat.{ℕ, suc, ◌+◌, ◌*◌, ◌<◌}
use native.Mathlib.Omega.{arith}
use lib.Dec.{eqb}
use lib.ListN.{length, drop, length-drop}
use lib.Seq.{drop-drop}
use Rattle.rules.specs.Numbers.{full}
use Rattle.rules.specs.Text.{LF}
use Rattle.rules.specs.Outcome.{refused, got, test, ◌>>=◌, ◌>>◌}
use Rattle.rules.specs.Walk.{unhex, Pieces, put, split, decode, lines_from}
use Rattle.rules.proofs.walk.Outcome.{refused_got, bind_got, bind_refused, test_got, test_refused}
use Rattle.text.specs.Line.{pair_of, before, decoded, over, LineRead, no_line, ended, line_of, LineIs}
use Rattle.std.specs.Prelude.{Option, None, Some, Ok}
use Rattle.text.proofs.Digits.{unhex_says, pair_no_feed}
use Rattle.text.proofs.Decoded.{decoded_half, over_length, over_held}

-- ---- how a text goes on after its pairs: p its pieces, d the bytes of the pairs
After : ℕ → Pieces → List ℕ → List ℕ → Bool → Type 0
After ln p d s true = (p.1 ≡ (split s).0 ∷ (split s).1) × (unhex ln p.0 ≡ got d)
After ln p d s false = unhex ln p.0 ≡ refused 1 ln 0

Left : ℕ → List ℕ → Pieces → List ℕ → List ℕ → Type 0
Left ln t p d [] = p ≡ (t, [])
Left ln t p d (c ∷ s) = After ln p d s (eqb c LF)

module _ (ln a b : ℕ) (s : List ℕ) where
  left_more : (x : ℕ) (p : Pieces) (d rest : List ℕ) → pair_of a b ≡ Some x → Left ln s p d rest → Left ln (a ∷ b ∷ s) (a ∷ b ∷ p.0, p.1) (x ∷ d) rest
  unfolding Left After
  left_more x p d [] e h = rw h
  left_more x p d (c ∷ r) e h = go (eqb c LF) h
    where
      go : (f : Bool) → After ln p d r f → After ln (a ∷ b ∷ p.0, p.1) (x ∷ d) r f
      go true h = (h.0, unhex_says ln a b p.0 ∙ rw e (bind_got _ h.1))
      go false h = unhex_says ln a b p.0 ∙ rw e (bind_refused _ h)

  left_none : pair_of a b ≡ None → Left ln (a ∷ b ∷ s) (split (a ∷ b ∷ s)) [] (a ∷ b ∷ s)
  unfolding Left After split put unhex
  left_none e = go (eqb a LF)
    where
      odd : (f : Bool) → unhex ln (a ∷ (put b f (split s)).0) ≡ refused 1 ln 0
      odd true = refl
      odd false = unhex_says ln a b (split s).0 ∙ rw e

      go : (f : Bool) → After ln (put a f (split (b ∷ s))) [] (b ∷ s) f
      go true = (refl, refl)
      go false = odd (eqb b LF)

left : (ln : ℕ) (t : List ℕ) → Left ln t (split t) (decoded t) (drop (2 * length (decoded t)) t)
unfolding Left After split put unhex decoded
left ln [] = refl
left ln (c ∷ []) = go (eqb c LF)
  where
    go : (f : Bool) → After ln (put c f ([], [])) [] [] f
    go true = (refl, refl)
    go false = refl
left ln (a ∷ b ∷ s) = go (pair_of a b) refl (left ln s)
  where
    go : (p : Option ℕ) → pair_of a b ≡ p → Left ln s (split s) (decoded s) (drop (2 * length (decoded s)) s)
        → Left ln (a ∷ b ∷ s) (split (a ∷ b ∷ s)) (before p (decoded s)) (drop (2 * length (before p (decoded s))) (a ∷ b ∷ s))
    go None e h = left_none ln a b s e
    go (Some x) e h =
        let f = pair_no_feed a b x e in
        let k : 2 * suc (length (decoded s)) ≡ suc (suc (2 * length (decoded s))) = omega arith in
        rw (f.0, f.1, k) (left_more ln a b s x (split s) (decoded s) (drop (2 * length (decoded s)) s) e h)

-- ---- the lines
pub lines_none : (ln : ℕ) → lines_from ln [] ≡ got []
unfolding lines_from split decode
lines_none ln = refl

refused_line : (ln : ℕ) (p : List ℕ) (ps : List (List ℕ)) → unhex ln p ≡ refused 1 ln 0 → decode ln p ps ≡ refused 1 ln 0
unfolding decode unhex
refused_line ln [] [] e = refused_got (sym e)
refused_line ln (c ∷ p) [] e = refl
refused_line ln p (q ∷ ps) e = bind_refused _ e

first_line_lem : (ln : ℕ) (p s d : List ℕ) → unhex ln p ≡ got d → decode ln p ((split s).0 ∷ (split s).1) ≡ (test (full d) 1 ln 0 >> (lines_from (ln + 1) s >>= λ r. got (d ∷ r)))
unfolding decode lines_from
first_line_lem ln p s d e = bind_got _ e

unended_line : (ln : ℕ) (p : List ℕ) → 0 < length p → decode ln p [] ≡ refused 1 ln 0
unfolding decode
unended_line ln [] h = absurd (omega arith)
unended_line ln (c ∷ p) h = refl

module _ (t : List ℕ) where
  not_ended : (s : List ℕ) (f : Bool) → ((ln : ℕ) → After ln (split t) [] s f) → (ln : ℕ) → lines_from ln t ≡ refused 1 ln 0
  unfolding lines_from After
  not_ended s true h ln = rw (h ln).0 (first_line_lem ln (split t).0 s [] (h ln).1 ∙ test_refused _ _ _ _ refl)
  not_ended s false h ln = refused_line ln (split t).0 (split t).1 (h ln)

  some_line : (out : List ℕ) (x : ℕ) (d s : List ℕ) → decoded t ≡ x ∷ d → s ≡ drop (2 * length (x ∷ d) + 1) t → 2 * length (x ∷ d) < length t → (f : Bool) → ((ln : ℕ) → After ln (split t) (x ∷ d) s f)
      → LineIs t (over (x ∷ d) out) (cond f (Ok (Some (length (x ∷ d)))) no_line)
  unfolding lines_from After
  some_line out x d s q e l true h = record {
    some = omega arith;
    within = l;
    line = x ∷ d;
    spelt = sym q;
    long = refl;
    held = λ m a b. over_held m (x ∷ d) out a (rw (over_length (x ∷ d) out) at b);
    lines = λ ln. rw (h ln).0 (first_line_lem ln (split t).0 s (x ∷ d) (h ln).1 ∙ test_got _ _ _ _ refl ∙ rw (← e));
  }
  some_line out x d s q e l false h = λ ln. refused_line ln (split t).0 (split t).1 (h ln)

  ended_line : (out d rest : List ℕ) → decoded t ≡ d → drop (2 * length d) t ≡ rest → ((ln : ℕ) → Left ln t (split t) d rest) → LineIs t (over d out) (ended (length d) rest)
  unfolding ended lines_from Left
  ended_line out [] [] e r h = r
  ended_line out [] (c ∷ s) e r h = not_ended s (eqb c LF) h
  ended_line out (x ∷ d) [] e r h = λ ln. rw (h ln) (unended_line ln t (omega (arith, decoded_half t, ap length e)))
  ended_line out (x ∷ d) (c ∷ s) e r h =
      some_line out x d s e (sym (ap (drop 1) r) ∙ drop-drop 1 (2 * length (x ∷ d)) t) (omega (arith, ap length r, length-drop (2 * length (x ∷ d)) t)) (eqb c LF) h

  -- What `line_at` ensures says what the lines of the text are.
  pub line_is : (kept out : List ℕ) (r : LineRead) → (r ≡ line_of t) × (out ≡ over (decoded t) kept) → LineIs t out r
  unfolding line_of
  line_is kept out r p = rw (p.0, p.1) (ended_line kept (decoded t) (drop (2 * length (decoded t)) t) refl refl (λ ln. left ln t))
