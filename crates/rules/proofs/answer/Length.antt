-- 'The report is one frame and LF, 209 characters', whatever it says: eight verdicts and eleven figures make a body of 0065 bytes. Parts of one size each stand one after the other.
use Prim.Native.Nat.{ℕ, zero, suc, ◌+◌, ◌*◌, ◌<◌}
use mathlib.Core.Path.{◌≡◌, refl, ap, ◌∙◌}
use mathlib.Core.List.{List, [], ◌∷◌, map}
use native.Mathlib.Omega.{arith}
use lib.IntN.{ℤ}
use lib.ListN.{length, take, drop, get_or, length-append, length-map}
use lib.Seq.{take_at, drop-append-add}
use Rattle.rules.specs.Numbers.{digits, twos}
use Rattle.rules.specs.Text.{LF, hex}
use Rattle.rules.specs.Blocks.{block}
use Rattle.rules.specs.Layout.{Reading}
use Rattle.rules.specs.Outcome.{Ans, refused, got}
use Rattle.rules.specs.Loading.{weighed}
use Rattle.rules.specs.Curve.{Loaded, loaded}
use Rattle.rules.specs.Report.{verdict_number, judgement, concat, report_tag, report_body, report_line, report_length}
use Rattle.rules.specs.Answer.{judged, report_of}
use Rattle.rules.proofs.layout.Numbers.{length_digits}
use Rattle.rules.proofs.layout.Lines.{length_hex}
use Rattle.rules.proofs.answer.Steps.{judged_refused, judged_weighed, report_refused, report_judged}

-- ---- parts of one size
unfoldable pub Sized : ℕ → List (List ℕ) → Type 0
Sized m [] = Unit {0}
Sized m (p ∷ ps) = (length p ≡ m) × Sized m ps

pub sized_length : (m : ℕ) (ps : List (List ℕ)) → Sized m ps → length (concat ps) ≡ m * length ps
unfolding Sized concat
sized_length m [] S = omega arith
sized_length m (p ∷ ps) S = rw (length-append p (concat ps), S.0, sized_length m ps S.1) (omega arith)

pub sized_part : (m : ℕ) (ps : List (List ℕ)) → Sized m ps → (d : List ℕ) (i : ℕ) → i < length ps → take m (drop (m * i) (concat ps)) ≡ get_or ps i d
unfolding Sized concat
sized_part m [] S d i h = absurd (omega arith)
sized_part m (p ∷ ps) S d zero h = let e : m * 0 ≡ 0 = omega arith in rw e (take_at p (concat ps) m S.0)
sized_part m (p ∷ ps) S d (suc i) h =
    let e : m * suc i ≡ length p + m * i = omega (arith, S.0) in
    rw (e, drop-append-add p (concat ps) (m * i)) (sized_part m ps S.1 d i (omega arith))

-- Those of the elements of a list.
module _ {A : Type 0} (f : A → List ℕ) (m : ℕ) (size : (x : A) → length (f x) ≡ m) where
  pub sized_map : (xs : List A) → Sized m (map f xs)
  unfolding Sized
  sized_map [] = tt
  sized_map (x ∷ xs) = (size x, sized_map xs)

  pub concat_length : (xs : List A) → length (concat (map f xs)) ≡ m * length xs
  concat_length xs = sized_length m (map f xs) (sized_map xs) ∙ ap (m *◌) (length-map xs f)

-- ---- the report
module _ (number line offset : ℕ) (verdicts : List ℕ) (figures : List ℤ) (eight : length verdicts ≡ 8) (eleven : length figures ≡ 11) where
  pub body_length : length (report_body number line offset verdicts figures) ≡ 0x65
  unfolding report_body digits
  body_length =
      let f : length (concat (map (λ z. digits 8 (twos z)) figures)) ≡ 8 * length figures = concat_length (λ z. digits 8 (twos z)) 8 (λ z. length_digits 8 (twos z)) figures in
      simp length-append (omega arith)

  pub frame_length : length (block report_tag (report_body number line offset verdicts figures)) ≡ 104
  unfolding block digits
  frame_length = omega (arith, body_length)

  pub report_length_lem : length (report_line number line offset verdicts figures) ≡ report_length
  unfolding report_line
  report_length_lem =
      length-append (hex (block report_tag (report_body number line offset verdicts figures))) (LF ∷ [])
      ∙ omega (arith, length_hex (block report_tag (report_body number line offset verdicts figures)), frame_length)

-- ---- of a refusal, and of what is judged
pub refusal_length : (n l o : ℕ) → length (report_of (refused n l o)) ≡ report_length
refusal_length n l o = ap length (report_refused n l o) ∙ report_length_lem n l o _ _ refl refl

pub judgement_length : (c : Loaded) → (length (map verdict_number (judgement c).verdicts) ≡ 8) × (length (judgement c).figures ≡ 11)
unfolding judgement
judgement_length c = (refl, refl)

pub judged_length : (r : Reading) → length (report_of (judged r)) ≡ report_length
judged_length r = go (weighed r) refl
  where
    go : (a : Ans (Unit {0})) → weighed r ≡ a → length (report_of (judged r)) ≡ report_length
    go (refused n l o) e = ap (λ x. length (report_of x)) (judged_refused r e) ∙ refusal_length n l o
    go (got u) e =
        let j = judgement_length (loaded r) in
        ap (λ x. length (report_of x)) (judged_weighed r e) ∙ ap length (report_judged (judgement (loaded r))) ∙ report_length_lem 0 0 0 _ _ j.0 j.1
