-- The condition line at the front of a text, one fact for each way out; and condition lines one after the other.
use mathlib.Core.Path.{◌≡◌, refl, ap, sym, ◌∙◌}
use mathlib.Core.List.{List, [], ◌∷◌}
use Prim.Native.Nat.{ℕ, ◌+◌, ◌*◌, ◌≤◌, ◌<◌}
use native.Mathlib.Omega.{arith}
use lib.ListN.{length, take, drop}
use lib.Seq.{take_all}
use Rattle.std.specs.Prelude.{None, Some, Result, Ok, Err}
use Rattle.std.specs.Option.{option_flatten}
use Rattle.std.specs.Result.{result_ok}
use Rattle.rules.specs.Outcome.{got}
use Rattle.rules.specs.Walk.{lines_from}
use Rattle.rules.specs.Booklet.{condition_at}
use Rattle.rules.specs.Parts.{be2}
use Rattle.book.specs.Book.{answered}
use Rattle.book.specs.declared.Refusal.{Refusal}
use Rattle.rules.proofs.walk.Outcome.{refused_got, bind_inv}
use Rattle.text.specs.Line.{decoded, over, LineRead, line_of, LineIs}
use Rattle.text.proofs.Decoded.{over_held, over_length}
use Rattle.text.proofs.Ended.{line_long}
use Rattle.text.proofs.Laws.{line_is, lines_none}
use Rattle.frames.specs.Sizes.{condition_bytes}
use Rattle.frames.specs.FrameAnswers.{plain_condition, long_condition}
use Rattle.frames.specs.declared.Condition.{Condition}
use Rattle.frames.proofs.LongLines.{long_condition_lem}
use Rattle.reading.specs.TextAnswers.{no_line, line_read, condition_line}

-- A line.
pub line_some : (r : LineRead) (n : ℕ) → option_flatten (result_ok r) ≡ Some n → r ≡ Ok (Some n)
line_some (Ok (Some m)) n q = ap Ok q
line_some (Ok None) n q = absurd (let z : ◌≡◌ {A = ℕ} 0 1 = cc in omega arith)
line_some (Err x) n q = absurd (let z : ◌≡◌ {A = ℕ} 0 1 = cc in omega arith)

-- The length in the head is that of the buffer's head.
head_alike : (b out : List ℕ) → 3 ≤ length b → 3 ≤ length out → be2 (over b out) 1 ≡ be2 b 1
unfolding over
head_alike (x ∷ y ∷ z ∷ b) (o ∷ p ∷ q ∷ out) h k = refl
head_alike [] out h k = absurd (omega arith)
head_alike (x ∷ []) out h k = absurd (omega arith)
head_alike (x ∷ y ∷ []) out h k = absurd (omega arith)
head_alike (x ∷ y ∷ z ∷ b) [] h k = absurd (omega arith)
head_alike (x ∷ y ∷ z ∷ b) (o ∷ []) h k = absurd (omega arith)
head_alike (x ∷ y ∷ z ∷ b) (o ∷ p ∷ []) h k = absurd (omega arith)

module _ (ln : ℕ) (t : List ℕ) (r : LineRead) (e : r ≡ line_of t) where
  -- No line.
  pub line_none : option_flatten (result_ok r) ≡ None → no_line ln ≡ condition_line ln t
  unfolding condition_line
  line_none q = rw (← e) (go r q)
    where
      go : (r : LineRead) → option_flatten (result_ok r) ≡ None → no_line ln ≡ line_read ln (decoded t) r
      go (Ok (Some n)) q = absurd (let z : ◌≡◌ {A = ℕ} 0 1 = cc in omega arith)
      go (Ok None) q = refl
      go (Err x) q = refl

  module _ (n : ℕ) (is : r ≡ Ok (Some n)) (bytes out : List ℕ) (f : out ≡ over (decoded t) bytes) (room : length bytes ≡ condition_bytes) where
    long : length (decoded t) ≡ n
    long = line_long t n (sym e ∙ is)

    some : (x : Result Condition Refusal) → x ≡ answered plain_condition (condition_at ln (decoded t)) → (k : ℕ) → k ≡ 2 * n + 1 → record { read = x; taken = k } ≡ condition_line ln t
    unfolding condition_line
    some x p k q = rw (p, q, ← e, is)

    -- One that is longer than any condition, by its head.
    pub line_head : condition_bytes < n → (x : Refusal) → x ≡ long_condition ln (be2 out 1) n → record { read = Err x; taken = 2 * n + 1 } ≡ condition_line ln t
    line_head h x p =
        some (Err x)
        (ap Err (p ∙ rw (f, head_alike (decoded t) bytes (omega (arith, long)) (omega arith), ← long)) ∙ sym (long_condition_lem ln (decoded t) (omega (arith, long))))
        _ refl

    -- One of which the buffer holds the whole.
    pub line_whole : n ≤ condition_bytes → (x : Result Condition Refusal) → x ≡ answered plain_condition (condition_at ln (take n out)) → record { read = x; taken = 2 * n + 1 } ≡ condition_line ln t
    line_whole h x p =
        some x
        (p ∙ ap (λ l. answered plain_condition (condition_at ln l)) (ap (take n) f ∙ over_held n (decoded t) bytes (omega (arith, long)) (omega arith) ∙ take_all n (decoded t) (omega (arith, long))))
        _ refl

-- The buffer is as long afterwards.
pub room_kept : (t bytes out : List ℕ) → out ≡ over (decoded t) bytes → length out ≡ length bytes
room_kept t bytes out e = ap length e ∙ over_length (decoded t) bytes

-- ---- line after line
-- A text that is lines, and is not empty, begins with one; behind it stand the others.
module _ (ln : ℕ) (t : List ℕ) (cs : List (List ℕ)) (e : lines_from ln t ≡ got cs) where
  pub record FirstLine : Type 0 where
    pub line : List ℕ
    pub others : List (List ℕ)
    pub both : cs ≡ line ∷ others
    pub read : condition_line ln t ≡ record { read = answered plain_condition (condition_at ln line); taken = 2 * length line + 1 }
    pub within : 2 * length line + 1 ≤ length t
    pub behind : lines_from (ln + 1) (drop (2 * length line + 1) t) ≡ got others

  pub first_line_lem : 0 < length t → FirstLine
  unfolding condition_line
  first_line_lem h = go (line_of t) refl (line_is t [] (over (decoded t) []) (line_of t) (refl, refl))
    where
      go : (r : LineRead) → line_of t ≡ r → LineIs t (over (decoded t) []) r → FirstLine
      go (Ok None) q p = absurd (let z = ap length p in omega arith)
      go (Err x) q p = refused_got (sym (p ln) ∙ e)
      go (Ok (Some n)) q p =
          let b = bind_inv _ _ (sym (p.lines ln) ∙ e) in
          let z : p.line ∷ b.0 ≡ cs = cc in
          let k : n ≡ length p.line = sym p.long in
          record {
            line = p.line;
            others = b.0;
            both = sym z;
            read = ap (line_read ln (decoded t)) q ∙ rw (k, p.spelt);
            within = omega (arith, p.within, p.long);
            behind = rw p.long b.1;
          }

-- An empty text has none.
pub no_more : (ln : ℕ) (cs : List (List ℕ)) (t : List ℕ) → lines_from ln t ≡ got cs → length t ≡ 0 → cs ≡ []
no_more ln cs [] e h = let z : got [] ≡ got cs = sym (lines_none ln) ∙ e in let w : [] ≡ cs = cc in sym w
no_more ln cs (c ∷ t) e h = absurd (omega arith)
