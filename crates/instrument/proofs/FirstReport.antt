-- The number sent back for a booklet is that of its first report with another number than 0.
use mathlib.Core.Path.{◌≡◌, refl, sym, ◌∙◌}
use mathlib.Core.List.{List}
use mathlib.Core.Logic.{◌↔◌, ◌⊎◌, inl, inr}
use Prim.Native.Nat.{ℕ, ◌+◌, ◌≤◌, ◌<◌}
use native.Mathlib.Omega.{arith}
use lib.ListN.{length}
use Rattle.rules.specs.Blocks.{Ship, Row}
use Rattle.rules.specs.Layout.{most_characters}
use Rattle.rules.specs.Outcome.{Ans, refused, got}
use Rattle.rules.specs.Report.{Judgement}
use Rattle.rules.specs.Apart.{AllowedWhole}
use Rattle.rules.specs.Answer.{number_of, answer_of_line, answers, answer}
use Rattle.rules.proofs.booklet.Conditions.{answer_refusal}
use Rattle.rules.proofs.booklet.Sent.{answers_length}
use Rattle.rules.proofs.booklet.Alone.{answer_at}
use Rattle.instrument.specs.Reported.{report_in, HasNumber, RefusedWhole, EachAnswered}
use Rattle.instrument.proofs.Numbered.{number_reported, number_told}
use Rattle.instrument.proofs.FirstNumber.{number_at, zero_iff_all, first_of}
use Rattle.instrument.proofs.Replies.{Run, numbered_first, report_at, every}

to_8 : (s : Ship) (vs : List Row) (ln : ℕ) (l : List ℕ) → number_of (answer_of_line s vs ln l) ≤ 8
to_8 s vs ln l = go (answer_of_line s vs ln l) refl
  where
    go : (a : Ans Judgement) → answer_of_line s vs ln l ≡ a → number_of a ≤ 8
    go (refused n m o) e = ((answer_refusal s vs ln l).holds n m o e).1
    go (got j) e = omega arith

module _ {t before : List ℕ} {n : ℕ} {after : List ℕ} (run : Run t before n after) (a : AllowedWhole most_characters t) where
  abbrev count : ℕ
  count = length a.0.conditions

  as_many : length (answers a.0) ≡ count
  as_many = answers_length a.0.ship a.0.rows a.0.conditions (2 + length a.0.rows)

  module _ (k : ℕ) (h : k < count) where
    has_own : HasNumber (number_at (answers a.0) k) (report_in k after)
    has_own = rw (report_at run a k h) (number_reported (answer a.0 k))

    zero_iff : HasNumber 0 (report_in k after) ↔ (number_at (answers a.0) k ≡ 0)
    zero_iff =
        let e : number_at (answers a.0) k ≤ 8 = rw (answer_at a.0 k h) (to_8 _ _ _ _) in
        (λ z. number_told _ 0 e (omega arith) (sym has_own ∙ z), λ z. rw z at has_own)

  pub first_sent : ((n ≡ 0) ↔ ((k : ℕ) → k < count → HasNumber 0 (report_in k after)))
      × (1 ≤ n → (k : ℕ) × (k < count) × HasNumber n (report_in k after) × ((i : ℕ) → i < k → HasNumber 0 (report_in i after)))
  first_sent =
      let f = numbered_first run a in
      let z = zero_iff_all (answers a.0) in (
        (λ e k h. (zero_iff k h).1 (z.0 (sym f ∙ e) k (omega (arith, as_many))), λ g. f ∙ z.1 (λ k h. (zero_iff k (omega (arith, as_many))).0 (g k (omega (arith, as_many))))),
        λ h.
            let x = first_of (answers a.0) (omega arith) in
            let c = as_many in
            let k : x.0 < count = omega (arith, x.1) in
            (x.0, k, (rw (x.2 ∙ sym f) at (has_own x.0 k)), λ i g. (zero_iff i (omega arith)).1 (x.3 i g)),
      )

-- No text that is refused for the whole has 0.
pub zero_sent : {t before : List ℕ} {n : ℕ} {after : List ℕ} → Run t before n after
    → (n ≡ 0) ↔ ((a : AllowedWhole most_characters t) × ((k : ℕ) → k < length a.0.conditions → HasNumber 0 (report_in k after)))
zero_sent {t} {before} {n} {after} run = (λ z. go z (every run).2, λ x. (first_sent run x.0).0.1 x.1)
  where
    go : n ≡ 0 → RefusedWhole t before n after ⊎ EachAnswered t before n after → (a : AllowedWhole most_characters t) × ((k : ℕ) → k < length a.0.conditions → HasNumber 0 (report_in k after))
    go z (inl r) = absurd (omega (arith, r.unread))
    go z (inr x) = (x.allowed, (first_sent run x.allowed).0.0 z)
