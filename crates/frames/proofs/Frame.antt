-- The condition: how its answer follows from those for the weather and the load.
use mathlib.Core.Path.{◌≡◌, ap, sym, ◌∙◌}
use mathlib.Core.List.{List}
use Prim.Native.Nat.{ℕ, ◌+◌, ◌≤◌, ◌<◌, ◌^◌}
use native.Mathlib.Omega.{arith}
use lib.ListN.{length}
use Rattle.std.specs.Prelude.{Ok, Err}
use Rattle.std.specs.Borrow.{Bor}
use Rattle.rules.specs.Layout.{Condition, most_bytes}
use Rattle.rules.specs.Outcome.{Ans, refused, got, ◌>>=◌}
use Rattle.rules.specs.Walk.{header, weather_at, load_at, inside}
use Rattle.rules.specs.Walk as walk
use Rattle.rules.specs.Parts.{part, head_at}
use Rattle.rules.proofs.layout.Parts.{length_part}
use Rattle.rules.proofs.walk.Outcome.{bind_got, bind_refused}
use Rattle.rules.proofs.walk.FrameExits.{inside_none, inside_short, inside_block}
use Rattle.book.specs.Book.{refusal, answered, plain_weather, sums_of}
use Rattle.book.specs.declared.Place.{Place}
use Rattle.book.specs.declared.Refusal.{Refusal}
use Rattle.book.specs.declared.Sums.{Sums}
use Rattle.book.specs.declared.Weather.{Weather}
use Rattle.blocks.proofs.Answered.{Refused, Got, passed_on}
use Rattle.cursor.specs.Readers.{OverPart}
use Rattle.cursor.specs.declared.Reader.{Reader}
use Rattle.frames.specs.Sums.{none}
use Rattle.frames.specs.FrameAnswers.{on_top, plain_condition}
use Rattle.frames.proofs.Adding.{plus_none}

-- A condition line, whose head is read.
module _ (ln len : ℕ) (s : Bor (List ℕ)) (l : 3 + len ≤ length s.now) where
  abbrev Whole : Ans Condition
  Whole = inside ln (part 3 (3 + len) s.now)

  pub nothing_inside : len ≡ 0 → Whole ≡ refused 5 ln 0
  nothing_inside z = inside_none ln _ (length_part s.now 3 (3 + len) l ∙ omega arith)

-- A reader over its body.
module _ (ln len : ℕ) (s : Bor (List ℕ)) (l : 3 + len ≤ length s.now) (f b : Reader) (new : (f.src ≡ s) × (f.place ≡ record { line = ln; offset = 0 })) (part-of : OverPart f 3 (3 + len) b) where
  is : b.src.now ≡ part 3 (3 + len) s.now
  is = part-of.bytes ∙ ap (λ (x : Bor (List ℕ)). part 3 (3 + len) x.now) new.0

  at : b.place ≡ record { line = ln; offset = 3 }
  at = part-of.place ∙ ap (λ (p : Place). record { line = p.line; offset = p.offset + 3 }) new.1

  body_length : length b.src.now ≡ len
  body_length = ap length is ∙ length_part s.now 3 (3 + len) l ∙ omega arith

  here : {m : Ans walk.Head} → header b.place.line b.place.offset b.src.now ≡ m → header ln 3 (part 3 (3 + len) s.now) ≡ m
  here h = rw (is, at) at h

  pub head_refused : 0 < len → (o : ℕ) (x : Refusal) → (x ≡ refusal 2 b.place.line o) × (header b.place.line o b.src.now ≡ refused 2 b.place.line o) → o ≡ b.place.offset → Err x ≡ answered plain_condition (Whole ln len s l)
  head_refused z k x i same =
      let h : (x ≡ refusal 2 b.place.line b.place.offset) × (header b.place.line b.place.offset b.src.now ≡ refused 2 b.place.line b.place.offset) = rw same at i in
      let e : x ≡ refusal 2 ln 3 = h.0 ∙ ap (λ (p : Place). refusal 2 p.line p.offset) at in
      let o : header ln 3 (part 3 (3 + len) s.now) ≡ refused 2 ln 3 = here h.1 ∙ ap (λ (p : Place). refused 2 p.line p.offset) at in
      ap Err e ∙ sym (ap (answered plain_condition) (inside_short ln _ (rw (← body_length, is) at z) o))

  pub inside_part : (n : ℕ) → len ≤ most_bytes → 3 + n ≤ length b.src.now → b.place.offset + (3 + n) < 2 ^ 64
  inside_part n m h = rw at (omega (arith, body_length))

  -- Its first block, of n bytes.
  module _ (tag n o : ℕ) (h : (3 + n ≤ length b.src.now) × (header b.place.line o b.src.now ≡ got (head_at tag n b.src.now))) (same : o ≡ b.place.offset) where
    first : Whole ln len s l ≡ (weather_at ln tag (part 3 (3 + n) b.src.now) >>= λ w. load_at ln (6 + n) (part (3 + n) (length b.src.now) b.src.now) >>= λ e. got (record { weather = w; load = e }))
    first = sym (ap (inside ln) is) ∙ inside_block ln _ tag n h.0 (rw (same, at) at h.1)

    module _ (i : Reader) (p : OverPart b 3 (3 + n) i) where
      pub weather_refused : (x : Refusal) → Refused (weather_at ln tag i.src.now) x → Err x ≡ answered plain_condition (Whole ln len s l)
      weather_refused x r = passed_on plain_condition _ _ x r (λ a o e q. first ∙ bind_refused _ (rw p.bytes at q))

      -- What stands after it.
      pub rest_length : (r : Reader) → OverPart b (3 + n) (length b.src.now) r → r.place.offset + length r.src.now ≡ 3 + len
      rest_length r q = rw (q.place, q.bytes, at) (omega (arith, length_part b.src.now (3 + n) (length b.src.now) (omega arith), body_length, h.0))

      module _ (w : Weather) (g : Got plain_weather (weather_at ln tag i.src.now) w) (r : Reader) (q : OverPart b (3 + n) (length b.src.now) r) where
        after : Whole ln len s l ≡ (load_at r.place.line r.place.offset r.src.now >>= λ e. got (record { weather = g.value; load = e }))
        after =
            let o : 3 + (3 + n) ≡ 6 + n = omega arith in
            first ∙ bind_got _ (rw p.bytes at g.is) ∙ rw (q.place, q.bytes, at, o)

        pub load_refused : (x : Refusal) → Refused (load_at r.place.line r.place.offset r.src.now) x → Err x ≡ answered plain_condition (Whole ln len s l)
        load_refused x e = passed_on plain_condition _ _ x e (λ a o k j. after ∙ bind_refused _ j)

        pub condition_got : (t : Sums) → Got (on_top none) (load_at r.place.line r.place.offset r.src.now) t → Ok (record { weather = w; sums = t }) ≡ answered plain_condition (Whole ln len s l)
        condition_got t e =
            let k : t ≡ sums_of e.value = e.told ∙ plus_none (sums_of e.value) in
            rw (k, g.told) (sym (ap (answered plain_condition) (after ∙ bind_got _ e.is)))
