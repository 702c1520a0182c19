-- Every refusal by the walk has a number from 1 to 6, or 10 at a row, and the line and an offset of what is being read; and so a text is refused exactly when it is not allowed.
use mathlib.Core.Path.{◌≡◌, refl, sym, ◌∙◌}
use mathlib.Core.Logic.{◌↔◌, ◌≢◌}
use mathlib.Core.Bool.{Bool, true, false, cond, ◌&&◌}
use mathlib.Core.List.{List, [], ◌∷◌}
use Prim.Native.Nat.{ℕ, zero, suc, ◌+◌, ◌-◌, max, ◌≤◌, ◌<◌}
use native.Mathlib.Omega.{arith}
use lib.ListN.{length}
use lib.Dec.{ltb, leb, eqb}
use borrow.Author.Tests.{leb-false}
use Rattle.rules.specs.Numbers.{num}
use Rattle.rules.specs.Blocks.{Layout, ship, row, condition_tag, Set, weather, ordinary, cargo, item, tank, entry, group_tag}
use Rattle.rules.specs.Layout.{Reading, leaves, most_depth, most_entries, Allowed}
use Rattle.rules.specs.Outcome.{Ans, refused, got, test, ◌>>=◌, ◌>>◌, Unread}
use Rattle.rules.specs.Walk.{nibble, unhex, split, decode, lines_from, Head, header, fixed, Tag, load, nested, tag_of, Block, one, nest, begun, block_at, Walk, step, walk, entries, sets, among, chosen, weather_at, load_at, inside, condition_in, fixed_in, ship_frame, row_in, Frame, a_row, a_condition, frame_of, Found, table_row, the_condition, found, frame_at, closed, after, tail, read_frames, read}
use Rattle.rules.specs.Parts.{be2}
use Rattle.rules.proofs.walk.Outcome.{refused_got}
use Rattle.rules.proofs.layout.Parts.{full_length}
use Rattle.rules.proofs.walk.Heads.{header_splits}
use Rattle.rules.proofs.walk.WholeText.{read_steps, read_allowed}

-- What holds of the refusal, where an answer is one.
pub record Refusal {A : Type 0} (P : ℕ → ℕ → ℕ → Type 0) (m : Ans A) : Type 0 where
  pub holds : (n l o : ℕ) → m ≡ refused n l o → P n l o

pub given : {A : Type 0} {P : ℕ → ℕ → ℕ → Type 0} {a : A} → Refusal P (got a)
given = record { holds = λ n l o e. refused_got (sym e) }

-- The answer is this refusal.
pub plain : {A : Type 0} {P : ℕ → ℕ → ℕ → Type 0} {n l o : ℕ} → P n l o → Refusal {A = A} P (refused n l o)
plain {P = P} {n = n} {l = l} {o = o} h = record { holds = λ n' l' o' e. let a : n ≡ n' = cc in let b : l ≡ l' = cc in let c : o ≡ o' = cc in rw (← a, ← b, ← c) h }

pub weaker : {A : Type 0} {P Q : ℕ → ℕ → ℕ → Type 0} {m : Ans A} → ((n l o : ℕ) → P n l o → Q n l o) → Refusal P m → Refusal Q m
weaker f h = record { holds = λ n l o e. f n l o (h.holds n l o e) }

pub bind_refusal : {A B : Type 0} {P : ℕ → ℕ → ℕ → Type 0} (m : Ans A) (k : A → Ans B) → Refusal P m → ((a : A) → m ≡ got a → Refusal P (k a)) → Refusal P (m >>= k)
unfolding ◌>>=◌
bind_refusal (refused n l o) k f g = plain (f.holds n l o refl)
bind_refusal (got a) k f g = g a refl

-- A test, with what it came to; the same with no use of that; and a test with nothing behind it.
pub test_cases : {B : Type 0} {P : ℕ → ℕ → ℕ → Type 0} (c : Bool) (n l o : ℕ) (k : Ans B) → (c ≡ false → P n l o) → (c ≡ true → Refusal P k) → Refusal P (test c n l o >> k)
unfolding ◌>>◌ test
test_cases true n l o k a f = f refl
test_cases false n l o k a f = plain (a refl)

pub test_refusal : {B : Type 0} {P : ℕ → ℕ → ℕ → Type 0} (c : Bool) (n l o : ℕ) (k : Ans B) → P n l o → Refusal P k → Refusal P (test c n l o >> k)
test_refusal c n l o k a f = test_cases c n l o k (λ z. a) (λ z. f)

pub last_refusal : {P : ℕ → ℕ → ℕ → Type 0} (c : Bool) (n l o : ℕ) → P n l o → Refusal P (test c n l o)
unfolding test
last_refusal true n l o a = given
last_refusal false n l o a = plain a

-- A number from k to 6: from 2 on where a head is read, from 3 on behind it.
abbrev pub NumberFrom : ℕ → ℕ → Type 0
NumberFrom k n = (k ≤ n) × (n ≤ 6)

-- From k to 6, or 10: where there are rows; and that one at offset 0.
abbrev pub UnreadFrom : ℕ → ℕ → Type 0
UnreadFrom k n = (k ≤ n) × Unread n

abbrev pub UnreadAt : ℕ → ℕ → ℕ → Type 0
UnreadAt k n o = UnreadFrom k n × (6 < n → o ≡ 0)

-- Then also: at this line and offset; at this line, from one offset on and before another; at this line and offset 0, of a row; at this line before an offset, of any frame; at no line before.
abbrev pub At : ℕ → ℕ → ℕ → ℕ → ℕ → ℕ → Type 0
At k ln at n l o = NumberFrom k n × (l ≡ ln) × (o ≡ at)

abbrev pub Between : ℕ → ℕ → ℕ → ℕ → ℕ → ℕ → Type 0
Between ln at e n l o = NumberFrom 2 n × (l ≡ ln) × (at ≤ o) × (o < e)

abbrev pub OfRow : ℕ → ℕ → ℕ → ℕ → ℕ → Type 0
OfRow k ln n l o = UnreadFrom k n × (l ≡ ln) × (o ≡ 0)

abbrev pub InFrame : ℕ → ℕ → ℕ → ℕ → ℕ → Type 0
InFrame ln e n l o = UnreadAt 2 n o × (l ≡ ln) × (o < e)

abbrev pub NotBefore : ℕ → ℕ → ℕ → ℕ → Type 0
NotBefore ln n l o = UnreadFrom 2 n × (ln ≤ l)

-- ---- lines
-- This line is none.
abbrev pub NoLineAt : ℕ → ℕ → ℕ → ℕ → Type 0
NoLineAt ln n l o = (n ≡ 1) × (l ≡ ln) × (o ≡ 0)

module _ (ln : ℕ) where
  nibble_refusal : (c : ℕ) → Refusal (NoLineAt ln) (nibble ln c)
  unfolding nibble
  nibble_refusal c = go (leb 48 c && leb c 57) (leb 65 c && leb c 70)
    where
      go : (a b : Bool) → Refusal (NoLineAt ln) (cond a (got (c - 48)) (cond b (got (c - 55)) (refused 1 ln 0)))
      go true b = given
      go false true = given
      go false false = plain (omega arith)

  pub unhex_refusal : (s : List ℕ) → Refusal (NoLineAt ln) (unhex ln s)
  unfolding unhex
  unhex_refusal [] = given
  unhex_refusal (c ∷ []) = plain (omega arith)
  unhex_refusal (c ∷ d ∷ s) = bind_refusal _ _ (nibble_refusal c) (λ x ex. bind_refusal _ _ (nibble_refusal d) (λ y ey. bind_refusal _ _ (unhex_refusal s) (λ r er. given)))

decode_refusal : (ps : List (List ℕ)) (ln : ℕ) (p : List ℕ) → Refusal (λ n l o. NumberFrom 1 n) (decode ln p ps)
unfolding decode
decode_refusal [] ln [] = given
decode_refusal [] ln (c ∷ p) = plain (omega arith)
decode_refusal (q ∷ ps) ln p = bind_refusal _ _ (weaker (λ n l o h. omega arith) (unhex_refusal ln p)) (λ b eb. test_refusal _ _ _ _ _ (omega arith) (bind_refusal _ _ (decode_refusal ps (ln + 1) q) (λ r er. given)))

lines_refusal : (ln : ℕ) (t : List ℕ) → Refusal (λ n l o. NumberFrom 1 n) (lines_from ln t)
unfolding lines_from
lines_refusal ln t = decode_refusal (split t).1 ln (split t).0

-- ---- blocks and entries
module _ (ln : ℕ) where
  -- Of a head: there are fewer bytes than it and its length ask for.
  abbrev Short : ℕ → List ℕ → ℕ → ℕ → ℕ → Type 0
  Short at s n l o = (n ≡ 2) × (l ≡ ln) × (o ≡ at) × (length s < 3 + be2 s 1)

  pub header_refusal : (at : ℕ) (s : List ℕ) → Refusal (Short at s) (header ln at s)
  unfolding header num
  header_refusal at [] = plain (omega arith)
  header_refusal at (t ∷ []) = plain (omega arith)
  header_refusal at (t ∷ a ∷ []) = plain (omega arith)
  header_refusal at (t ∷ a ∷ b ∷ s) = test_cases _ _ _ _ _ (λ c. omega (arith, leb-false (num (a ∷ b ∷ [])) (length s) c)) (λ c. given)

  fixed_refusal : {A : Type 0} (L : Layout A) (room : Bool) (at : ℕ) (body : List ℕ) → Refusal (At 3 ln at) (fixed ln L room at body)
  unfolding fixed
  fixed_refusal L room at body = test_refusal _ _ _ _ _ (omega arith) (test_refusal _ _ _ _ _ (omega arith) (test_refusal _ _ _ _ _ (omega arith) given))

  tag_of_refusal : (at t : ℕ) → Refusal (At 3 ln at) (tag_of ln at t)
  unfolding tag_of
  tag_of_refusal at t = go (eqb t (entry item).tag) (eqb t (entry (tank ordinary)).tag) (eqb t (entry (tank cargo)).tag) (eqb t group_tag)
    where
      go : (a b c d : Bool) → Refusal (At 3 ln at) (cond a (got (load item)) (cond b (got (load (tank ordinary))) (cond c (got (load (tank cargo))) (cond d (got nested) (refused 4 ln at)))))
      go true b c d = given
      go false true c d = given
      go false false true d = given
      go false false false true = given
      go false false false false = plain (omega arith)

  pub block_refusal : (d n at t : ℕ) (body : List ℕ) → Refusal (At 3 ln at) (block_at ln d n at t body)
  unfolding block_at begun
  block_refusal d n at t body = bind_refusal _ _ (tag_of_refusal at t) (λ x ex. go x)
    where
      go : (x : Tag) → Refusal (At 3 ln at) (begun ln d n at body x)
      go (load k) = bind_refusal _ _ (fixed_refusal (entry k) (ltb 0 n) at body) (λ v ev. given)
      go nested = test_refusal _ _ _ _ _ (omega arith) (test_refusal _ _ _ _ _ (omega arith) given)

  -- A walk whose refusals stand among the bytes that it walks over, if they are fewer than m.
  abbrev Fair : ℕ → Walk → Type 0
  Fair m w = (d n at : ℕ) (s : List ℕ) → length s < m → Refusal (Between ln at (at + length s)) (w d n at s)

  step_refusal : (w : Walk) (m : ℕ) → Fair m w → (d n at e : ℕ) (h : Head) → length h.body + length h.rest < m → at + 3 + length h.body + length h.rest ≤ e → (b : Block) → Refusal (Between ln at e) (step ln w d n at h b)
  unfolding step
  step_refusal w m W d n at e h p q b = go b
    where
      rest : (d n : ℕ) → Refusal (Between ln at e) (w d n (at + 3 + length h.body) h.rest)
      rest d n = weaker (λ n l o x. omega arith) (W d n (at + 3 + length h.body) h.rest (omega arith))

      go : (b : Block) → Refusal (Between ln at e) (step ln w d n at h b)
      go (one k v) = bind_refusal _ _ (rest d (n - 1)) (λ r er. given)
      go nest = bind_refusal _ _ (weaker (λ n l o x. omega arith) (W (d - 1) n (at + 3) h.body (omega arith))) (λ g eg. bind_refusal _ _ (rest d (n - leaves g)) (λ r er. given))

  -- The steps of the walk are never used up.
  walk_refusal : (f : ℕ) → Fair f (walk ln f)
  unfolding walk
  walk_refusal zero d n at s l = absurd (omega arith)
  walk_refusal (suc f) d n at [] l = given
  walk_refusal (suc f) d n at (x ∷ s) l =
      bind_refusal _ _ (weaker (λ n l o x. omega arith) (header_refusal at (x ∷ s))) (λ h eh. bind_refusal _ _ (weaker (λ n l o x. omega arith) (block_refusal d n at h.tag h.body)) (λ b eb.
      let p = header_splits ln at (x ∷ s) h eh in
      step_refusal (walk ln f) f (walk_refusal f) d n at _ h (omega arith) (omega arith) b))

  pub entries_refusal : (d n at : ℕ) (s : List ℕ) → Refusal (Between ln at (at + length s)) (entries ln d n at s)
  unfolding entries
  entries_refusal d n at s = walk_refusal (suc (length s)) d n at s (omega arith)

  -- ---- the condition and the frames
  among_refusal : (t : ℕ) (ss : List Set) → Refusal (At 3 ln 3) (among ln t ss)
  unfolding among
  among_refusal t [] = plain (omega arith)
  among_refusal t (s ∷ ss) = go (eqb t (weather s).tag) (among_refusal t ss)
    where
      go : (b : Bool) → Refusal (At 3 ln 3) (among ln t ss) → Refusal {A = Set} (At 3 ln 3) (elim b [ true ↦ got s | false ↦ among ln t ss ])
      go true f = given
      go false f = f

  chosen_refusal : (t : ℕ) → Refusal (At 3 ln 3) (chosen ln t)
  unfolding chosen
  chosen_refusal t = among_refusal t sets

  pub weather_refusal : (t : ℕ) (body : List ℕ) → Refusal (At 3 ln 3) (weather_at ln t body)
  unfolding weather_at
  weather_refusal t body = bind_refusal _ _ (chosen_refusal t) (λ s es. bind_refusal _ _ (fixed_refusal (weather s) true 3 body) (λ v ev. given))

  -- Inside the condition: 5 at its own offset, or behind its head; before its end.
  abbrev Inner : List ℕ → ℕ → ℕ → ℕ → Type 0
  Inner body n l o = NumberFrom 2 n × (l ≡ ln) × (0 < o → 3 ≤ o) × (n ≤ 4 → 3 ≤ o) × (o < 3 + length body)

  pub inside_refusal : (body : List ℕ) → Refusal (Inner body) (inside ln body)
  unfolding inside load_at
  inside_refusal body =
      test_cases _ _ _ _ _ (λ c. omega arith) (λ c.
      let f = full_length body c in
      bind_refusal _ _ (weaker (λ n l o x. omega arith) (header_refusal 3 body)) (λ h eh.
      let p = header_splits ln 3 body h eh in
      bind_refusal _ _ (weaker (λ n l o x. omega arith) (weather_refusal h.tag h.body)) (λ v ev.
      bind_refusal _ _ (test_refusal _ _ _ _ _ (omega arith) (weaker (λ n l o x. omega arith) (entries_refusal most_depth most_entries _ h.rest))) (λ w ew. given))))

  pub fixed_in_refusal : {A : Type 0} (L : Layout A) (h : Head) → Refusal (At 3 ln 0) (fixed_in ln L h)
  unfolding fixed_in
  fixed_in_refusal L h = test_refusal _ _ _ _ _ (omega arith) (fixed_refusal L true 0 h.body)

  pub frame_of_refusal : (t : ℕ) → Refusal (At 3 ln 0) (frame_of ln t)
  unfolding frame_of
  frame_of_refusal t = go (eqb t row.tag) (eqb t condition_tag)
    where
      go : (a b : Bool) → Refusal (At 3 ln 0) (cond a (got a_row) (cond b (got a_condition) (refused 4 ln 0)))
      go true b = given
      go false true = given
      go false false = plain (omega arith)

  pub row_refusal : (p : ℕ) (h : Head) → Refusal (OfRow 3 ln) (row_in ln p h)
  unfolding row_in
  row_refusal p h = bind_refusal _ _ (weaker (λ n l o x. omega arith) (fixed_in_refusal row h)) (λ v ev. test_refusal _ _ _ _ _ (omega arith) (test_refusal _ _ _ _ _ (omega arith) given))

  pub found_row_refusal : (k p : ℕ) (h : Head) → Refusal (OfRow 3 ln) (found ln k p h a_row)
  unfolding found
  found_row_refusal k p h = test_refusal _ _ _ _ _ (omega arith) (bind_refusal _ _ (row_refusal p h) (λ v ev. given))

  pub condition_refusal : (h : Head) → Refusal (Between ln 0 (3 + length h.body)) (condition_in ln h)
  unfolding condition_in
  condition_refusal h = test_refusal _ _ _ _ _ (omega arith) (test_refusal _ _ _ _ _ (omega arith) (weaker (λ n l o x. (x.0, x.1, omega arith, x.4)) (inside_refusal h.body)))

  found_refusal : (k p : ℕ) (h : Head) (t : Frame) → Refusal (InFrame ln (3 + length h.body)) (found ln k p h t)
  unfolding found
  found_refusal k p h a_row = weaker (λ n l o x. omega arith) (found_row_refusal k p h)
  found_refusal k p h a_condition = test_refusal _ _ _ _ _ (omega arith) (bind_refusal _ _ (weaker (λ n l o x. omega arith) (condition_refusal h)) (λ c ec. given))

  pub frame_at_refusal : (k p : ℕ) (l : List ℕ) → Refusal (InFrame ln (max 1 (length l))) (frame_at ln k p l)
  unfolding frame_at
  frame_at_refusal k p l =
      bind_refusal _ _ (weaker (λ n l o x. omega arith) (header_refusal 0 l)) (λ h eh.
      let q = header_splits ln 0 l h eh in
      bind_refusal _ _ (weaker (λ n l o x. omega arith) (frame_of_refusal h.tag)) (λ t et. weaker (λ n l o x. (x.0, x.1, omega arith)) (found_refusal k p h t)))

  pub ship_frame_refusal : (l : List ℕ) → Refusal (At 2 ln 0) (ship_frame ln l)
  unfolding ship_frame
  ship_frame_refusal l = bind_refusal _ _ (weaker (λ n l o x. omega arith) (header_refusal 0 l)) (λ h eh. test_refusal _ _ _ _ _ (omega arith) (weaker (λ n l o x. omega arith) (fixed_in_refusal ship h)))

  pub closed_refusal : (ls : List (List ℕ)) → Refusal (At 2 ln 0) (closed ln ls)
  unfolding closed
  closed_refusal [] = given
  closed_refusal (l ∷ ls) = bind_refusal _ _ (weaker (λ n l o x. omega arith) (header_refusal 0 l)) (λ h eh. plain (omega arith))

-- The lines of refusals among the frames left: with none left it is the line before.
abbrev Left : List (List ℕ) → ℕ → ℕ → ℕ → ℕ → Type 0
Left [] ln n l o = UnreadFrom 2 n × (ln ≤ l + 1)
Left (x ∷ ls) ln n l o = NotBefore ln n l o

not_before : (ls : List (List ℕ)) (ln n l o : ℕ) → Left ls (ln + 1) n l o → NotBefore ln n l o
not_before [] ln n l o h = omega arith
not_before (x ∷ ls) ln n l o h = omega arith

pub tail_refusal : (ls : List (List ℕ)) (ln k p : ℕ) → Refusal (Left ls ln) (tail ls ln k p)
unfolding tail after
tail_refusal [] ln k p = plain (omega arith)
tail_refusal (l ∷ ls) ln k p = bind_refusal _ _ (weaker (λ n l o x. omega arith) (frame_at_refusal ln k p l)) (λ f ef. go (λ ln k p. tail_refusal ls ln k p) f)
  where
    go : ((ln k p : ℕ) → Refusal (Left ls ln) (tail ls ln k p)) → (f : Found) → Refusal (NotBefore ln) (after (tail ls) ls ln k f)
    go w (table_row v) = bind_refusal _ _ (weaker (not_before ls ln) (w _ _ _)) (λ x ex. given)
    go w (the_condition c) = bind_refusal _ _ (weaker (λ n l o x. omega arith) (closed_refusal (ln + 1) ls)) (λ u eu. given)

pub read_frames_refusal : (ls : List (List ℕ)) → Refusal (λ n l o. UnreadFrom 2 n) (read_frames ls)
unfolding read_frames
read_frames_refusal [] = plain (omega arith)
read_frames_refusal (l ∷ ls) = bind_refusal _ _ (weaker (λ n l o x. omega arith) (ship_frame_refusal 1 l)) (λ v ev. bind_refusal _ _ (weaker (λ n l o x. (not_before ls 1 n l o x).0) (tail_refusal ls 2 0 0)) (λ x ex. given))

pub read_refusal : (t : List ℕ) → Refusal (λ n l o. Unread n) (read t)
read_refusal t = rw (read_steps t) (test_refusal _ _ _ _ _ (omega arith) (bind_refusal _ _ (weaker (λ n l o h. omega arith) (lines_refusal 1 t)) (λ ls els. weaker (λ n l o h. omega arith) (read_frames_refusal ls))))

-- ---- what follows
pub number_of_refusal : (t : List ℕ) {n l o : ℕ} → read t ≡ refused n l o → Unread n
number_of_refusal t e = (read_refusal t).holds _ _ _ e

-- Refused with one of these numbers.
abbrev pub Refused : List ℕ → Type 0
Refused t = (n : ℕ) × (l : ℕ) × (o : ℕ) × (read t ≡ refused n l o) × Unread n

-- A text is refused or allowed, and not both.
refused_or_allowed : {X : Type 0} (t : List ℕ) → (Refused t → X) → (Allowed t → X) → X
refused_or_allowed {X} t f g = go (read t) refl
  where
    go : (a : Ans Reading) → read t ≡ a → X
    go (refused n l o) e = f (n, l, o, e, number_of_refusal t e)
    go (got r) e = g ((read_allowed t).0 (r, e))

pub not_both : (t : List ℕ) (n l o : ℕ) → read t ≡ refused n l o → ¬ Allowed t
not_both t n l o e a = refused_got (sym e ∙ ((read_allowed t).1 a).1)

pub unrefused_iff_allowed : (t : List ℕ) → ((n l o : ℕ) → Unread n → read t ≢ refused n l o) ↔ Allowed t
unrefused_iff_allowed t = (λ h. refused_or_allowed t (λ x. absurd (h x.0 x.1 x.2 x.4 x.3)) (λ a. a), λ a n l o h e. not_both t n l o e a)
