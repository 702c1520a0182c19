-- What the reading of a whole text says of the room that it asks for, and of what is sent back.
use mathlib.Core.Path.{◌≡◌, refl, ap, sym, ◌∙◌}
use mathlib.Core.Bool.{Bool, true, false}
use mathlib.Core.List.{List, ◌++◌, map}
use Prim.Native.Nat.{ℕ, ◌*◌, max, ◌≤◌, ◌<◌}
use native.Mathlib.Omega.{arith}
use lib.Dec.{ltb}
use lib.ListN.{length, length-map, drop}
use Rattle.std.specs.Prelude.{Result, Ok, Err}
use borrow.Author.Tests.{ltb-true, ltb-false}
use Rattle.rules.specs.Layout.{most_characters, most_conditions, condition_lines, Booklet}
use Rattle.rules.specs.Outcome.{Ans, refused, got, ◌>>=◌}
use Rattle.rules.specs.Booklet.{counted_lines, book_frames, read_whole}
use Rattle.rules.specs.Report.{Judgement, concat, report_length}
use Rattle.rules.specs.Answer.{report_of, answers, first_number, number, bytes_sent, written, room, room_for, limited}
use Rattle.rules.proofs.walk.Outcome.{bind_got, bind_refused}
use Rattle.rules.proofs.booklet.Counted.{lines_lead}
use Rattle.rules.proofs.booklet.Frames.{frames_sound}
use Rattle.rules.proofs.booklet.Sent.{Gives}
use Rattle.rules.proofs.booklet.Room.{room_bounds, room_read, whole_refused, whole_got, without_room}
use Rattle.rules.proofs.booklet.WholeText.{counted_lines_sound, sound, complete}
use Rattle.rules.proofs.booklet.PlaceFits.{whole_fits}
use Rattle.rules.proofs.Booklets.{refusal_number}
use Rattle.rules.proofs.walk.Refusals as refusals
use Rattle.book.specs.Book.{refusal, plain_ship, plain_row}
use Rattle.book.specs.declared.Refusal.{Refusal}
use Rattle.report.specs.Said.{said}
use Rattle.reading.specs.TextAnswers.{front_characters, book_read, told}
use Rattle.reading.specs.declared.Front.{Front}
use Rattle.reading.specs.declared.TextRead.{TextRead}
use Rattle.instrument.specs.Sent.{fault_in, number_sent, Opens}
use Rattle.instrument.proofs.Sending.{Sends, numbered, reported}

-- How many condition lines are told: as many as there are, where 1 and the 25th do not refuse the text.
book_conditions : (k : ℕ) (m : Ans Booklet) → (book_read k m).conditions ≡ k
book_conditions k (refused n l o) = refl
book_conditions k (got b) = refl

-- A text that is read has as many condition lines as conditions.
lines_read : (most : ℕ) (t : List ℕ) (ls : List (List ℕ)) (b : Booklet) → book_frames ls ≡ got b → counted_lines most t ≡ got ls → condition_lines ls ≡ length b.conditions
lines_read most t ls b r q =
    let F = frames_sound ls b (counted_lines_sound most t ls q).lines r in
    sym (ap condition_lines F.spells) ∙ lines_lead b.ship b.rows b.conditions F.begin

module _ (most : ℕ) (t : List ℕ) (x : TextRead) (e : x ≡ told (counted_lines most t)) where
  told_counted : (ls : List (List ℕ)) → counted_lines most t ≡ got ls → x.conditions ≡ condition_lines ls
  told_counted ls q = ap (λ (y : TextRead). y.conditions) (e ∙ ap told q) ∙ book_conditions (condition_lines ls) (book_frames ls)

  told_uncounted : {n l o : ℕ} → counted_lines most t ≡ refused n l o → x.conditions ≡ 0
  told_uncounted q = ap (λ (y : TextRead). y.conditions) (e ∙ ap told q)

  pub few_conditions : x.conditions ≤ most_conditions
  few_conditions = go (counted_lines most t) refl
    where
      go : (a : Ans (List (List ℕ))) → counted_lines most t ≡ a → x.conditions ≤ most_conditions
      go (refused n l o) q = omega (arith, told_uncounted q)
      go (got ls) q = omega (arith, told_counted ls q, (counted_lines_sound most t ls q).at_most)

  -- The room that is asked for, by that.
  room_told : room most t ≡ max report_length (report_length * x.conditions)
  unfolding room
  room_told = go (counted_lines most t) refl
    where
      go : (a : Ans (List (List ℕ))) → counted_lines most t ≡ a → room_for (counted_lines most t) ≡ max report_length (report_length * x.conditions)
      go (refused n l o) q = ap room_for q ∙ omega (arith, told_uncounted q)
      go (got ls) q = ap room_for q ∙ ap (λ k. max report_length (report_length * k)) (sym (told_counted ls q))

  pub room_is : report_length * max x.conditions 1 ≡ room most t
  room_is = sym (room_told ∙ omega arith)

  -- With that room, and without.
  pub room_enough : (n : ℕ) → report_length ≤ n → report_length * x.conditions ≤ n → room most t ≤ n
  room_enough n h k = let r = room_told in omega arith

  pub room_short : (n : ℕ) → n < report_length * x.conditions → n < room most t
  room_short n k = let r = room_told in omega arith

  -- ---- refused for the whole
  whole_steps : read_whole most t ≡ (counted_lines most t >>= book_frames)
  unfolding read_whole
  whole_steps = refl

  pub record WholeRefused (y : Refusal) : Type 0 where
    pub number : ℕ
    pub line : ℕ
    pub offset : ℕ
    pub is : read_whole most t ≡ refused number line offset
    pub told : y ≡ refusal number line offset

  pub refused_whole : (y : Refusal) → x.front ≡ Err y → WholeRefused y
  refused_whole y p = go (counted_lines most t) refl
    where
      same : (n l o : ℕ) → read_whole most t ≡ refused n l o → ◌≡◌ {A = Result Front Refusal} (Err (refusal n l o)) (Err y) → WholeRefused y
      same n l o q u = let v : refusal n l o ≡ y = cc in record { number = n; line = l; offset = o; is = q; told = sym v }

      framed : (ls : List (List ℕ)) → counted_lines most t ≡ got ls → (m : Ans Booklet) → book_frames ls ≡ m → WholeRefused y
      framed ls q (refused n l o) r =
          same n l o (whole_steps ∙ bind_got _ q ∙ r) (sym (ap (λ (z : TextRead). z.front) (e ∙ ap told q ∙ ap (book_read (condition_lines ls)) r)) ∙ p)
      framed ls q (got b) r =
          let u : ◌≡◌ {A = Result Front Refusal} (Ok _) (Err y) = sym (ap (λ (z : TextRead). z.front) (e ∙ ap told q ∙ ap (book_read (condition_lines ls)) r)) ∙ p in
          let z : ◌≡◌ {A = ℕ} 0 1 = cc in
          absurd (omega arith)

      go : (a : Ans (List (List ℕ))) → counted_lines most t ≡ a → WholeRefused y
      go (refused n l o) q = same n l o (whole_steps ∙ bind_refused _ q) (sym (ap (λ (z : TextRead). z.front) (e ∙ ap told q)) ∙ p)
      go (got ls) q = framed ls q (book_frames ls) refl

  -- ---- read
  pub record Opened (front : Front) : Type 0 where
    pub booklet : Booklet
    pub read : read_whole most t ≡ got booklet
    pub opens : Opens booklet t front
    pub counted : x.conditions ≡ length booklet.conditions

  pub opened : (front : Front) → x.front ≡ Ok front → most ≤ most_characters → Opened front
  opened front p m = go (counted_lines most t) refl
    where
      framed : (ls : List (List ℕ)) → counted_lines most t ≡ got ls → (a : Ans Booklet) → book_frames ls ≡ a → Opened front
      framed ls q (refused n l o) r =
          let u : ◌≡◌ {A = Result Front Refusal} (Err (refusal n l o)) (Ok front) = sym (ap (λ (z : TextRead). z.front) (e ∙ ap told q ∙ ap (book_read (condition_lines ls)) r)) ∙ p in
          let z : ◌≡◌ {A = ℕ} 0 1 = cc in
          absurd (omega arith)
      framed ls q (got b) r =
          let is : x ≡ book_read (condition_lines ls) (got b) = e ∙ ap told q ∙ ap (book_read (condition_lines ls)) r in
          let plain : Front = record { ship = plain_ship b.ship; rows = map plain_row b.rows; at = front_characters (length (map plain_row b.rows)) } in
          let u : ◌≡◌ {A = Result Front Refusal} (Ok plain) (Ok front) = sym (ap (λ (z : TextRead). z.front) is) ∙ p in
          let v : plain ≡ front = cc in
          let w : read_whole most t ≡ got b = whole_steps ∙ bind_got _ q ∙ r in
          let s = sound most t b w in
          let L = s.0 in
          record {
            booklet = b;
            read = w;
            opens = record {
              read = ap (read_whole most_characters) (sym s.1) ∙ complete most_characters b (record { hull = L.hull; rising = L.rising; no_slips = L.no_slips; few = L.few; many = L.many; begin = L.begin; some = L.some; at_most = L.at_most; long = omega (arith, L.long) });
              hull = sym (ap (λ (z : Front). z.ship) v);
              table = sym (ap (λ (z : Front). z.rows) v);
              begins = sym (ap (λ (z : Front). z.at) v) ∙ ap front_characters (simp length-map refl);
            };
            counted = told_counted ls q ∙ lines_read most t ls b r q;
          }

      go : (a : Ans (List (List ℕ))) → counted_lines most t ≡ a → Opened front
      go (refused n l o) q =
          let u : ◌≡◌ {A = Result Front Refusal} (Err (refusal n l o)) (Ok front) = sym (ap (λ (z : TextRead). z.front) (e ∙ ap told q)) ∙ p in
          let z : ◌≡◌ {A = ℕ} 0 1 = cc in
          absurd (omega arith)
      go (got ls) q = framed ls q (book_frames ls) refl

-- ---- what is sent back
-- Within a limit of one's own.
pub given : {m : ℕ} (limit : ℕ) {t before after : List ℕ} {n k : ℕ} → m ≡ limited limit → Gives m t before n k after → (n ≡ number (limited limit) t before) × ((k ≡ bytes_sent (limited limit) t before) × (after ≡ written (limited limit) t before))
given limit e g = rw (← e) (sym g.numbered, (sym g.long, sym g.holds))

-- Of a refusal for the whole number and place are those that a report has room for.
pub whole_sends : (most : ℕ) (t : List ℕ) {n l o : ℕ} → most ≤ most_characters → read_whole most t ≡ refused n l o → Sends n l o
whole_sends most t h e = let u = refusal_number most t _ _ _ e in let z = whole_fits most t h e in (u.0, u.1, omega (arith, z.0), omega (arith, z.1))

-- A refusal that is written; all reports that are written.
pub sent_whole : {m : ℕ} {t before after : List ℕ} {k l o : ℕ} (y : Refusal) → y ≡ refusal k l o → Sends k l o → after ≡ said (Err y) ++ drop report_length before → Gives m t before k report_length (report_of (refused k l o) ++ drop report_length before)
    → Gives m t before (number_sent (fault_in (Err y))) report_length after
sent_whole {before = before} {after = after} {k = k} {l = l} {o = o} y e h w g =
    let R : refusals.Refusal {A = Judgement} Sends (refused k l o) = refusals.plain h in
    let N : number_sent (fault_in (Err y)) ≡ k = ap (λ (z : Refusal). number_sent (fault_in (Err z))) e ∙ numbered (refused k l o) R in
    let W : after ≡ report_of (refused k l o) ++ drop report_length before = w ∙ ap (λ (z : Refusal). said (Err z) ++ drop report_length before) e ∙ ap (◌++ drop report_length before) (reported (refused k l o) R) in
    rw (N, W) g

pub sent_each : (b : Booklet) {m : ℕ} {t before after : List ℕ} {n k : ℕ} → (n ≡ first_number (answers b)) × (after ≡ concat (map report_of (answers b)) ++ drop (report_length * length b.conditions) before) → k ≡ length b.conditions
    → Gives m t before (first_number (answers b)) (report_length * length b.conditions) (concat (map report_of (answers b)) ++ drop (report_length * length b.conditions) before) → Gives m t before n (report_length * k) after
sent_each b s e g = rw (s.0, s.1, e) g

-- Whatever the text and the buffer, no more bytes are sent than the buffer has.
within_buffer : (most : ℕ) (t buffer : List ℕ) → bytes_sent most t buffer ≤ length buffer
within_buffer most t buffer = go (ltb (length buffer) (room most t)) refl
  where
    answered : room most t ≤ length buffer → (a : Ans Booklet) → read_whole most t ≡ a → bytes_sent most t buffer ≤ length buffer
    answered h (refused n l o) e = omega (arith, (whole_refused most t buffer h e).long, room_bounds most t)
    answered h (got b) e = omega (arith, (whole_got most t buffer h b e).long, room_read most t b e)

    go : (c : Bool) → ltb (length buffer) (room most t) ≡ c → bytes_sent most t buffer ≤ length buffer
    go true p = omega (arith, (without_room most t buffer (ltb-true _ _ p)).long)
    go false p = answered (ltb-false _ _ p) (read_whole most t) refl

-- So of a reply of `judge_within`.
pub reply_within : (limit : ℕ) (t before after : List ℕ) {n k : ℕ} → (n ≡ number (limited limit) t before) × ((k ≡ bytes_sent (limited limit) t before) × (after ≡ written (limited limit) t before)) → k ≤ length before
reply_within limit t before after r = omega (arith, r.1.0, within_buffer (limited limit) t before)
