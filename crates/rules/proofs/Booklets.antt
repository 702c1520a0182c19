-- What is promised of a booklet, a text of up to 24 conditions, to be read without the proofs: each promise is one theorem with a sentence above it, and its proof stands elsewhere.
-- Its words are defined in specs/: Apart says which texts are allowed as a whole and which condition lines are, Booklet in which order they are checked, Answer what is sent back, Mistyped what a typing slip is; Tags, Cargo and Timber what it is for a C3 to be made a C5 and a C1 a C6.
use mathlib.Core.Path.{◌≡◌, sym, ap, ◌∙◌}
use mathlib.Core.Logic.{◌↔◌, ◌≢◌, ◌⊎◌}
use mathlib.Core.List.{List, [], ◌∷◌, ◌++◌}
use Prim.Native.Nat.{ℕ, ◌+◌, ◌*◌, max, ◌≤◌, ◌<◌}
use native.Mathlib.Omega.{arith}
use lib.ListN.{length, take, drop, get_or, set, length-set}
use Rattle.rules.specs.Numbers.{Bytes}
use Rattle.rules.specs.Text.{text, Lines}
use Rattle.rules.specs.Blocks.{block, condition_tag, Ship, Row, code, timber, Tank}
use Rattle.rules.specs.Layout.{Entries, Condition, Reading, spell_condition, most_characters, most_conditions, ConditionLimits, condition_lines, Booklet}
use Rattle.rules.specs.Outcome.{refused, got, Unread}
use Rattle.rules.specs.Walk.{lines_from, read}
use Rattle.rules.specs.Report.{report_length}
use Rattle.rules.specs.Met.{lead, Met, Overruns}
use Rattle.rules.specs.Places.{FramesFill, ConditionFills, SameBefore, looked_at}
use Rattle.rules.specs.Cargo.{MadeCargo, RetaggedLines, RetaggedLine}
use Rattle.rules.specs.Timber.{TimberLines, TimberLine, condition_by}
use Rattle.rules.specs.Booklet.{read_whole, condition_at}
use Rattle.rules.specs.Apart.{lines_of, spell_booklet, WholeLimits, AllowedWhole, AllowedLine, LinesWithin, line_at, alone, respelt, LastAlone, MetWhole, Misplaced, NoCondition, TwentyFifth, line_number}
use Rattle.rules.specs.Mistyped.{kn_value, Bent, FarOff, nth_row, retyped_in, Mistyped}
use Rattle.rules.specs.Answer.{report_of, answered, answer_of_line, answers, answer, in_line, number, written, room}
use Rattle.rules.proofs.walk.Retagged.{tanks_alike}
use Rattle.rules.proofs.walk.Timber.{weathers_alike}
use Rattle.rules.proofs.booklet.Refusals.{read_whole_refusal, condition_at_refusal}
use Rattle.rules.proofs.booklet.WholeText.{lines_of_refused, whole_iff_allowed, whole_unique}
use Rattle.rules.proofs.booklet.Conditions.{condition_iff_allowed, condition_unique}
use Rattle.rules.proofs.booklet.WholeText as whole
use Rattle.rules.proofs.booklet.Conditions as lines
use Rattle.rules.proofs.booklet.Room as rooms
use Rattle.rules.proofs.booklet.Reports as reports
use Rattle.rules.proofs.booklet.LineOnly.{in_line_only}
use Rattle.rules.proofs.booklet.Alone as alones
use Rattle.rules.proofs.booklet.OfOne as ones
use Rattle.rules.proofs.booklet.PlaceFits.{whole_fits}
use Rattle.rules.proofs.booklet.InsideParent.{lines_of_booklet, front_fills, line_fills}
use Rattle.rules.proofs.booklet.LineOverrun.{two_line}
use Rattle.rules.proofs.booklet.Misplaced.{two_misplaced, four_misplaced}
use Rattle.rules.proofs.booklet.WhereRefused.{two_whole, four_whole, five_whole, ten_whole}
use Rattle.rules.proofs.booklet.Retyped.{retyped_refused}
use Rattle.rules.proofs.layout.Smooth.{no_slip, no_two}
use Rattle.rules.proofs.booklet.FirstFault.{whole_fault, fault_in_line}
use Rattle.rules.proofs.booklet.OtherTag.{answers_alike, refused_alike, read_other}
use Rattle.rules.proofs.booklet.Retagged.{made_cargo, in_timber}

-- ---- which texts are read
-- A text gets none of 1 to 6 and 10 for the whole exactly when it is allowed as a whole.
pub allowed_whole : (most : ℕ) (t : List ℕ) → ((n l o : ℕ) → Unread n → read_whole most t ≢ refused n l o) ↔ AllowedWhole most t
allowed_whole most t = whole_iff_allowed most t

-- What is read from a text is the booklet that spells it, within the limits of the whole.
pub booklet_spells : (most : ℕ) (t : List ℕ) (b : Booklet) → (read_whole most t ≡ got b) ↔ (WholeLimits most b × (spell_booklet b ≡ t))
booklet_spells most t b = (λ e. whole.sound most t b e, λ x. rw (← x.1) (whole.complete most b x.0))

-- The number of a refusal for the whole is one of 1 to 6, or 10.
pub refusal_number : (most : ℕ) (t : List ℕ) (n l o : ℕ) → read_whole most t ≡ refused n l o → Unread n
refusal_number most t n l o e = (read_whole_refusal most t).holds n l o e

-- It says one booklet only.
pub one_booklet : (most : ℕ) (t : List ℕ) (a b : AllowedWhole most t) → a.0 ≡ b.0
one_booklet most t a b = whole_unique most t a b

-- A line that begins with A3 gets none of 2 to 6 exactly when it is allowed, whatever the ship, the rows and its place.
pub allowed_line : (s : Ship) (vs : List Row) (ln : ℕ) (l : List ℕ) → get_or l 0 0 ≡ condition_tag → Bytes l → ((n m o : ℕ) → (2 ≤ n) × (n ≤ 6) → answer_of_line s vs ln l ≢ refused n m o) ↔ AllowedLine l
allowed_line s vs ln l t B = condition_iff_allowed s vs ln l t B

-- What is read from it is the condition that spells it, within its limits.
pub condition_spells : (ln : ℕ) (l : List ℕ) (c : Condition) → get_or l 0 0 ≡ condition_tag → Bytes l → (condition_at ln l ≡ got c) ↔ (ConditionLimits c × (block condition_tag (spell_condition c) ≡ l))
condition_spells ln l c t B = (λ e. lines.condition_sound ln l c t B e, λ x. rw (← x.1) (lines.condition_got ln c x.0))

-- It says one condition only.
pub one_condition : (l : List ℕ) (a b : AllowedLine l) → a.0 ≡ b.0
one_condition l a b = condition_unique l a b

-- ---- where its blocks stand
-- The lines of a text that is read are those of the ship, the rows and the conditions. Each of the ship's and the rows' is filled by its frame. So is that of each condition that is read:
-- in it the weather stands at offset 3, behind it the entries end to end, of which the last ends with the line; and so in each group, from behind its head to its end.
pub inside_parent : (most : ℕ) (t : List ℕ) (b : Booklet) → read_whole most t ≡ got b
    → (lines_from 1 t ≡ got (lines_of b)) × FramesFill (lead b.ship b.rows [])
    × ((k : ℕ) → k < length b.conditions → (ln : ℕ) (c : Condition) → condition_at ln (line_at b k) ≡ got c → ConditionFills (line_at b k) c)
inside_parent most t b e = (lines_of_booklet most t b e, front_fills most t b e, line_fills most t b e)

-- ---- how much room
-- The number is 9 exactly when the buffer is shorter than the room that the text asks for ..
pub nine : (most : ℕ) (t buffer : List ℕ) → (number most t buffer ≡ 9) ↔ (length buffer < room most t)
nine most t buffer = rooms.nine_iff_no_room most t buffer

-- .. and with 9 nothing is written.
pub nine_keeps : (most : ℕ) (t buffer : List ℕ) → number most t buffer ≡ 9 → written most t buffer ≡ buffer
nine_keeps most t buffer e = (rooms.without_room most t buffer ((nine most t buffer).0 e)).holds

-- A text that is read asks for 209 bytes for each of its conditions; no text asks for fewer than 209 or for more than 24 times that.
pub room_read : (most : ℕ) (t : List ℕ) (b : Booklet) → read_whole most t ≡ got b → room most t ≡ report_length * length b.conditions
room_read most t b e = rooms.room_read most t b e

pub room_bounds : (most : ℕ) (t : List ℕ) → (report_length ≤ room most t) × (room most t ≤ report_length * most_conditions)
room_bounds most t = rooms.room_bounds most t

-- A text of lines within its limit, of which at most 24 begin with A3, asks for 209 bytes for each of these wherever they stand, and for 209 where there is none; every other text for 209.
pub room_lines : (most : ℕ) (t : List ℕ) → ((ls : List (List ℕ)) → LinesWithin most t ls → room most t ≡ max report_length (report_length * condition_lines ls)) × (((ls : List (List ℕ)) → ¬ LinesWithin most t ls) → room most t ≡ report_length)
room_lines most t = rooms.room_lines most t

-- ---- each condition for itself
-- Take a text that is read, a condition line of it, the one with the number k from 0, and a buffer with room.
module _ (most : ℕ) (t : List ℕ) (b : Booklet) (e : read_whole most t ≡ got b) (k : ℕ) (h : k < length b.conditions) where
  abbrev report : List ℕ → List ℕ → ℕ → List ℕ
  report s buffer i = take report_length (drop (report_length * i) (written most s buffer))

  abbrev single : List ℕ
  single = spell_booklet (alone b (line_at b k))

  room_for : (buffer : List ℕ) → report_length * length b.conditions ≤ length buffer → room most t ≤ length buffer
  room_for buffer r = omega (arith, room_read most t b e)

  -- The text with that condition alone is read. Report k, the 209 characters from 209 k on, is the report of that text with the line number of the long one.
  pub each_as_alone : (read_whole most single ≡ got (alone b (line_at b k)))
      × ((buffer : List ℕ) → report_length * length b.conditions ≤ length buffer → report t buffer k ≡ report_of (in_line (line_number b k) (answer (alone b (line_at b k)) 0)))
  each_as_alone = (
    alones.alone_read b k h most t e,
    λ buffer r. reports.report_stands b most t buffer e (room_for buffer r) k h ∙ ap report_of (alones.each_as_alone b k h),
  )

  -- But for its 9th to 12th character, the line number, it is the report that the text with that condition alone gets.
  pub but_for_the_line : (buffer buffer' : List ℕ) → report_length * length b.conditions ≤ length buffer → report_length ≤ length buffer'
      → (take 8 (report t buffer k) ≡ take 8 (report single buffer' 0)) × (drop 12 (report t buffer k) ≡ drop 12 (report single buffer' 0))
  but_for_the_line buffer buffer' r r' =
      let x = each_as_alone in
      let y = x.1 buffer r in
      let z = reports.report_stands (alone b (line_at b k)) most single buffer' x.0 (omega (arith, room_read most single (alone b (line_at b k)) x.0)) 0 (omega arith) in
      let w = in_line_only (line_number b k) (answer (alone b (line_at b k)) 0) in
      (ap (take 8) y ∙ w.0 ∙ sym (ap (take 8) z), ap (drop 12) y ∙ w.1 ∙ sym (ap (drop 12) z))

  -- Whatever begins with A3 may stand in that line instead, within the limit of characters: the text is read, and every other condition is answered as before ..
  pub spoils_its_own : (l : List ℕ) → get_or l 0 0 ≡ condition_tag → Bytes l → length (spell_booklet (respelt b k l)) ≤ most
      → (read_whole most (spell_booklet (respelt b k l)) ≡ got (respelt b k l)) × ((i : ℕ) → i ≢ k → answer (respelt b k l) i ≡ answer b i)
  spoils_its_own l a B m = alones.spoils_its_own b k h most t e l a B m

  -- .. with the same report in the same place.
  pub others_stay : (l : List ℕ) → get_or l 0 0 ≡ condition_tag → Bytes l → length (spell_booklet (respelt b k l)) ≤ most
      → (buffer : List ℕ) → report_length * length b.conditions ≤ length buffer → (i : ℕ) → i ≢ k → i < length b.conditions → report (spell_booklet (respelt b k l)) buffer i ≡ report t buffer i
  others_stay l a B m buffer r i d g =
      let x = spoils_its_own l a B m in
      let n = length-set b.conditions k l in
      reports.report_stands (respelt b k l) most (spell_booklet (respelt b k l)) buffer x.0 (omega (arith, room_read most (spell_booklet (respelt b k l)) (respelt b k l) x.0)) i (omega arith)
      ∙ ap report_of (x.1 i d) ∙ sym (reports.report_stands b most t buffer e (room_for buffer r) i g)

-- Behind the last report the buffer keeps its bytes.
pub beyond_kept : (most : ℕ) (t buffer : List ℕ) (b : Booklet) → read_whole most t ≡ got b → room most t ≤ length buffer
    → drop (report_length * length b.conditions) (written most t buffer) ≡ drop (report_length * length b.conditions) buffer
beyond_kept most t buffer b e r = reports.beyond_kept b most t buffer e r

-- ---- a text of one condition, or of none
-- A text of which no line but the last begins with A3 is answered as `answered` says, of which Reading promises more: it is refused for the whole as there, or its one condition is answered so. 209 bytes are room for it.
pub of_one : (t : List ℕ) → LastAlone t → ((n l o : ℕ) → read_whole most_characters t ≡ refused n l o → answered t ≡ refused n l o) × ((b : Booklet) → read_whole most_characters t ≡ got b → answers b ≡ answered t ∷ []) × (room most_characters t ≡ report_length)
of_one t last = (λ n l o e. ones.refused_last t last e, λ b e. ones.of_one most_characters t b e (omega arith) (ones.one_of_last t last b e), ones.room_last t last)

-- Every text that `read` reads is such a text.
pub read_is_one : (t : List ℕ) (r : Reading) → read t ≡ got r → LastAlone t
read_is_one t r e = ones.read_alone t r e

-- ---- cargo tanks
-- A C5 is tested as a C3. Take a text of lines within its limit and a block in it that begins with C3: a frame, the first block of a condition that fills its line, or one further on where blocks stand end to end, in groups or not. It may be well or ill, and so may what stands before it and behind it. Let it begin with C5:
-- the one text is refused for the whole exactly when the other is, with the same number, line and offset.
pub tested_as_tank : (most : ℕ) (ls ls' : List (List ℕ)) → RetaggedLines ls ls' → Lines ls → length (text ls) ≤ most → (n l o : ℕ) → (read_whole most (text ls) ≡ refused n l o) ↔ (read_whole most (text ls') ≡ refused n l o)
tested_as_tank most ls ls' retagged L h = refused_alike tanks_alike retagged L most h

-- Where the first is read, so is the second. Its ship, its rows and its condition lines are those of the first but for one, number k, which has the C3 in the first and the C5 in the second; and every other condition is answered as it was.
pub tag_alone : (most : ℕ) (ls ls' : List (List ℕ)) → RetaggedLines ls ls' → Lines ls → length (text ls) ≤ most → (b : Booklet) → read_whole most (text ls) ≡ got b
    → (k : ℕ) × (l : List ℕ) × (k < length b.conditions) × RetaggedLine (line_at b k) l × (read_whole most (text ls') ≡ got (respelt b k l)) × ((i : ℕ) → i ≢ k → answer (respelt b k l) i ≡ answer b i)
tag_alone most ls ls' retagged L h b e = let q = read_other tanks_alike retagged L most h b e in (q.0, q.1, q.2, q.3, q.4, alones.others_answered b q.0 q.1)

-- Of two such condition lines, whatever the ship, the rows and their place, the one is refused with 2 to 6 exactly when the other is, with the same number, line and offset. Where the first is read, the second says the same but for one tank, which is a C3 in the first and a C5 in the second.
pub tank_in_line : (s : Ship) (vs : List Row) (ln : ℕ) (l l' : List ℕ) → RetaggedLine l l'
    → ((n m o : ℕ) → n ≤ 6 → (answer_of_line s vs ln l ≡ refused n m o) ↔ (answer_of_line s vs ln l' ≡ refused n m o))
    × ((c : Condition) → condition_at ln l ≡ got c → (t : Tank) × (G : Entries) × MadeCargo t c.load G × (condition_at ln l' ≡ got (record { weather = c.weather; load = G })))
tank_in_line s vs ln l l' retagged = (answers_alike tanks_alike retagged s vs ln, made_cargo retagged ln)

-- ---- timber on deck
-- A C6 is tested as a C1, in the same way: the one text is refused for the whole exactly when the other is, with the same number, line and offset.
pub tested_as_weather : (most : ℕ) (ls ls' : List (List ℕ)) → TimberLines ls ls' → Lines ls → length (text ls) ≤ most → (n l o : ℕ) → (read_whole most (text ls) ≡ refused n l o) ↔ (read_whole most (text ls') ≡ refused n l o)
tested_as_weather most ls ls' other L h = refused_alike weathers_alike other L most h

-- Where the first is read, so is the second. Its ship, its rows and its condition lines are those of the first but for one, number k, which has the C1 in the first and the C6 in the second; and every other condition is answered as it was, in its own set.
pub set_alone : (most : ℕ) (ls ls' : List (List ℕ)) → TimberLines ls ls' → Lines ls → length (text ls) ≤ most → (b : Booklet) → read_whole most (text ls) ≡ got b
    → (k : ℕ) × (l : List ℕ) × (k < length b.conditions) × TimberLine (line_at b k) l × (read_whole most (text ls') ≡ got (respelt b k l)) × ((i : ℕ) → i ≢ k → answer (respelt b k l) i ≡ answer b i)
set_alone most ls ls' other L h b e = let q = read_other weathers_alike other L most h b e in (q.0, q.1, q.2, q.3, q.4, alones.others_answered b q.0 q.1)

-- Of two such condition lines the one is refused with 2 to 6 exactly when the other is, with the same number, line and offset. Where the first is read, the second says the same but for the set, which is the Code's in the first and timber's in the second.
pub weather_in_line : (s : Ship) (vs : List Row) (ln : ℕ) (l l' : List ℕ) → TimberLine l l'
    → ((n m o : ℕ) → n ≤ 6 → (answer_of_line s vs ln l ≡ refused n m o) ↔ (answer_of_line s vs ln l' ≡ refused n m o))
    × ((c : Condition) → condition_at ln l ≡ got c → (c.weather.set ≡ code) × (condition_at ln l' ≡ got (condition_by timber c)))
weather_in_line s vs ln l l' other = (answers_alike weathers_alike other s vs ln, in_timber other ln)

-- ---- what is refused
-- A text of lines within its limit, of which at most 24 begin with A3, is refused with 2 for the whole exactly where the reading comes to a line whose frame runs past it, or that has one or two bytes:
-- the first line; one behind the ship's and some rows' that is no condition line in its place; one behind condition lines that is none. The offset is 0.
pub two_for_the_whole : (most : ℕ) (t : List ℕ) (ls : List (List ℕ)) → LinesWithin most t ls → (ln o : ℕ) → (read_whole most t ≡ refused 2 ln o) ↔ ((o ≡ 0) × (l : List ℕ) × MetWhole ls ln l × Overruns l)
two_for_the_whole most t ls C ln o = two_whole most t ls C ln o

-- A misplaced line of such a text is refused for the whole, at its line and offset 0: with 2 where its frame runs past it or it has one or two bytes, else with 4. Misplaced is what begins with another tag than is due there, the first such line:
-- no A1 in the first line; behind the ship and rows as they must be neither an A2 nor an A3, or an A3 before the second row, or a 41st A2; behind condition lines, whatever these hold, anything that begins with another tag than A3.
pub misplaced : (most : ℕ) (t : List ℕ) (ls : List (List ℕ)) → LinesWithin most t ls → (ln : ℕ) (l : List ℕ) → Misplaced ls ln l → (Overruns l → read_whole most t ≡ refused 2 ln 0) × (¬ Overruns l → read_whole most t ≡ refused 4 ln 0)
misplaced most t ls C ln l m = (two_misplaced most t ls C ln l m, four_misplaced most t ls C ln l m)

-- It is refused with 4 for the whole exactly there.
pub four_for_the_whole : (most : ℕ) (t : List ℕ) (ls : List (List ℕ)) → LinesWithin most t ls → (ln o : ℕ) → (read_whole most t ≡ refused 4 ln o) ↔ ((o ≡ 0) × (l : List ℕ) × Misplaced ls ln l × (¬ Overruns l))
four_for_the_whole most t ls C ln o = four_whole most t ls C ln o

-- Every text is refused with 5 for the whole exactly where it is lines within its limit of which one is the 25th that begins with A3, at that line, whatever else it holds; or where at most 24 do, and the text is empty (line 0) or ends behind the ship and rows as they must be, at the number of its lines.
pub five_for_the_whole : (most : ℕ) (t : List ℕ) (l o : ℕ) → (read_whole most t ≡ refused 5 l o) ↔ ((o ≡ 0) × (TwentyFifth most t l ⊎ ((ls : List (List ℕ)) × LinesWithin most t ls × NoCondition ls l)))
five_for_the_whole most t l o = five_whole most t l o

-- A text of lines within its limit, of which at most 24 begin with A3, is refused with 10 for the whole exactly where a line is a row with a typing slip, at that line and offset 0: behind the ship and rows as they must be a row in its place, within its limits and its W above the last one's, and one of its inner values, doubled, differs from the sum of its two neighbours by more than 400.
pub ten_for_the_whole : (most : ℕ) (t : List ℕ) (ls : List (List ℕ)) → LinesWithin most t ls → (ln o : ℕ) → (read_whole most t ≡ refused 10 ln o) ↔ ((o ≡ 0) × Mistyped ls ln)
ten_for_the_whole most t ls C ln o = ten_whole most t ls C ln o

-- A condition of a text that is read is refused with 2, in its line and at an offset, exactly where in the text with that condition alone a block is met there whose length runs past its parent, or one or two bytes where a block would begin.
pub two_in_line : (most : ℕ) (t : List ℕ) (b : Booklet) → read_whole most t ≡ got b → (k : ℕ) → k < length b.conditions → (o : ℕ)
    → (answer b k ≡ refused 2 (line_number b k) o) ↔ ((left : List ℕ) × Met (lines_of (alone b (line_at b k))) (2 + length b.rows) o left × Overruns left)
two_in_line most t b e k h o = two_line most t b e k h o

-- A refusal for the whole depends on nothing behind the line that it names. Two such texts have the same lines before that one; it has one length in both, and the same bytes as far as the refusal looks: to the end of its head for 2, 4 and 3, of its frame for 6 and 10.
-- All that stands behind, in the line and in further lines, may differ: the refusal is the same. Left out is 5, no A3: it names the text's end, and a further line would change it.
pub first_fault : (most : ℕ) (t t' : List ℕ) (front later later' : List (List ℕ)) (l l' : List ℕ) (n : ℕ) → LinesWithin most t (front ++ (l ∷ later)) → LinesWithin most t' (front ++ (l' ∷ later')) → SameBefore (looked_at l n 0) l l' → n ≢ 5
    → read_whole most t ≡ refused n (1 + length front) 0 → read_whole most t' ≡ refused n (1 + length front) 0
first_fault most t t' front later later' l l' n C C' A five e = whole_fault most t t' front later later' l l' n C C' A five e

-- Nor does a condition's refusal, up to 6, depend on anything behind the block that it names, whatever the ship, the rows and its place: another line of the same length, with the same bytes as far as the refusal looks, gets the same.
pub first_fault_in_line : (s : Ship) (vs : List Row) (ln : ℕ) (l l' : List ℕ) (n m o : ℕ) → get_or l 0 0 ≡ condition_tag → SameBefore (looked_at l n o) l l' → n ≤ 6 → answer_of_line s vs ln l ≡ refused n m o → answer_of_line s vs ln l' ≡ refused n m o
first_fault_in_line s vs ln l l' n m o tag A h e = fault_in_line n m o l l' A s vs ln tag h e

-- Every text that is refused for the whole with another number than 1 and 5 is lines within its limit, of which at most 24 begin with A3: so these promises leave none of them out.
pub lines_before_blocks : (most : ℕ) (t : List ℕ) (n l o : ℕ) → read_whole most t ≡ refused n l o → n ≢ 1 → n ≢ 5 → (ls : List (List ℕ)) × LinesWithin most t ls
lines_before_blocks most t n l o e one five = lines_of_refused most t n l o e one five

-- ---- typing slips
-- In a row that is read an inner value, one at 5 to 55 degrees, that is wrong by more than 400 against the straight line of its neighbours, doubled, cannot stand.
pub typing_slip : (most : ℕ) (t : List ℕ) (b : Booklet) → read_whole most t ≡ got b → (k i : ℕ) → k < length b.rows → 1 ≤ i → i ≤ 11 → ¬ Bent (nth_row b.rows k).kn i
typing_slip most t b e = let w = (whole.sound most t b e).0 in no_slip b.rows w.rising w.no_slips

-- So a row that is read and one that differs from it in a single value, at 5 to 55 degrees by more than 400 or at 60 degrees by more than 800, are not both read, in whatever texts they stand.
pub not_both_read : (most most' : ℕ) (t t' : List ℕ) (b b' : Booklet) → read_whole most t ≡ got b → read_whole most' t' ≡ got b' → (k k' i x : ℕ) → k < length b.rows → k' < length b'.rows
    → (nth_row b'.rows k').kn ≡ set (nth_row b.rows k).kn i x → ¬ FarOff i (kn_value (nth_row b.rows k).kn i) x
not_both_read most most' t t' b b' e e' = let w = (whole.sound most t b e).0 in let w' = (whole.sound most' t' b' e').0 in no_two b.rows b'.rows w.rising w.no_slips w'.rising w'.no_slips

-- And the one typed wrong is caught: take a text that is read, one of its rows and one value of it; let that value be another, within its limits and as far off as that, and all else the same. That text is refused for the whole, with 10 at that row's line.
pub slip_caught : (most : ℕ) (t : List ℕ) (b : Booklet) → read_whole most t ≡ got b → (k i x : ℕ) → k < length b.rows → x ≤ 30_000 → FarOff i (kn_value (nth_row b.rows k).kn i) x
    → read_whole most (spell_booklet (retyped_in b k i x)) ≡ refused 10 (2 + k) 0
slip_caught most t b e = retyped_refused most t b e

-- ---- where a refusal stands
-- A refusal for the whole has offset 0 and a line up to 60,000; one of a condition line has that line, and an offset inside it, below 4,099: both fit their two bytes.
pub whole_place : (most : ℕ) (t : List ℕ) (n l o : ℕ) → most ≤ most_characters → read_whole most t ≡ refused n l o → (l ≤ 60_000) × (o ≡ 0)
whole_place most t n l o h e = whole_fits most t h e

pub condition_place : (ln : ℕ) (l : List ℕ) (n m o : ℕ) → condition_at ln l ≡ refused n m o → (2 ≤ n) × (n ≤ 6) × (m ≡ ln) × (o < max 1 (length l)) × (o < 4_099)
condition_place ln l n m o e = let x = (condition_at_refusal ln l).holds n m o e in omega arith
