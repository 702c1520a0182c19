-- What is promised of the reading of a text of one condition (`judge` rests on that of a booklet: Booklets), to be read without the proofs: each promise is one theorem with a sentence above it, and its proof stands elsewhere.
-- Its words are defined in specs/: Layout says which texts are allowed, Walk in which order they are checked, Places where blocks and refusals stand, Loading and Leaves what is summed, Tags, Cargo and Timber what it is for a C3 to be made a C5 and a C1 a C6, Met what a reading comes to, Mistyped typing slips.
use mathlib.Core.Path.{◌≡◌, sym}
use mathlib.Core.Logic.{◌↔◌, ◌≢◌}
use mathlib.Core.List.{List, ◌∷◌, ◌++◌}
use Prim.Native.Nat.{ℕ, ◌+◌, ◌*◌, ◌≤◌, ◌<◌}
use native.Mathlib.Omega.{arith}
use lib.ListN.{length, get_or}
use Rattle.rules.specs.Rounding.{ceil}
use Rattle.rules.specs.Text.{LF, text, Lines}
use Rattle.rules.specs.Blocks.{condition_tag, code, timber, Tank, TankKind, ordinary, cargo, tank}
use Rattle.rules.specs.Layout.{Entries, Reading, frames, spell_text, leaves, most_characters, Limits, Allowed}
use Rattle.rules.specs.Outcome.{refused, got, ◌>>=◌, Unread}
use Rattle.rules.specs.Walk.{lines_from, read}
use Rattle.rules.specs.Loading.{millimetres, tenths, flat, mass, moment, free_surface_of, free_surface, displacement, corrected_kg, entries_of}
use Rattle.rules.specs.Leaves.{sum_leaves, ungrouped, loaded_with}
use Rattle.rules.specs.Cargo.{MadeCargo, RetaggedLines}
use Rattle.rules.specs.Timber.{TimberLines, reading_by}
use Rattle.rules.specs.Mistyped.{Bent, nth_row, Mistyped}
use Rattle.rules.specs.Places.{LinesFill, SameBefore, looked_at, LineAt, Placed}
use Rattle.rules.specs.Met.{Met, Overruns, NoLF, NoLine, FirstNoLine}
use Rattle.rules.specs.Answer.{judged, answered, answered_in}
use Rattle.rules.specs.Unit.{manifold}
use Rattle.rules.proofs.walk.WholeText.{sound, unslipped, lines_of_reading, reading_unique}
use Rattle.rules.proofs.walk.Refusals.{number_of_refusal, not_both, unrefused_iff_allowed}
use Rattle.rules.proofs.layout.Smooth.{no_slip}
use Rattle.rules.proofs.layout.InsideParent.{reading_fills}
use Rattle.rules.proofs.loading.Sums.{leaves_flat, displacement_leaves, corrected_kg_leaves, flat_ungrouped, judged_same}
use Rattle.rules.proofs.loading.Cargo.{cargo_moment, empty_none, slack_moment, forgiven, limits_alike, sums_made_cargo}
use Rattle.rules.proofs.walk.Retagged.{refused_alike, read_made_cargo, retagged_lines}
use Rattle.rules.proofs.walk.Timber as weathers
use Rattle.rules.proofs.walk.OnlyOverrun.{two_overrun}
use Rattle.rules.proofs.walk.TypingSlips.{ten_slip}
use Rattle.rules.proofs.bench.Drawing.{drawing, drawing_refused}
use Rattle.rules.proofs.walk.FirstFault.{fault_stands}
use Rattle.rules.proofs.walk.BadLine.{bad_line_lem, open_line_lem, one_no_line, one_too_long, lines_unless_one}
use Rattle.rules.proofs.layout.LineAt.{line_unique}
use Rattle.rules.proofs.answer.Placed as places
use Rattle.rules.proofs.answer.EitherUnit as units
use Rattle.rules.proofs.answer.WholeKG.{answered_alike}

-- ---- which texts are read
-- A text gets none of refusals 1 to 6 and 10 exactly when it is allowed.
pub read_iff_allowed : (t : List ℕ) → ((n l o : ℕ) → Unread n → read t ≢ refused n l o) ↔ Allowed t
read_iff_allowed t = unrefused_iff_allowed t

-- An allowed text has one reading only.
pub one_reading : (t : List ℕ) (a b : Allowed t) → a.0 ≡ b.0
one_reading t a b = reading_unique t a b

-- What is read from a text spells that text, within the limits.
pub reading_spells : (t : List ℕ) (r : Reading) → read t ≡ got r → Limits r × (spell_text r ≡ t)
reading_spells t r e = sound t r e

-- The number of a refusal by the walk is one of 1 to 6, or 10.
pub refusal_number : (t : List ℕ) (n l o : ℕ) → read t ≡ refused n l o → Unread n
refusal_number t n l o e = number_of_refusal t e

-- In a row that is read an inner value, one at 5 to 55 degrees, that is wrong by more than 400 against the straight line of its neighbours, doubled, cannot stand.
pub typing_slip : (t : List ℕ) (r : Reading) → read t ≡ got r → (k i : ℕ) → k < length r.rows → 1 ≤ i → i ≤ 11 → ¬ Bent (nth_row r.rows k).kn i
typing_slip t r e = no_slip r.rows (sound t r e).0.rising (unslipped t r e)

-- ---- where its blocks stand
-- In a reading every block lies wholly inside its parent's body, and the blocks of a parent stand end to end and fill it:
-- each line is filled by its frame; in A3's line the weather stands at offset 3, behind it the entries end to end, of which the last ends with the line; and so in each group, from behind its head to its end.
pub inside_parent : (t : List ℕ) (r : Reading) → read t ≡ got r → (lines_from 1 t ≡ got (frames r)) × LinesFill (frames r) r.condition
inside_parent t r e = (lines_of_reading t r e, reading_fills r (sound t r e).0)

-- ---- what is summed
-- The masses, moments and free surface moments that are judged are the sums over the leaves of the one tree, each once, and there are as many as leaves.
pub counted_once : (r : Reading) → (displacement (entries_of r) ≡ sum_leaves mass r.condition.load)
    × (corrected_kg (entries_of r) ≡ ceil (10 * (sum_leaves moment r.condition.load + sum_leaves free_surface r.condition.load)) (sum_leaves mass r.condition.load))
    × (length (entries_of r) ≡ leaves r.condition.load)
counted_once r = (displacement_leaves r.condition.load, corrected_kg_leaves tenths r.condition.load, sym (leaves_flat r.condition.load))

-- Groups carry no meaning of their own: with all of them taken away, the same is judged.
pub groups_mean_nothing : (r : Reading) → judged (loaded_with r (ungrouped r.condition.load)) ≡ judged r
groups_mean_nothing r = judged_same r (ungrouped r.condition.load) r.condition.load (flat_ungrouped r.condition.load)

-- Any two loads with the same entries in the same order are judged alike, however they are grouped.
pub grouping_free : (r : Reading) (F G : Entries) → flat F ≡ flat G → judged (loaded_with r F) ≡ judged (loaded_with r G)
grouping_free r F G e = judged_same r F G e

-- ---- cargo tanks
-- The free surface moment of a C5 with a fill above 0 is its full moment, whatever the fill.
pub cargo_never_forgiven : (t : Tank) → 0 < t.fill → free_surface_of (tank cargo) t ≡ 1000 * t.density * t.inertia
cargo_never_forgiven t h = cargo_moment t h

-- C3 keeps document 01's rule: its full moment from fill 1 to 979, nothing from 980 on.
pub tank_forgiven : (t : Tank) → (0 < t.fill → t.fill < 980 → free_surface_of (tank ordinary) t ≡ 1000 * t.density * t.inertia) × (980 ≤ t.fill → free_surface_of (tank ordinary) t ≡ 0)
tank_forgiven t = (slack_moment t, forgiven t)

-- An empty tank has none, of either kind.
pub empty_has_none : (k : TankKind) (t : Tank) → t.fill ≡ 0 → free_surface_of (tank k) t ≡ 0
empty_has_none k t h = empty_none k t h

-- A C5 is allowed wherever a C3 is, in the condition and in groups of any depth: a reading with one of its C3s made a C5 is within the limits exactly when it was.
pub cargo_where_tank : (t : Tank) (r : Reading) (G : Entries) → MadeCargo t r.condition.load G → Limits r ↔ Limits (loaded_with r G)
cargo_where_tank t r G made = limits_alike r G made

-- The kind decides the free surface and nothing else: with a C3 made a C5 the sums of masses and of moments stay, and that of free surface moments has the C5's in the place of the C3's.
pub kind_decides_surface : (t : Tank) (F G : Entries) → MadeCargo t F G → (sum_leaves mass F ≡ sum_leaves mass G) × (sum_leaves moment F ≡ sum_leaves moment G)
    × (sum_leaves free_surface F + free_surface_of (tank cargo) t ≡ sum_leaves free_surface G + free_surface_of (tank ordinary) t)
kind_decides_surface t F G made = sums_made_cargo made

-- A C5 is tested as a C3. Take a text of lines within 180,000 characters and a block in it that begins with C3: a frame, the first block of a condition that fills its line, or one further on where blocks stand end to end, in groups or not. It may be well or ill, and so may what stands before it and behind it. Let it begin with C5:
-- the one text is refused exactly when the other is, with the same number, line and offset.
pub tested_as_tank : (ls ls' : List (List ℕ)) → RetaggedLines ls ls' → Lines ls → length (text ls) ≤ most_characters → (n l o : ℕ) → (read (text ls) ≡ refused n l o) ↔ (read (text ls') ≡ refused n l o)
tested_as_tank ls ls' retagged L h = refused_alike retagged L h

-- Where the first is read, so is the second: it says the same but for one tank, which is a C3 in the first and a C5 in the second.
pub tag_alone : (ls ls' : List (List ℕ)) → RetaggedLines ls ls' → Lines ls → length (text ls) ≤ most_characters
    → (r : Reading) → read (text ls) ≡ got r → (t : Tank) × (G : Entries) × MadeCargo t r.condition.load G × (read (text ls') ≡ got (loaded_with r G))
tag_alone ls ls' retagged L h = read_made_cargo retagged L h

-- That is so of each C3 of each text that is read: the text's lines, and those that its reading has with that C3 made a C5, are such a pair.
pub every_tank_retagged : (s : List ℕ) (r : Reading) → read s ≡ got r → (t : Tank) (G : Entries) → MadeCargo t r.condition.load G
    → RetaggedLines (frames r) (frames (loaded_with r G)) × Lines (frames r) × (text (frames r) ≡ s) × (length s ≤ most_characters)
every_tank_retagged s r e t G made = retagged_lines s r e G made

-- ---- timber on deck
-- A C6 is tested as a C1. Take a text of lines within 180,000 characters and a block in it that begins with C1: a frame, the first block of a condition that fills its line, or one further on where blocks stand end to end, in groups or not. It may be well or ill, and so may what stands before it and behind it. Let it begin with C6:
-- the one text is refused exactly when the other is, with the same number, line and offset.
pub tested_as_weather : (ls ls' : List (List ℕ)) → TimberLines ls ls' → Lines ls → length (text ls) ≤ most_characters → (n l o : ℕ) → (read (text ls) ≡ refused n l o) ↔ (read (text ls') ≡ refused n l o)
tested_as_weather ls ls' other L h = weathers.refused_alike other L h

-- Where the first is read, so is the second: it says the same but for the set, which is the Code's in the first and timber's in the second.
pub set_alone : (ls ls' : List (List ℕ)) → TimberLines ls ls' → Lines ls → length (text ls) ≤ most_characters
    → (r : Reading) → read (text ls) ≡ got r → (r.condition.weather.set ≡ code) × (read (text ls') ≡ got (reading_by timber r))
set_alone ls ls' other L h = weathers.read_in_timber other L h

-- That is so of each text that is read. With a C1: the text's lines, and those that its reading has in the timber set, are such a pair ..
pub every_weather_timber : (s : List ℕ) (r : Reading) → read s ≡ got r → r.condition.weather.set ≡ code
    → TimberLines (frames r) (frames (reading_by timber r)) × Lines (frames r) × (text (frames r) ≡ s) × (length s ≤ most_characters)
every_weather_timber s r e c = weathers.code_lines s r e c

-- .. and with a C6: those that its reading has in the Code's set, and the text's lines.
pub every_timber_weather : (s : List ℕ) (r : Reading) → read s ≡ got r → r.condition.weather.set ≡ timber
    → TimberLines (frames (reading_by code r)) (frames r) × Lines (frames (reading_by code r)) × (text (frames r) ≡ s) × (length (text (frames (reading_by code r))) ≤ most_characters)
every_timber_weather s r e c = weathers.timber_lines s r e c

-- ---- KG in tenths of a millimetre
-- KG's unit decides no refusal: a text of one condition is refused exactly when with KG in millimetres it is, with the same number, line and offset. KG is above 600,000 tenths exactly when it is above 60,000 mm.
pub unit_keeps_refusals : (t : List ℕ) (n l o : ℕ) → (answered t ≡ refused n l o) ↔ (answered_in millimetres t ≡ refused n l o)
unit_keeps_refusals = units.answered_refused_alike

-- 'Verdicts for a KG that came out whole stay as they were': a text that is read, with a KG in tenths that is ten times a whole number, has the answer that it has with KG in millimetres, the same refusal or the same eight verdicts, in either set;
-- the figures of KG, GM, the areas, the lever and the net are ten times those, and the others the same.
pub whole_kg_keeps_verdicts : (t : List ℕ) (r : Reading) → read t ≡ got r → (j : ℕ) → corrected_kg (entries_of r) ≡ 10 * j → answered t ≡ (answered_in millimetres t >>= λ J. got (manifold 10 J))
whole_kg_keeps_verdicts = answered_alike 10 millimetres (omega arith)

-- ---- what is refused
-- A text of lines within 180,000 characters is refused with 2 at a line and an offset exactly where a block is met there whose length runs past its parent, or one or two bytes where a block would begin.
pub two_iff_overrun : (ls : List (List ℕ)) → Lines ls → length (text ls) ≤ most_characters → (ln o : ℕ) → (read (text ls) ≡ refused 2 ln o) ↔ ((left : List ℕ) × Met ls ln o left × Overruns left)
two_iff_overrun ls B l ln o = two_overrun ls B l ln o

-- So, whatever else such a text holds: where such a block is met, the answer is refusal 2 at that block's line and offset.
pub overrun_refused : (ls : List (List ℕ)) (ln o : ℕ) (left : List ℕ) → Lines ls → length (text ls) ≤ most_characters → Met ls ln o left → Overruns left → read (text ls) ≡ refused 2 ln o
overrun_refused ls ln o left B l m v = (two_iff_overrun ls B l ln o).1 (left, m, v)

-- And no such text is ever read.
pub overrun_never_read : (ls : List (List ℕ)) (ln o : ℕ) (left : List ℕ) → Lines ls → length (text ls) ≤ most_characters → Met ls ln o left → Overruns left → ¬ Allowed (text ls)
overrun_never_read ls ln o left B l m v = not_both (text ls) 2 ln o (overrun_refused ls ln o left B l m v)

-- The surveyor's drawing, a group of tanks whose length runs past its parent but not past the line, is refused so.
pub drawing_is_refused : read drawing ≡ refused 2 4 21
drawing_is_refused = drawing_refused

-- A text of lines within 180,000 characters is refused with 10 exactly where a line is a row with a typing slip, at that line and offset 0.
pub ten_iff_slip : (ls : List (List ℕ)) → Lines ls → length (text ls) ≤ most_characters → (ln o : ℕ) → (read (text ls) ≡ refused 10 ln o) ↔ ((o ≡ 0) × Mistyped ls ln)
ten_iff_slip ls B c ln o = ten_slip ls B c ln o

-- A refusal depends on nothing behind the block that it names. Two texts of lines within 180,000 characters have the same lines before the one that is named; that line has one length in both (it is its frame's parent)
-- and the same bytes up to the end of the named block (for 2, 4 and 3: of its head); all that stands behind, in the line and in further lines, may differ: the refusal is the same.
-- Left out is 5 with no A3: it names no block but the text's end, and a further line would change it. Every other 5 stands in the line of an A3. Of 1 the next promise speaks.
pub first_fault : (front later later' : List (List ℕ)) (l l' : List ℕ) (n o : ℕ) → Lines (front ++ (l ∷ later)) → length (text (front ++ (l ∷ later))) ≤ most_characters
    → Lines (front ++ (l' ∷ later')) → length (text (front ++ (l' ∷ later'))) ≤ most_characters → SameBefore (looked_at l n o) l l' → (n ≡ 5 → get_or l 0 0 ≡ condition_tag)
    → read (text (front ++ (l ∷ later))) ≡ refused n (1 + length front) o → read (text (front ++ (l' ∷ later'))) ≡ refused n (1 + length front) o
first_fault front later later' l l' n o B c B' c' A five e = fault_stands front later later' l l' n o B c B' c' A five e

-- Nor does 1 depend on what stands behind the line that it names, within 180,000 characters: behind lines, characters that are no line, an LF and anything are refused with 1 there.
pub first_bad_line : (front : List (List ℕ)) (p rest : List ℕ) → Lines front → NoLine p → length (text front ++ (p ++ (LF ∷ rest))) ≤ most_characters → read (text front ++ (p ++ (LF ∷ rest))) ≡ refused 1 (1 + length front) 0
first_bad_line front p rest B N l = bad_line_lem front p rest B N l

-- So is a last line with no LF: behind lines, characters, at least one and none of them an LF, and then the end, are refused with 1 there, whatever they are.
pub first_open_line : (front : List (List ℕ)) (p : List ℕ) → Lines front → NoLF p → 0 < length p → length (text front ++ p) ≤ most_characters → read (text front ++ p) ≡ refused 1 (1 + length front) 0
first_open_line front p B N s l = open_line_lem front p B N s l

-- And nothing else is: a text within 180,000 characters is refused with 1 exactly where it is lines and behind them no line, at that line's number and offset 0.
pub one_iff_no_line : (t : List ℕ) → length t ≤ most_characters → (l o : ℕ) → (read t ≡ refused 1 l o) ↔ ((o ≡ 0) × FirstNoLine t l)
one_iff_no_line t c l o = one_no_line t c l o

-- A text is refused with 1 at line 0 and offset 0 exactly when it is over 180,000 characters.
pub one_iff_too_long : (t : List ℕ) → (read t ≡ refused 1 0 0) ↔ (most_characters < length t)
one_iff_too_long t = one_too_long t

-- Every text that is refused with another number than 1 is lines, within 180,000 characters: so the promises above that ask for these leave none of them out.
pub lines_before_blocks : (t : List ℕ) (n l o : ℕ) → read t ≡ refused n l o → n ≢ 1 → (ls : List (List ℕ)) × Lines ls × (text ls ≡ t) × (length t ≤ most_characters)
lines_before_blocks t n l o e h = lines_unless_one t n l o e h

-- ---- where a refusal stands
-- Every refusal of a text has a number from 1 to 8, or 10, and its place lies within the text. For 1 it is one of the text's own lines, with offset 0, or line 0 and offset 0 where the text is over 180,000 characters.
-- For 2 to 6 it is a byte of one of the text's own lines; for 5 also line 0 and offset 0 where the text is empty. For 10 it is the first byte of one. For 7 and 8 it is line 0 and offset 0.
pub place_within : (t : List ℕ) (n l o : ℕ) → answered t ≡ refused n l o → Placed t n l o
place_within t n l o e = places.place_within t n l o e

-- Line n of a text is one list of characters and no other.
pub one_line : (t : List ℕ) (n : ℕ) (p p' : List ℕ) → LineAt t n p → LineAt t n p' → p ≡ p'
one_line t n p p' a b = line_unique a b
