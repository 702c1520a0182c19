-- Every block of a reading lies wholly inside its parent; the blocks of a parent stand end to end and fill it.
use mathlib.Core.Path.{◌≡◌, refl, ap, sym, ◌∙◌}
use mathlib.Core.Bool.{true}
use mathlib.Core.List.{List, [], ◌∷◌, ◌++◌, append-nil, append_assoc}
use Prim.Native.Nat.{ℕ, ◌+◌, ◌<◌}
use native.Mathlib.Omega.{arith}
use lib.ListN.{length, get_or, length-append}
use lib.Seq.{get_or-append_seam, get_or-append-add}
use Rattle.rules.specs.Numbers.{num, digits}
use Rattle.rules.specs.Blocks.{block, spell_values, Layout, ok, Row, ship, row, condition_tag, weather, entry, group_tag, spell_block, spell_weather}
use Rattle.rules.specs.Layout.{Entries, end, leaf, group, Condition, Reading, spell, spell_condition, row_frames, frames, Rising, ConditionLimits, Limits}
use Rattle.rules.specs.Parts.{be2}
use Rattle.rules.specs.Places.{end_of, Fills, FrameFills, FramesFill, ConditionFills, LinesFill}
use Rattle.rules.proofs.layout.Numbers.{num_digits}
use Rattle.rules.proofs.layout.Fields.{Lawful, length_fits, ship_lawful, row_lawful}
use Rattle.rules.proofs.walk.Conditions.{weather_body, length_condition}
use Rattle.rules.proofs.walk.Entries.{length_leaf, length_group}

-- A block that stands in a line says its tag and its length there.
block_at_lem : (line front : List ℕ) (at t : ℕ) (body rest : List ℕ) → line ≡ front ++ (block t body ++ rest) → length front ≡ at → length body < 65_536
    → (get_or line at 0 ≡ t) × (be2 line (at + 1) ≡ length body)
unfolding block num
block_at_lem line front at t body rest e l s =
    let g : (n : ℕ) → get_or line (at + n) 0 ≡ get_or (block t body ++ rest) n 0 = λ n. rw (e, ← l) (get_or-append-add front (block t body ++ rest) n 0) in
    let x : get_or line at 0 ≡ t = rw (e, ← l) (get_or-append_seam front t _ 0) in
    let y = g 1 in
    let z = g 2 in
    let w : at + 1 + 1 ≡ at + 2 = omega arith in
    (x, rw (w, y, z) (omega (arith, num_digits 2 (length body) s)))

-- What stands behind a block's head, and what behind its end.
behind_head : (front : List ℕ) (t : ℕ) (body rest back : List ℕ) → front ++ ((block t body ++ rest) ++ back) ≡ (front ++ (t ∷ digits 2 (length body))) ++ (body ++ (rest ++ back))
unfolding block
behind_head front t body rest back = simp append_assoc

behind_end : (front : List ℕ) (t : ℕ) (body rest back : List ℕ) → front ++ ((block t body ++ rest) ++ back) ≡ (front ++ block t body) ++ (rest ++ back)
behind_end front t body rest back = simp append_assoc

length_head : (front : List ℕ) (t n : ℕ) → length (front ++ (t ∷ digits 2 n)) ≡ length front + 3
unfolding digits
length_head front t n = length-append front (t ∷ digits 2 n)

length_end : (front : List ℕ) (t : ℕ) (body : List ℕ) → length (front ++ block t body) ≡ length front + 3 + length body
unfolding block
length_end front t body = rw (length-append front (block t body)) (omega arith)

-- Entries that are spelled in a line, from behind `front` on, fill what they take up.
fills : (F : Entries) (line front back : List ℕ) (at b : ℕ) → line ≡ front ++ (spell F ++ back) → length front ≡ at → at + length (spell F) ≡ b → length (spell F) < 65_536 → Fills line at b F
unfolding Fills spell spell_block
fills end line front back at b e l p s = omega arith
fills (leaf k v r) line front back at b e l p s =
    let body : List ℕ = spell_values (entry k).fields ((entry k).listed v) in
    let L = length_leaf k v r in
    let B = block_at_lem line front at (entry k).tag body (spell r ++ back) (e ∙ ap (front ++◌) (append_assoc (block (entry k).tag body) (spell r) back)) l (omega arith) in (
      B.0,
      omega (arith, B.1),
      fills r line (front ++ block (entry k).tag body) back (end_of line at) b (e ∙ behind_end front (entry k).tag body (spell r) back) (rw (length_end front (entry k).tag body) (omega (arith, B.1))) (omega (arith, B.1)) (omega arith),
    )
fills (group g r) line front back at b e l p s =
    let L = length_group g r in
    let B = block_at_lem line front at group_tag (spell g) (spell r ++ back) (e ∙ ap (front ++◌) (append_assoc (block group_tag (spell g)) (spell r) back)) l (omega arith) in (
      B.0,
      omega (arith, B.1),
      fills g line (front ++ (group_tag ∷ digits 2 (length (spell g)))) (spell r ++ back) (at + 3) (end_of line at) (e ∙ behind_head front group_tag (spell g) (spell r) back) (rw (length_head front group_tag (length (spell g))) (omega arith)) (omega (arith, B.1)) (omega arith),
      fills r line (front ++ block group_tag (spell g)) back (end_of line at) b (e ∙ behind_end front group_tag (spell g) (spell r) back) (rw (length_end front group_tag (spell g)) (omega (arith, B.1))) (omega (arith, B.1)) (omega arith),
    )

-- A frame, and the condition in its frame.
frame_fills : (t : ℕ) (body : List ℕ) → length body < 65_536 → FrameFills (block t body)
frame_fills t body s =
    let B = block_at_lem (block t body) [] 0 t body [] (sym (append-nil (block t body))) refl s in
    let L : length (block t body) ≡ 3 + length body = length_end [] t body in
    omega (arith, B.1)

-- A block of fixed size.
pub fixed_fills : {A : Type 0} (L : Layout A) → Lawful L → (v : A) → ok L v ≡ true → FrameFills (spell_block L v)
unfolding spell_block
fixed_fills L W v e = frame_fills L.tag (spell_values L.fields (L.listed v)) (length_fits L W v e)

-- The line of A3: its head, then what is inside.
condition_line_lem : (c : Condition) → block condition_tag (spell_condition c) ≡ (condition_tag ∷ digits 2 (length (spell_condition c))) ++ (spell_weather c.weather ++ spell c.load)
unfolding block spell_condition
condition_line_lem c = refl

pub condition_fills : (c : Condition) → length (spell_condition c) < 65_536 → ConditionFills (block condition_tag (spell_condition c)) c
unfolding spell_block
condition_fills c s =
    let line : List ℕ = block condition_tag (spell_condition c) in
    let head : List ℕ = condition_tag ∷ digits 2 (length (spell_condition c)) in
    let body : List ℕ = weather_body c.weather in
    let t = (weather c.weather.set).tag in
    let e : line ≡ head ++ (block t body ++ spell c.load) = condition_line_lem c in
    let L = length_condition c in
    let M : length line ≡ 3 + length (spell_condition c) = length_end [] condition_tag (spell_condition c) in
    let H : length head ≡ 3 = length_head [] condition_tag (length (spell_condition c)) in
    let A = block_at_lem line [] 0 condition_tag (spell_condition c) [] (sym (append-nil line)) refl s in
    let B = block_at_lem line head 3 t body (spell c.load) e H (omega arith) in
    record {
      frame = frame_fills condition_tag (spell_condition c) s;
      frame_tag = A.0;
      weather_tag = B.0;
      weather_inside = omega (arith, B.1);
      load =
          fills c.load line (head ++ block t body) [] (end_of line 3) (length line) (e ∙ sym (append_assoc head (block t body) (spell c.load)) ∙ ap ((head ++ block t body) ++◌) (sym (append-nil (spell c.load)))) (rw (length_end head t body) (omega (arith, B.1))) (omega (arith, B.1)) (omega arith);
    }

-- All lines of a reading.
rows_fill : (vs : List Row) (c : Condition) (p : ℕ) → Rising p vs → ConditionLimits c → LinesFill (row_frames vs c) c
unfolding row_frames Rising FramesFill
rows_fill [] c p R l = record { front = []; last = block condition_tag (spell_condition c); lines = refl; frames = tt; condition = condition_fills c (omega (arith, l.long)) }
rows_fill (v ∷ vs) c p R l =
    let x = rows_fill vs c v.mass R.2 l in
    record {
      front = spell_block row v ∷ x.front;
      last = x.last;
      lines = ap (spell_block row v ∷◌) x.lines;
      frames = (fixed_fills row row_lawful v R.0, x.frames);
      condition = x.condition;
    }

pub reading_fills : (r : Reading) → Limits r → LinesFill (frames r) r.condition
unfolding frames FramesFill
reading_fills r l =
    let x = rows_fill r.rows r.condition 0 l.rising l.loaded in
    record {
      front = spell_block ship r.ship ∷ x.front;
      last = x.last;
      lines = ap (spell_block ship r.ship ∷◌) x.lines;
      frames = (fixed_fills ship ship_lawful r.ship l.hull, x.frames);
      condition = x.condition;
    }
