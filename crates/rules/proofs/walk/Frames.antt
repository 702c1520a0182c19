-- The frames are sound and complete: ship, rows and condition are read exactly where the lines spell them within the limits.
use mathlib.Core.Path.{◌≡◌, refl, ap, ap₂, sym, ◌∙◌}
use mathlib.Core.Bool.{Bool, true, false, cond}
use mathlib.Core.List.{List, [], ◌∷◌, ◌++◌, append-nil}
use Prim.Native.Nat.{ℕ, ◌+◌, ◌-◌, ◌≤◌, ◌<◌}
use native.Mathlib.Omega.{arith}
use lib.ListN.{length, get_or}
use lib.Dec.{eqb}
use borrow.Author.Tests.{ltb-true, leb-true, eqb-true, lt-ltb, le-leb}
use Rattle.rules.specs.Numbers.{Bytes}
use Rattle.rules.specs.Text.{Lines}
use Rattle.rules.specs.Blocks.{block, spell_values, Layout, ok, spell_block, Ship, ship, Row, row, smooth, condition_tag}
use Rattle.rules.specs.Layout.{Condition, Reading, spell_condition, row_frames, frames, Rising, NoSlips, fewest_rows, most_rows, most_bytes, ConditionLimits}
use Rattle.rules.specs.Outcome.{Ans, refused, got, ◌>>=◌}
use Rattle.rules.specs.Walk.{Head, header, inside, condition_in, fixed_in, ship_frame, row_in, Frame, a_row, a_condition, frame_of, Found, table_row, the_condition, found, frame_at, closed, Tail, after, tail, read_frames}
use Rattle.rules.proofs.walk.Outcome.{refused_got, bind_inv, test_inv, bind_got, test_got}
use Rattle.rules.proofs.layout.Fields.{Lawful, length_fits, ship_lawful, row_lawful}
use Rattle.rules.proofs.walk.Heads.{Bytes-block, Bytes-fixed, header_sound, header_got, header_tag, fixed_sound, fixed_got}
use Rattle.rules.proofs.walk.FrameExits.{row_slip, row_got}
use Rattle.rules.proofs.walk.Conditions.{Bytes-condition, inside_sound, inside_got}

-- ---- a frame that fills its line
nil_of_length : {A : Type 0} (s : List A) → length s ≡ 0 → s ≡ []
nil_of_length [] e = refl
nil_of_length (x ∷ s) e = absurd (omega arith)

pub frame_sound : (ln : ℕ) (l : List ℕ) (h : Head) → Bytes l → header ln 0 l ≡ got h → eqb (length h.rest) 0 ≡ true → (block h.tag h.body ≡ l) × Bytes h.body
frame_sound ln l h B e z =
    let s = header_sound ln 0 l h B e in
    let n : h.rest ≡ [] = nil_of_length h.rest (eqb-true (length h.rest) 0 z) in
    (sym (append-nil (block h.tag h.body)) ∙ ap (block h.tag h.body ++◌) (sym n) ∙ s.0, s.1)

pub frame_got : (ln t : ℕ) (body : List ℕ) → length body < 65_536 → header ln 0 (block t body) ≡ got (record { tag = t; body = body; rest = [] })
frame_got ln t body l = ap (header ln 0) (sym (append-nil (block t body))) ∙ header_got ln 0 t body [] l

pub fixed_in_sound : {A : Type 0} (ln : ℕ) (L : Layout A) (W : Lawful L) (l : List ℕ) (h : Head) (a : A) → Bytes l → header ln 0 l ≡ got h → fixed_in ln L h ≡ got a
    → (block h.tag (spell_values L.fields (L.listed a)) ≡ l) × (ok L a ≡ true)
unfolding fixed_in
fixed_in_sound ln L W l h a B eh e =
    let x = test_inv _ _ _ _ _ e in
    let m = frame_sound ln l h B eh x.0 in
    let f = fixed_sound ln 0 L W true h.body a m.1 x.1 in
    (ap (block h.tag) f.0 ∙ m.0, f.2)

pub fixed_in_got : {A : Type 0} (ln : ℕ) (L : Layout A) (W : Lawful L) (a : A) → ok L a ≡ true → fixed_in ln L (record { tag = L.tag; body = spell_values L.fields (L.listed a); rest = [] }) ≡ got a
unfolding fixed_in
fixed_in_got ln L W a e = test_got _ _ _ _ refl ∙ fixed_got ln 0 L W true a refl e

-- ---- a row
-- What a row must be behind one with W = p.
abbrev pub RowPasses : ℕ → Row → Type 0
RowPasses p v = (ok row v ≡ true) × (p < v.mass) × (smooth v.kn ≡ true)

pub row_in_sound : (ln p : ℕ) (l : List ℕ) (h : Head) (v : Row) → Bytes l → header ln 0 l ≡ got h → row_in ln p h ≡ got v → (block h.tag (spell_values row.fields (row.listed v)) ≡ l) × RowPasses p v
unfolding row_in
row_in_sound ln p l h v B eh e =
    let w = bind_inv _ _ e in
    let a = test_inv _ _ _ _ _ w.2 in
    let c = test_inv _ _ _ _ _ a.1 in
    let f = fixed_in_sound ln row row_lawful l h w.0 B eh w.1 in
    let q : w.0 ≡ v = cc in
    rw (← q) (f.0, (f.1, ltb-true p w.0.mass a.0, c.0))

-- Its own frame, its limits and its W being as they must be: it is read, or has 10.
abbrev pub row_head : Row → Head
row_head v = record { tag = row.tag; body = spell_values row.fields (row.listed v); rest = [] }

pub row_in_got : (ln p : ℕ) (v : Row) → RowPasses p v → row_in ln p (row_head v) ≡ got v
row_in_got ln p v F = row_got ln p (row_head v) v (fixed_in_got ln row row_lawful v F.0) F.1 F.2

pub row_in_slip : (ln p : ℕ) (v : Row) → ok row v ≡ true → p < v.mass → smooth v.kn ≡ false → row_in ln p (row_head v) ≡ refused 10 ln 0
row_in_slip ln p v e r s = row_slip ln p (row_head v) v (fixed_in_got ln row row_lawful v e) r s

-- ---- sound
abbrev pub code : Frame → ℕ
code a_row = row.tag
code a_condition = condition_tag

pub frame_of_sound : (ln t : ℕ) (x : Frame) → frame_of ln t ≡ got x → code x ≡ t
unfolding frame_of
frame_of_sound ln t x e = go (eqb t row.tag) (eqb t condition_tag) refl refl e
  where
    go : (a b : Bool) → eqb t row.tag ≡ a → eqb t condition_tag ≡ b → cond a (got a_row) (cond b (got a_condition) (refused 4 ln 0)) ≡ got x → code x ≡ t
    go true b p q e = let z : a_row ≡ x = cc in rw (← z) (sym (eqb-true _ _ p))
    go false true p q e = let z : a_condition ≡ x = cc in rw (← z) (sym (eqb-true _ _ q))
    go false false p q e = refused_got e

-- The tags of a frame that is read as a row's, and of the ship's.
pub row_tag : (ln k p : ℕ) (l : List ℕ) (v : Row) → frame_at ln k p l ≡ got (table_row v) → get_or l 0 0 ≡ row.tag
unfolding frame_at found
row_tag ln k p l v e =
    let a = bind_inv _ _ e in
    let b = bind_inv _ _ a.2 in
    header_tag ln 0 l a.0 a.1 ∙ go a.0 b.0 (frame_of_sound ln a.0.tag b.0 b.1) b.2
  where
    go : (h : Head) (t : Frame) → code t ≡ h.tag → found ln k p h t ≡ got (table_row v) → h.tag ≡ row.tag
    go h a_row c e = sym c
    go h a_condition c e = absurd (let x = bind_inv _ _ (test_inv _ _ _ _ _ e).1 in let z : ◌≡◌ {A = ℕ} 0 1 = cc in omega arith)

pub ship_tag : (ln : ℕ) (l : List ℕ) (v : Ship) → ship_frame ln l ≡ got v → get_or l 0 0 ≡ ship.tag
unfolding ship_frame
ship_tag ln l v e =
    let a = bind_inv _ _ e in
    let b = test_inv _ _ _ _ _ a.2 in
    header_tag ln 0 l a.0 a.1 ∙ eqb-true _ _ b.0

pub ship_sound : (ln : ℕ) (l : List ℕ) (v : Ship) → Bytes l → ship_frame ln l ≡ got v → (spell_block ship v ≡ l) × (ok ship v ≡ true)
unfolding ship_frame spell_block
ship_sound ln l v B e =
    let h = bind_inv _ _ e in
    let a = test_inv _ _ _ _ _ h.2 in
    let f = fixed_in_sound ln ship ship_lawful l h.0 v B h.1 a.1 in
    (ap (λ z. block z (spell_values ship.fields (ship.listed v))) (sym (eqb-true _ _ a.0)) ∙ f.0, f.1)

closed_sound : (ln : ℕ) (ls : List (List ℕ)) (u : Unit {0}) → closed ln ls ≡ got u → ls ≡ []
unfolding closed
closed_sound ln [] u e = refl
closed_sound ln (l ∷ ls) u e = refused_got (bind_inv _ _ e).2

-- What one frame after the ship's tells, k rows being before it, the last with W = p.
abbrev pub FrameSpelled : ℕ → ℕ → List ℕ → Found → Type 0
FrameSpelled k p l (table_row v) = (spell_block row v ≡ l) × RowPasses p v × (k < most_rows)
FrameSpelled k p l (the_condition c) = (block condition_tag (spell_condition c) ≡ l) × ConditionLimits c × (fewest_rows ≤ k)

-- What the frames after the ship's tell.
record TailSpelled (k p : ℕ) (x : Tail) (ls : List (List ℕ)) : Type 0 where
  spells : row_frames x.rows x.condition ≡ ls
  rising : Rising p x.rows
  no_slips : NoSlips x.rows
  few : fewest_rows ≤ k + length x.rows
  many : length x.rows ≤ most_rows - k
  loaded : ConditionLimits x.condition

abbrev Sound : (ℕ → ℕ → ℕ → Ans Tail) → List (List ℕ) → Type 0
Sound w ls = (ln k p : ℕ) (x : Tail) → w ln k p ≡ got x → TailSpelled k p x ls

found_sound : (ln k p : ℕ) (l : List ℕ) (h : Head) (t : Frame) (f : Found) → Bytes l → header ln 0 l ≡ got h → code t ≡ h.tag → found ln k p h t ≡ got f → FrameSpelled k p l f
unfolding found condition_in spell_block
found_sound ln k p l h a_row f B eh ct e =
    let a = test_inv _ _ _ _ _ e in
    let v = bind_inv _ _ a.1 in
    let s = row_in_sound ln p l h v.0 B eh v.1 in
    let q : table_row v.0 ≡ f = cc in
    rw (← q) (ap (λ x. block x (spell_values row.fields (row.listed v.0))) ct ∙ s.0, s.1, ltb-true k most_rows a.0)
found_sound ln k p l h a_condition f B eh ct e =
    let a = test_inv _ _ _ _ _ e in
    let c = bind_inv _ _ a.1 in
    let b = test_inv _ _ _ _ _ c.1 in
    let m = test_inv _ _ _ _ _ b.1 in
    let s = frame_sound ln l h B eh b.0 in
    let i = inside_sound ln h.body c.0 s.1 (leb-true _ _ m.0) m.1 in
    let q : the_condition c.0 ≡ f = cc in
    rw (← q) (ap₂ block ct i.0 ∙ s.0, i.1, leb-true fewest_rows k a.0)

pub frame_at_sound : (ln k p : ℕ) (l : List ℕ) (f : Found) → Bytes l → frame_at ln k p l ≡ got f → FrameSpelled k p l f
unfolding frame_at
frame_at_sound ln k p l f B e =
    let a = bind_inv _ _ e in
    let b = bind_inv _ _ a.2 in
    found_sound ln k p l a.0 b.0 f B a.1 (frame_of_sound ln a.0.tag b.0 b.1) b.2

after_sound : (w : ℕ → ℕ → ℕ → Ans Tail) (ls : List (List ℕ)) → Sound w ls → (ln k p : ℕ) (l : List ℕ) (f : Found) (x : Tail) → FrameSpelled k p l f → after w ls ln k f ≡ got x → TailSpelled k p x (l ∷ ls)
unfolding after row_frames Rising NoSlips
after_sound w ls S ln k p l (table_row v) x T e =
    let y = bind_inv _ _ e in
    let t = S _ _ _ y.0 y.1 in
    let q : ◌≡◌ {A = Tail} (record { rows = v ∷ y.0.rows; condition = y.0.condition }) x = cc in
    rw (← q) (record { spells = ap₂ ◌∷◌ T.0 t.spells; rising = (T.1.0, T.1.1, t.rising); no_slips = (T.1.2, t.no_slips); few = omega (arith, t.few); many = omega (arith, t.many, T.2); loaded = t.loaded })
after_sound w ls S ln k p l (the_condition c) x T e =
    let z = bind_inv _ _ e in
    let q : ◌≡◌ {A = Tail} (record { rows = []; condition = c }) x = cc in
    rw (← q) (record { spells = ap₂ ◌∷◌ T.0 (sym (closed_sound _ ls z.0 z.1)); rising = tt; no_slips = tt; few = omega (arith, T.2); many = omega arith; loaded = T.1 })

tail_sound : (ls : List (List ℕ)) → Lines ls → Sound (tail ls) ls
unfolding tail Lines
tail_sound [] B ln k p x e = refused_got e
tail_sound (l ∷ ls) B ln k p x e =
    let a = bind_inv _ _ e in
    after_sound (tail ls) ls (tail_sound ls B.2) ln k p l a.0 x (frame_at_sound ln k p l a.0 B.1 a.1) a.2

-- What the lines of a text tell.
pub record Framed (r : Reading) (ls : List (List ℕ)) : Type 0 where
  pub spells : frames r ≡ ls
  pub hull : ok ship r.ship ≡ true
  pub rising : Rising 0 r.rows
  pub no_slips : NoSlips r.rows
  pub few : fewest_rows ≤ length r.rows
  pub many : length r.rows ≤ most_rows
  pub loaded : ConditionLimits r.condition

pub read_frames_sound : (ls : List (List ℕ)) (r : Reading) → Lines ls → read_frames ls ≡ got r → Framed r ls
unfolding read_frames frames Lines
read_frames_sound [] r B e = refused_got e
read_frames_sound (l ∷ ls) r B e =
    let v = bind_inv _ _ e in
    let x = bind_inv _ _ v.2 in
    let f = ship_sound 1 l v.0 B.1 v.1 in
    let s = tail_sound ls B.2 2 0 0 x.0 x.1 in
    let q : ◌≡◌ {A = Reading} (record { ship = v.0; rows = x.0.rows; condition = x.0.condition }) r = cc in
    rw (← q) (record { spells = ap₂ ◌∷◌ f.0 s.spells; hull = f.1; rising = s.rising; no_slips = s.no_slips; few = omega (arith, s.few); many = omega (arith, s.many); loaded = s.loaded })

-- ---- complete
-- The ship's frame, a row's and the condition's, where they are as they must be.
pub ship_got : (ln : ℕ) (v : Ship) → ok ship v ≡ true → ship_frame ln (spell_block ship v) ≡ got v
unfolding ship_frame spell_block
ship_got ln v e = bind_got _ (frame_got ln ship.tag (spell_values ship.fields (ship.listed v)) (length_fits ship ship_lawful v e)) ∙ test_got _ _ _ _ refl ∙ fixed_in_got ln ship ship_lawful v e

-- A row's frame, in its place, comes to the row's own tests.
pub row_frame : (ln k p : ℕ) (v : Row) → ok row v ≡ true → k < most_rows → frame_at ln k p (spell_block row v) ≡ (row_in ln p (row_head v) >>= λ u. got (table_row u))
unfolding frame_at frame_of found spell_block
row_frame ln k p v e m = bind_got _ (frame_got ln row.tag (spell_values row.fields (row.listed v)) (length_fits row row_lawful v e)) ∙ bind_got _ refl ∙ test_got _ _ _ _ (lt-ltb k most_rows m)

pub tail_row : (v : Row) (ls : List (List ℕ)) (ln k p : ℕ) → RowPasses p v → k < most_rows
    → tail (spell_block row v ∷ ls) ln k p ≡ (tail ls (ln + 1) (k + 1) v.mass >>= λ x. got (record { rows = v ∷ x.rows; condition = x.condition }))
unfolding tail after
tail_row v ls ln k p F m = bind_got _ (row_frame ln k p v F.0 m ∙ bind_got _ (row_in_got ln p v F))

pub condition_frame : (ln k p : ℕ) (body : List ℕ) → fewest_rows ≤ k → length body ≤ most_bytes → frame_at ln k p (block condition_tag body) ≡ (inside ln body >>= λ c. got (the_condition c))
unfolding frame_at frame_of found condition_in
condition_frame ln k p body h l =
    bind_got _ (frame_got ln condition_tag body (omega arith)) ∙ bind_got _ refl ∙ test_got _ _ _ _ (le-leb fewest_rows k h)
    ∙ ap (◌>>= λ c. got (the_condition c)) (test_got _ _ _ _ refl ∙ test_got _ _ _ _ (le-leb _ _ l))

tail_got : (vs : List Row) (c : Condition) (ln k p : ℕ) → Rising p vs → NoSlips vs → fewest_rows ≤ k + length vs → length vs ≤ most_rows - k → ConditionLimits c → tail (row_frames vs c) ln k p ≡ got (record { rows = vs; condition = c })
unfolding row_frames Rising NoSlips tail after closed
tail_got [] c ln k p R S a b l = bind_got _ (condition_frame ln k p (spell_condition c) (omega arith) l.long ∙ bind_got _ (inside_got ln c l)) ∙ bind_got _ refl
tail_got (v ∷ vs) c ln k p R S a b l = tail_row v (row_frames vs c) ln k p (R.0, R.1, S.0) (omega arith) ∙ bind_got _ (tail_got vs c (ln + 1) (k + 1) v.mass R.2 S.1 (omega arith) (omega arith) l)

pub read_frames_got : (r : Reading) → Framed r (frames r) → read_frames (frames r) ≡ got r
unfolding read_frames frames
read_frames_got r F = bind_got _ (ship_got 1 r.ship F.hull) ∙ bind_got _ (tail_got r.rows r.condition 2 0 0 F.rising F.no_slips (omega (arith, F.few)) (omega (arith, F.many)) F.loaded)

-- What is spelled is lines.
Lines-rows : (vs : List Row) (c : Condition) (p : ℕ) → Rising p vs → ConditionLimits c → Lines (row_frames vs c)
unfolding row_frames Rising Lines spell_block block
Lines-rows [] c p R l = (refl, Bytes-block condition_tag (spell_condition c) (omega arith) (omega (arith, l.long)) (Bytes-condition c l), tt)
Lines-rows (v ∷ vs) c p R l = (refl, Bytes-fixed row row_lawful v R.0, Lines-rows vs c v.mass R.2 l)

pub Lines-frames : (r : Reading) → Framed r (frames r) → Lines (frames r)
unfolding frames Lines spell_block block
Lines-frames r F = (refl, Bytes-fixed ship ship_lawful r.ship F.hull, Lines-rows r.rows r.condition 0 F.rising F.loaded)
