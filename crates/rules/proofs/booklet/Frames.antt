-- The blocks of the whole text are sound and complete: ship, rows and condition lines are found exactly where the lines spell them within the limits.
use mathlib.Core.Path.{◌≡◌, refl, ap, ap₂, sym, ◌∙◌}
use mathlib.Core.Bool.{Bool, true, false, ◌&&◌}
use mathlib.Core.List.{List, [], ◌∷◌}
use Prim.Native.Nat.{ℕ, ◌+◌, ◌-◌, ◌≤◌, ◌<◌}
use native.Mathlib.Omega.{arith}
use lib.ListN.{length, get_or}
use lib.Dec.{leb}
use borrow.Author.Tests.{ltb-true, leb-true, eqb-true, lt-ltb, le-leb}
use Rattle.rules.specs.Numbers.{Bytes, full}
use Rattle.rules.specs.Text.{Lines}
use Rattle.rules.specs.Blocks.{block, spell_values, ok, spell_block, ship, Row, row, smooth, condition_tag}
use Rattle.rules.specs.Layout.{Rising, NoSlips, fewest_rows, most_rows, is_condition, Booklet}
use Rattle.rules.specs.Outcome.{refused, got}
use Rattle.rules.specs.Walk.{row_in, closed}
use Rattle.rules.specs.Met.{behind_rows}
use Rattle.rules.specs.Booklet.{row_at, only_conditions, Behind, behind_ship, book_frames}
use Rattle.rules.specs.Apart.{BeginA3, lines_of, WholeLimits}
use Rattle.rules.proofs.layout.Fields.{length_fits, ship_lawful, row_lawful, both_true}
use Rattle.rules.proofs.walk.Outcome.{refused_got, bind_inv, test_inv, bind_got, test_got}
use Rattle.rules.proofs.walk.Heads.{Bytes-fixed}
use Rattle.rules.proofs.walk.Frames.{frame_got, RowPasses, row_in_sound, row_head, row_in_got, row_in_slip, ship_sound, ship_got}
use Rattle.rules.proofs.booklet.Counted.{begins, only_a3, only_other, behind_a3, behind_row}

-- ---- a row
pub row_sound : (ln k p : ℕ) (l : List ℕ) (v : Row) → Bytes l → row_at ln k p l ≡ got v → (spell_block row v ≡ l) × RowPasses p v × (k < most_rows)
unfolding row_at spell_block
row_sound ln k p l v B e =
    let h = bind_inv _ _ e in
    let a = test_inv _ _ _ _ _ h.2 in
    let b = test_inv _ _ _ _ _ a.1 in
    let f = row_in_sound ln p l h.0 v B h.1 b.1 in
    (ap (λ z. block z (spell_values row.fields (row.listed v))) (sym (eqb-true _ _ a.0)) ∙ f.0, f.1, ltb-true k most_rows b.0)

-- A row's own frame, in its place, comes to its tests.
row_begun : (ln k p : ℕ) (v : Row) → ok row v ≡ true → k < most_rows → row_at ln k p (spell_block row v) ≡ row_in ln p (row_head v)
unfolding row_at spell_block
row_begun ln k p v e m =
    bind_got _ (frame_got ln row.tag (spell_values row.fields (row.listed v)) (length_fits row row_lawful v e)) ∙ test_got _ _ _ _ refl ∙ test_got _ _ _ _ (lt-ltb k most_rows m)

pub row_got : (ln k p : ℕ) (v : Row) → RowPasses p v → k < most_rows → row_at ln k p (spell_block row v) ≡ got v
row_got ln k p v F m = row_begun ln k p v F.0 m ∙ row_in_got ln p v F

pub row_slip : (ln k p : ℕ) (v : Row) → ok row v ≡ true → p < v.mass → smooth v.kn ≡ false → k < most_rows → row_at ln k p (spell_block row v) ≡ refused 10 ln 0
row_slip ln k p v e r s m = row_begun ln k p v e m ∙ row_in_slip ln p v e r s

-- ---- behind the first A3
only_sound : (ls : List (List ℕ)) → Lines ls → (ln : ℕ) (u : Unit {0}) → only_conditions ln ls ≡ got u → BeginA3 ls
unfolding Lines BeginA3 closed
only_sound [] B ln u e = tt
only_sound (l ∷ ls) B ln u e = go (only_sound ls B.2 (ln + 1) u) (is_condition l) refl
  where
    go : (only_conditions (ln + 1) ls ≡ got u → BeginA3 ls) → (c : Bool) → is_condition l ≡ c → (get_or l 0 0 ≡ condition_tag) × Bytes l × BeginA3 ls
    go H true p = (eqb-true _ _ p, B.1, H (sym (only_a3 l ls ln p) ∙ e))
    go H false p = refused_got (bind_inv _ _ (sym (only_other l ls ln p) ∙ e)).2

only_got : (ls : List (List ℕ)) → BeginA3 ls → (ln : ℕ) → only_conditions ln ls ≡ got tt
unfolding only_conditions BeginA3
only_got [] B ln = refl
only_got (l ∷ ls) B ln = only_a3 l ls ln (begins l B.0) ∙ only_got ls B.2 (ln + 1)

-- ---- behind the ship
-- What the lines behind the ship's tell, k rows being before them, the last with W = p.
record Told (k p : ℕ) (x : Behind) (ls : List (List ℕ)) : Type 0 where
  spells : behind_rows x.rows x.conditions ≡ ls
  rising : Rising p x.rows
  no_slips : NoSlips x.rows
  few : fewest_rows ≤ k + length x.rows
  many : length x.rows ≤ most_rows - k
  begin : BeginA3 x.conditions
  some : 1 ≤ length x.conditions

behind_sound : (ls : List (List ℕ)) → Lines ls → (ln k p : ℕ) (x : Behind) → behind_ship ls ln k p ≡ got x → Told k p x ls
unfolding behind_ship Lines BeginA3 behind_rows Rising NoSlips
behind_sound [] B ln k p x e = refused_got e
behind_sound (l ∷ ls) B ln k p x e = go (behind_sound ls B.2) (is_condition l && leb fewest_rows k) refl
  where
    go : ((ln k p : ℕ) (x : Behind) → behind_ship ls ln k p ≡ got x → Told k p x ls) → (c : Bool) → (is_condition l && leb fewest_rows k) ≡ c → Told k p x (l ∷ ls)
    go H true q =
        let a = bind_inv _ _ (sym (behind_a3 l ls ln k p q) ∙ e) in
        let i : (is_condition l ≡ true) × (leb fewest_rows k ≡ true) = both_true _ _ q in
        let f = leb-true fewest_rows k i.1 in
        let z : ◌≡◌ {A = Behind} (record { rows = []; conditions = l ∷ ls }) x = cc in
        rw (← z) (record { spells = refl; rising = tt; no_slips = tt; few = omega arith; many = omega arith; begin = (eqb-true _ _ i.0, B.1, only_sound ls B.2 _ a.0 a.1); some = omega arith })
    go H false q =
        let a = bind_inv _ _ (sym (behind_row l ls ln k p q) ∙ e) in
        let y = bind_inv _ _ a.2 in
        let r = row_sound ln k p l a.0 B.1 a.1 in
        let t = H _ _ _ y.0 y.1 in
        let z : ◌≡◌ {A = Behind} (record { rows = a.0 ∷ y.0.rows; conditions = y.0.conditions }) x = cc in
        rw (← z) (record { spells = ap₂ ◌∷◌ r.0 t.spells; rising = (r.1.0, r.1.1, t.rising); no_slips = (r.1.2, t.no_slips); few = omega (arith, t.few); many = omega (arith, t.many, r.2); begin = t.begin; some = t.some })

pub not_a3 : (k : ℕ) (v : Row) → (is_condition (spell_block row v) && leb fewest_rows k) ≡ false
unfolding spell_block block
not_a3 k v = refl

behind_got : (vs : List Row) (cs : List (List ℕ)) (ln k p : ℕ) → Rising p vs → NoSlips vs → fewest_rows ≤ k + length vs → length vs ≤ most_rows - k → BeginA3 cs → 1 ≤ length cs
    → behind_ship (behind_rows vs cs) ln k p ≡ got (record { rows = vs; conditions = cs })
unfolding behind_rows Rising NoSlips BeginA3
behind_got [] [] ln k p R S f m B s = absurd (omega arith)
behind_got [] (l ∷ ls) ln k p R S f m B s = behind_a3 l ls ln k p (rw (begins l B.0, le-leb fewest_rows k (omega arith))) ∙ bind_got _ (only_got ls B.2 (ln + 1))
behind_got (v ∷ vs) cs ln k p R S f m B s =
    behind_row (spell_block row v) (behind_rows vs cs) ln k p (not_a3 k v) ∙ bind_got _ (row_got ln k p v (R.0, R.1, S.0) (omega arith))
    ∙ bind_got _ (behind_got vs cs (ln + 1) (k + 1) v.mass R.2 S.1 (omega arith) (omega arith) B s)

-- ---- all lines
-- What the lines of a text tell.
pub record Framed (b : Booklet) (ls : List (List ℕ)) : Type 0 where
  pub spells : lines_of b ≡ ls
  pub hull : ok ship b.ship ≡ true
  pub rising : Rising 0 b.rows
  pub no_slips : NoSlips b.rows
  pub few : fewest_rows ≤ length b.rows
  pub many : length b.rows ≤ most_rows
  pub begin : BeginA3 b.conditions
  pub some : 1 ≤ length b.conditions

pub frames_sound : (ls : List (List ℕ)) (b : Booklet) → Lines ls → book_frames ls ≡ got b → Framed b ls
unfolding book_frames Lines
frames_sound [] b B e = refused_got e
frames_sound (l ∷ ls) b B e =
    let v = bind_inv _ _ e in
    let x = bind_inv _ _ v.2 in
    let f = ship_sound 1 l v.0 B.1 v.1 in
    let s = behind_sound ls B.2 2 0 0 x.0 x.1 in
    let q : ◌≡◌ {A = Booklet} (record { ship = v.0; rows = x.0.rows; conditions = x.0.conditions }) b = cc in
    rw (← q) (record { spells = ap₂ ◌∷◌ f.0 s.spells; hull = f.1; rising = s.rising; no_slips = s.no_slips; few = omega (arith, s.few); many = omega (arith, s.many); begin = s.begin; some = s.some })

-- What is within the limits is told by its own lines.
pub framed : {most : ℕ} {b : Booklet} → WholeLimits most b → Framed b (lines_of b)
framed w = record { spells = refl; hull = w.hull; rising = w.rising; no_slips = w.no_slips; few = w.few; many = w.many; begin = w.begin; some = w.some }

pub frames_got : (b : Booklet) → Framed b (lines_of b) → book_frames (lines_of b) ≡ got b
unfolding book_frames
frames_got b F = bind_got _ (ship_got 1 b.ship F.hull) ∙ bind_got _ (behind_got b.rows b.conditions 2 0 0 F.rising F.no_slips (omega (arith, F.few)) (omega (arith, F.many)) F.begin F.some)

-- ---- what is spelled is lines
pub Lines-begin : (ls : List (List ℕ)) → BeginA3 ls → Lines ls
unfolding BeginA3 Lines
Lines-begin [] B = tt
Lines-begin (l ∷ ls) B = (some l B.0, B.1, Lines-begin ls B.2)
  where
    some : (l : List ℕ) → get_or l 0 0 ≡ condition_tag → full l ≡ true
    some [] e = absurd (omega arith)
    some (x ∷ s) e = refl

Lines-rows : (vs : List Row) (cs : List (List ℕ)) (p : ℕ) → Rising p vs → BeginA3 cs → Lines (behind_rows vs cs)
unfolding behind_rows Rising Lines spell_block block
Lines-rows [] cs p R B = Lines-begin cs B
Lines-rows (v ∷ vs) cs p R B = (refl, Bytes-fixed row row_lawful v R.0, Lines-rows vs cs v.mass R.2 B)

pub Lines-booklet : (b : Booklet) → Framed b (lines_of b) → Lines (lines_of b)
unfolding Lines spell_block block
Lines-booklet b F = (refl, Bytes-fixed ship ship_lawful b.ship F.hull, Lines-rows b.rows b.conditions 0 F.rising F.begin)
