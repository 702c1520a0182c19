-- In a frame, what stands behind the block that a refusal names has no say in it.
use mathlib.Core.Path.{◌≡◌, refl, ap, sym, ◌∙◌}
use mathlib.Core.Bool.{Bool, true, false}
use mathlib.Core.List.{List, ◌∷◌}
use Prim.Native.Nat.{ℕ, suc, ◌+◌, ◌-◌, ◌≤◌, ◌<◌}
use native.Mathlib.Omega.{arith}
use native.Mathlib.Nat.{le_refl}
use lib.ListN.{length, get_or}
use lib.Dec.{ltb, eqb}
use borrow.Author.Tests.{ltb-true, ltb-false}
use Rattle.rules.specs.Blocks.{Layout, ship, row, Weather}
use Rattle.rules.specs.Layout.{Condition, most_depth, most_entries}
use Rattle.rules.specs.Outcome.{Ans, refused, got, test, ◌>>◌}
use Rattle.rules.specs.Walk.{Head, header, weather_at, load_at, inside, condition_in, fixed_in, row_in, Frame, a_row, a_condition, frame_of, found, frame_at, ship_frame, closed}
use Rattle.rules.specs.Parts.{be2, part, head_at}
use Rattle.rules.specs.Places.{SameBefore, looked_at}
use Rattle.rules.proofs.walk.Outcome.{test_passed, bind_last, bind_got, bind_refused, test_got}
use Rattle.rules.proofs.layout.Parts.{full_length, length_part}
use Rattle.rules.proofs.walk.Refusals.{entries_refusal, weather_refusal, inside_refusal, found_row_refusal, ship_frame_refusal}
use Rattle.rules.proofs.walk.FrameExits.{inside_short, inside_block, frame_short, ship_short}
use Rattle.rules.proofs.walk.HeadAlone.{test_by_head, weather_by_head, fixed_in_by_head, found_by_head}
use Rattle.rules.proofs.walk.SameBefore.{looked_part, looked_head, looked_first, part_long, part_full, same_part, same_body, same_heads}
use Rattle.rules.proofs.walk.EntryFault.{fault_entries}

-- ---- inside the condition
-- The body of A3 begins at offset 3; the named block begins i bytes further on.
module _ (ln : ℕ) (s s' : List ℕ) (m i a b o : ℕ) (A : SameBefore m s s') (r : looked_at s a i ≤ m) (q : 3 + i ≡ o) (e : inside ln s ≡ refused a b o) where
  abbrev len : ℕ
  len = be2 s 1

  abbrev tag : ℕ
  tag = get_or s 0 0

  body_some : 0 < length s
  unfolding inside
  body_some = full_length s (test_passed _ _ _ _ _ (λ z. omega arith) e).0

  module _ (l : 3 + len ≤ length s) (H : header ln 3 s ≡ got (head_at tag len s)) (H' : header ln 3 s' ≡ got (head_at tag len s')) where
    l' : 3 + len ≤ length s'
    l' = omega (arith, A.long)

    load_fault_lem : load_at ln (6 + len) (part (3 + len) (length s) s) ≡ refused a b o → (3 + len ≤ m) × (load_at ln (6 + len) (part (3 + len) (length s') s') ≡ refused a b o)
    unfolding load_at
    load_fault_lem h =
        let x = test_passed _ _ _ _ _ (λ z. omega arith) h in
        let k : 3 + len ≤ i = omega (arith, ((entries_refusal ln most_depth most_entries (6 + len) (part (3 + len) (length s) s)).holds a b o x.1).2) in
        let y = fault_entries ln (suc (length (part (3 + len) (length s) s))) most_depth most_entries (6 + len) (part (3 + len) (length s) s) (part (3 + len) (length s) s') (m - (3 + len)) (i - (3 + len)) a b o (omega arith) (same_part A (3 + len) (length s) (m - (3 + len)) (omega (arith, looked_head a i s m r))) (looked_part a (3 + len) (length s) s (i - (3 + len)) i m (omega arith) r) (omega arith) x.1 in
        (omega (arith, looked_head a i s m r), rw (← A.long) (test_got _ _ _ _ (sym (part_full A (3 + len) (length s)) ∙ x.0) ∙ y))

    weather_fault_lem : (x : Ans Weather) → weather_at ln tag (part 3 (3 + len) s) ≡ x → inside ln s' ≡ refused a b o
    weather_fault_lem (refused x y z) p =
        let E : ◌≡◌ {A = Ans Condition} (refused x y z) (refused a b o) = sym (inside_block ln s tag len l H ∙ bind_refused _ p) ∙ e in
        let u : z ≡ o = cc in
        let v : x ≡ a = cc in
        let P = (weather_refusal ln tag (part 3 (3 + len) s)).holds x y z p in
        let p' : weather_at ln tag (part 3 (3 + len) s') ≡ refused x y z = looked_first a i s m r (omega (arith, P.2)) (λ h. (weather_by_head ln tag (part 3 (3 + len) s) (part 3 (3 + len) s') (part_long A 3 (3 + len))).same x y z (omega arith) P.2 p) (λ h. rw (same_body A l h) at p) in
        inside_block ln s' tag len l' H' ∙ bind_refused _ p' ∙ E
    weather_fault_lem (got w) p =
        let x = load_fault_lem (bind_last _ _ (sym (inside_block ln s tag len l H ∙ bind_got _ p) ∙ e)) in
        inside_block ln s' tag len l' H' ∙ bind_got _ (rw (same_body A l x.0) at p) ∙ bind_refused _ x.1

  fault_inside : inside ln s' ≡ refused a b o
  fault_inside = same_heads A ln 3 (omega (arith, looked_head a i s m r)) (λ h h'. inside_short ln s' (omega (arith, A.long, body_some)) h' ∙ (sym (inside_short ln s body_some h) ∙ e)) (λ l h h'. weather_fault_lem l h h' _ refl)

-- ---- a frame
-- A frame that ends with its line is read from its body, and from how many bytes are left.
fixed_in_same : {X : Type 0} (ln : ℕ) (L : Layout X) (h h' : Head) → h.body ≡ h'.body → length h.rest ≡ length h'.rest → fixed_in ln L h ≡ fixed_in ln L h'
unfolding fixed_in
fixed_in_same ln L h h' p q = rw (p, q)

condition_in_same : (ln : ℕ) (h h' : Head) → h.body ≡ h'.body → length h.rest ≡ length h'.rest → condition_in ln h ≡ condition_in ln h'
unfolding condition_in
condition_in_same ln h h' p q = rw (p, q)

found_same : (ln k p : ℕ) (h h' : Head) (t : Frame) → h.body ≡ h'.body → length h.rest ≡ length h'.rest → found ln k p h t ≡ found ln k p h' t
unfolding found row_in
found_same ln k p h h' a_row x y = rw (fixed_in_same ln row h h' x y)
found_same ln k p h h' a_condition x y = rw (condition_in_same ln h h' x y)

-- Two lines that are the same before the end of what the refusal looks at, which names the block of the first at offset o.
module _ (ln a b o : ℕ) (l l' : List ℕ) (A : SameBefore (looked_at l a o) l l') where
  pub a_head : 3 ≤ looked_at l a o
  a_head = omega (arith, looked_head a o l (looked_at l a o) (le_refl _))

  module _ (f₀ : 3 + be2 l 1 ≤ length l) where
    abbrev h : Head
    h = head_at (get_or l 0 0) (be2 l 1) l

    abbrev h' : Head
    h' = head_at (get_or l 0 0) (be2 l 1) l'

    same_rest : length h.rest ≡ length h'.rest
    same_rest = rw (length_part l (3 + be2 l 1) (length l) (omega arith), length_part l' (3 + be2 l 1) (length l') (omega arith), A.long)

    -- The frame itself is named: its head is looked at alone, or its body is the same.
    own : {C : Type 0} → o ≡ 0 → (a ≤ 4 → C) → (h.body ≡ h'.body → C) → C
    own z f g = looked_first a o l (looked_at l a o) (le_refl _) z f (λ k. g (same_body A f₀ k))

    -- A block inside the condition is named.
    found_inner : (k p : ℕ) (t : Frame) → 0 < o → found ln k p h t ≡ refused a b o → found ln k p h' t ≡ refused a b o
    unfolding found condition_in
    found_inner k p a_row z e = absurd (omega (arith, ((found_row_refusal ln k p h).holds a b o e).2))
    found_inner k p a_condition z e =
        let x = test_passed _ _ _ _ _ (λ u. omega arith) e in
        let y = test_passed _ _ _ _ _ (λ u. omega arith) (bind_last _ _ x.1) in
        let v = test_passed _ _ _ _ _ (λ u. omega arith) y.1 in
        let g : 3 ≤ o = ((inside_refusal ln h.body).holds a b o v.1).2 z in
        let B : SameBefore (looked_at l a o - 3) h.body h'.body = same_part A 3 (3 + be2 l 1) (looked_at l a o - 3) (omega (arith, a_head)) in
        let w = fault_inside ln h.body h'.body (looked_at l a o - 3) (o - 3) a b o B (looked_part a 3 (3 + be2 l 1) l (o - 3) o (looked_at l a o) (omega arith) (le_refl _)) (omega arith) v.1 in
        test_got _ _ _ _ x.0 ∙ bind_refused _ (test_got _ _ _ _ (rw same_rest at y.0) ∙ (test_got _ _ _ _ (rw B.long at v.0) ∙ w))

    found_fault : (k p : ℕ) (t : Frame) → found ln k p h t ≡ refused a b o → found ln k p h' t ≡ refused a b o
    found_fault k p t e = go (ltb 0 o) refl
      where
        go : (c : Bool) → ltb 0 o ≡ c → found ln k p h' t ≡ refused a b o
        go true q = found_inner k p t (ltb-true _ _ q) e
        go false q =
            let z : o ≡ 0 = omega (arith, ltb-false 0 o q) in
            own z (λ n. (found_by_head ln h h' (part_long A 3 (3 + be2 l 1)) same_rest k p t).same a b o n z e) (λ x. sym (found_same ln k p h h' t x same_rest) ∙ e)

    frame_of_fault : (k p : ℕ) (x : Ans Frame) → frame_of ln (get_or l 0 0) ≡ x → header ln 0 l ≡ got h → header ln 0 l' ≡ got h' → frame_at ln k p l ≡ refused a b o → frame_at ln k p l' ≡ refused a b o
    unfolding frame_at
    frame_of_fault k p (refused x y z) q H H' e = bind_got _ H' ∙ bind_refused _ q ∙ (sym (bind_got _ H ∙ bind_refused _ q) ∙ e)
    frame_of_fault k p (got t) q H H' e = bind_got _ H' ∙ bind_got _ q ∙ found_fault k p t (sym (bind_got _ H ∙ bind_got _ q) ∙ e)

  pub frame_fault : (k p : ℕ) → frame_at ln k p l ≡ refused a b o → frame_at ln k p l' ≡ refused a b o
  frame_fault k p e = same_heads A ln 0 a_head (λ q q'. frame_short ln k p l' q' ∙ (sym (frame_short ln k p l q) ∙ e)) (λ f H H'. frame_of_fault f k p _ refl H H' e)

  pub ship_fault_lem : ship_frame ln l ≡ refused a b o → ship_frame ln l' ≡ refused a b o
  unfolding ship_frame
  ship_fault_lem e =
      let z : o ≡ 0 = ((ship_frame_refusal ln l).holds a b o e).2 in
      same_heads A ln 0 a_head (λ q q'. ship_short ln l' q' ∙ (sym (ship_short ln l q) ∙ e)) (λ f H H'.
      let x : (test (eqb (get_or l 0 0) ship.tag) 4 ln 0 >> fixed_in ln ship (h f)) ≡ refused a b o = sym (bind_got _ H) ∙ e in
      bind_got _ H' ∙ own f z (λ n. (test_by_head (eqb (get_or l 0 0) ship.tag) 4 ln 0 _ _ (fixed_in_by_head ln (h f) (h' f) (part_long A 3 (3 + be2 l 1)) (same_rest f) ship)).same a b o n z x)
      (λ y. ap (test (eqb (get_or l 0 0) ship.tag) 4 ln 0 >>◌) (sym (fixed_in_same ln ship (h f) (h' f) y (same_rest f))) ∙ x))

  pub closed_fault : (later later' : List (List ℕ)) → closed ln (l ∷ later) ≡ refused a b o → closed ln (l' ∷ later') ≡ refused a b o
  unfolding closed
  closed_fault later later' e = same_heads A ln 0 a_head (λ q q'. bind_refused _ q' ∙ (sym (bind_refused _ q) ∙ e)) (λ f H H'. bind_got _ H' ∙ (sym (bind_got _ H) ∙ e))
