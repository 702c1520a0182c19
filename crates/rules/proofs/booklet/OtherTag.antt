-- Two booklets that differ in one tag alone are refused for the whole alike, or both are read, and then but one condition line differs; and two such lines are refused alike, or both are read: for any two tags that are tested alike wherever they stand.
use mathlib.Core.Path.{◌≡◌, refl, ap, sym, ◌∙◌}
use mathlib.Core.Logic.{◌↔◌}
use mathlib.Core.Bool.{Bool, true, false, ◌&&◌}
use mathlib.Core.List.{List, [], ◌∷◌}
use Prim.Native.Nat.{ℕ, suc, ◌+◌, ◌-◌, ◌≤◌, ◌<◌}
use native.Mathlib.Omega.{arith}
use lib.Dec.{leb, ltb, eqb}
use lib.ListN.{length, get_or, set}
use borrow.Author.Tests.{ne_eqb}
use Rattle.rules.specs.Text.{text, Lines}
use Rattle.rules.specs.Blocks.{block, Ship, Row, row, condition_tag}
use Rattle.rules.specs.Layout.{Entries, Condition, fewest_rows, most_rows, most_bytes, most_conditions, is_condition, Booklet}
use Rattle.rules.specs.Outcome.{refused, got, test, ◌>>=◌, ◌>>◌}
use Rattle.rules.specs.Walk.{header, inside, condition_in, ship_frame, row_in, a_row, a_condition, frame_of, closed}
use Rattle.rules.specs.Tags.{OtherTagLines, as_frame, in_condition, after_line, OtherTagLine, in_body}
use Rattle.rules.specs.Booklet.{counted, row_at, only_conditions, Behind, behind_ship, book_frames, read_whole, condition_at}
use Rattle.rules.specs.Apart.{line_at, respelt}
use Rattle.rules.specs.Answer.{answer_of_line}
use Rattle.rules.proofs.layout.OtherTag.{same_length, as_many_characters, Lines-alike}
use Rattle.rules.proofs.walk.Outcome.{refused_got, bind_got, bind_bind, test_got, test_refused}
use Rattle.rules.proofs.walk.Alike.{Like, both_refused, both_got, like_bind, like_then, like_same, like_weaker, Never, like_never, like_refused, like_got}
use Rattle.rules.proofs.walk.Frames.{frame_got}
use Rattle.rules.proofs.walk.OtherTag.{with_tag, head_alike, TestedAlike, inside_alike, no_ship_lem, no_hull}
use Rattle.rules.proofs.booklet.Counted.{counted_a3, counted_other, only_a3, only_other, behind_a3, behind_row, lines_counted}
use Rattle.rules.proofs.booklet.Conditions.{answer_own, answer_refused}

module _ {a b : ℕ} {R : Entries → Entries → Type 0} {S : Condition → Condition → Type 0} (A : TestedAlike a b R S) where
  -- ---- a condition line
  line_steps : (ln : ℕ) (body : List ℕ) → length body < 65_536 → condition_at ln (block condition_tag body) ≡ (test (leb (length body) most_bytes) 5 ln 0 >> inside ln body)
  unfolding condition_at condition_in
  line_steps ln body l = bind_got _ (frame_got ln condition_tag body l) ∙ test_got _ _ _ _ refl

  pub line_alike : {l l' : List ℕ} → OtherTagLine a b l l' → (ln : ℕ) → Like S (condition_at ln l) (condition_at ln l')
  unfolding ◌>>◌
  line_alike (in_body {body} {body'} s m) ln =
      let e = same_length m in
      rw (line_steps ln body s, line_steps ln body' (omega arith), e) (like_then (test (leb (length body') most_bytes) 5 ln 0) _ _ (λ u. inside_alike A ln m s))

  pub answers_alike : {l l' : List ℕ} → OtherTagLine a b l l' → (s : Ship) (vs : List Row) (ln n m o : ℕ) → n ≤ 6 → (answer_of_line s vs ln l ≡ refused n m o) ↔ (answer_of_line s vs ln l' ≡ refused n m o)
  answers_alike {l} {l'} q s vs ln n m o h =
      let x = like_refused (line_alike q ln) n m o in
      (λ e. answer_refused s vs ln l' (x.0 (answer_own s vs ln l h e)), λ e. answer_refused s vs ln l (x.1 (answer_own s vs ln l' h e)))

  -- ---- the condition lines
  -- All but one are the same.
  abbrev Others : List (List ℕ) → List (List ℕ) → Type 0
  Others cs cs' = (k : ℕ) × (l : List ℕ) × (k < length cs) × OtherTagLine a b (get_or cs k []) l × (cs' ≡ set cs k l)

  further : (x : List ℕ) {cs cs' : List (List ℕ)} → Others cs cs' → Others (x ∷ cs) (x ∷ cs')
  further x q = (suc q.0, q.1, omega (arith, q.2), q.3, ap (x ∷◌) q.4)

  -- Neither tag is A3's, nor a row's.
  no_frame_lem : (t : ℕ) → frame_of 0 t ≡ refused 4 0 0 → (eqb t condition_tag ≡ false) × (eqb t row.tag ≡ false)
  unfolding frame_of
  no_frame_lem t e = (ne_eqb t condition_tag (λ q. refused_got {a = a_condition} (sym e ∙ rw q refl)), ne_eqb t row.tag (λ q. refused_got {a = a_row} (sym e ∙ rw q refl)))

  abbrev first : (eqb a condition_tag ≡ false) × (eqb a row.tag ≡ false)
  first = no_frame_lem a (A.no_frame 0).0

  abbrev second : (eqb b condition_tag ≡ false) × (eqb b row.tag ≡ false)
  second = no_frame_lem b (A.no_frame 0).1

  -- They are as many, and so counted alike.
  counted_alike : {ls ls' : List (List ℕ)} → OtherTagLines a b ls ls' → (ln n : ℕ) → counted ln n ls ≡ counted ln n ls'
  unfolding block
  counted_alike (as_frame left later) ln n = counted_other (a ∷ left) later ln n first.0 ∙ sym (counted_other (b ∷ left) later ln n second.0)
  counted_alike (in_condition {body} {body'} later s m) ln n = counted_a3 (block condition_tag body) later ln n refl ∙ sym (counted_a3 (block condition_tag body') later ln n refl)
  counted_alike (after_line line {ls} {ls'} m) ln n = go (λ n. counted_alike m (ln + 1) n) (is_condition line) refl
    where
      go : ((n : ℕ) → counted (ln + 1) n ls ≡ counted (ln + 1) n ls') → (c : Bool) → is_condition line ≡ c → counted ln n (line ∷ ls) ≡ counted ln n (line ∷ ls')
      go H true p = counted_a3 line ls ln n p ∙ ap (test (ltb 0 n) 5 ln 0 >>◌) (H (n - 1)) ∙ sym (counted_a3 line ls' ln n p)
      go H false p = counted_other line ls ln n p ∙ H n ∙ sym (counted_other line ls' ln n p)

  -- Behind the first of them.
  only_alike : {ls ls' : List (List ℕ)} → OtherTagLines a b ls ls' → (ln : ℕ) → Like (λ u v. Others ls ls') (only_conditions ln ls) (only_conditions ln ls')
  unfolding block closed
  only_alike (as_frame left later) ln = rw (only_other (a ∷ left) later ln first.0, only_other (b ∷ left) later ln second.0) (like_bind _ _ (head_alike a b ln 0 left) (λ h g e. both_refused))
  only_alike (in_condition {body} {body'} later s m) ln =
      rw (only_a3 (block condition_tag body) later ln refl, only_a3 (block condition_tag body') later ln refl) (like_same (only_conditions (ln + 1) later) (λ u. (0, _, omega arith, in_body s m, refl)))
  only_alike (after_line line {ls} {ls'} m) ln = go (only_alike m (ln + 1)) (is_condition line) refl
    where
      go : Like (λ u v. Others ls ls') (only_conditions (ln + 1) ls) (only_conditions (ln + 1) ls') → (c : Bool) → is_condition line ≡ c → Like (λ u v. Others (line ∷ ls) (line ∷ ls')) (only_conditions ln (line ∷ ls)) (only_conditions ln (line ∷ ls'))
      go H true p = rw (only_a3 line ls ln p, only_a3 line ls' ln p) (like_weaker H (λ u v q. further line q))
      go H false p = rw (only_other line ls ln p, only_other line ls' ln p) (like_then (header ln 0 line) _ _ (λ h. both_refused))

  -- ---- behind the ship
  abbrev Behinds : Behind → Behind → Type 0
  Behinds x y = (x.rows ≡ y.rows) × Others x.conditions y.conditions

  -- A line that is no row.
  no_row : (ln k p : ℕ) (left : List ℕ) → Like Never (row_at ln k p (a ∷ left)) (row_at ln k p (b ∷ left))
  unfolding row_at
  no_row ln k p left =
      like_bind _ _ (head_alike a b ln 0 left) (λ h g e.
      rw (e.1, e.2, test_refused 4 ln 0 (test (ltb k most_rows) 4 ln 0 >> row_in ln p (with_tag a e.0)) first.1, test_refused 4 ln 0 (test (ltb k most_rows) 4 ln 0 >> row_in ln p (with_tag b e.0)) second.1) both_refused)

  not_yet : (ln k p : ℕ) (body : List ℕ) → length body < 65_536 → row_at ln k p (block condition_tag body) ≡ refused 4 ln 0
  unfolding row_at
  not_yet ln k p body l = bind_got _ (frame_got ln condition_tag body l) ∙ test_refused _ _ _ _ refl

  behind_alike : {ls ls' : List (List ℕ)} → OtherTagLines a b ls ls' → (ln k p : ℕ) → Like Behinds (behind_ship ls ln k p) (behind_ship ls' ln k p)
  unfolding block
  behind_alike (as_frame left later) ln k p =
      rw (behind_row (a ∷ left) later ln k p (rw first.0), behind_row (b ∷ left) later ln k p (rw second.0)) (like_never _ _ (no_row ln k p left))
  behind_alike (in_condition {body} {body'} later s m) ln k p = go (leb fewest_rows k) refl
    where
      go : (c : Bool) → leb fewest_rows k ≡ c → Like Behinds (behind_ship (block condition_tag body ∷ later) ln k p) (behind_ship (block condition_tag body' ∷ later) ln k p)
      go true q =
          rw (behind_a3 (block condition_tag body) later ln k p q, behind_a3 (block condition_tag body') later ln k p q)
          (like_then (only_conditions (ln + 1) later) _ _ (λ u. both_got (refl, (0, _, omega arith, in_body s m, refl))))
      go false q =
          let e = same_length m in
          rw (behind_row (block condition_tag body) later ln k p q, behind_row (block condition_tag body') later ln k p q, not_yet ln k p body s, not_yet ln k p body' (omega arith)) (like_never _ _ both_refused)
  behind_alike (after_line line {ls} {ls'} m) ln k p = go (λ ln k p. behind_alike m ln k p) (is_condition line && leb fewest_rows k) refl
    where
      go : ((ln k p : ℕ) → Like Behinds (behind_ship ls ln k p) (behind_ship ls' ln k p)) → (c : Bool) → (is_condition line && leb fewest_rows k) ≡ c → Like Behinds (behind_ship (line ∷ ls) ln k p) (behind_ship (line ∷ ls') ln k p)
      go H true q = rw (behind_a3 line ls ln k p q, behind_a3 line ls' ln k p q) (like_bind _ _ (only_alike m (ln + 1)) (λ u v z. both_got (refl, further line z)))
      go H false q =
          rw (behind_row line ls ln k p q, behind_row line ls' ln k p q)
          (like_then (row_at ln k p line) _ _ (λ v. like_bind _ _ (H (ln + 1) (k + 1) v.mass) (λ x y z. both_got (ap (v ∷◌) z.0, z.1))))

  -- ---- a whole text
  abbrev Booklets : Booklet → Booklet → Type 0
  Booklets x y = (k : ℕ) × (l : List ℕ) × (k < length x.conditions) × OtherTagLine a b (line_at x k) l × (y ≡ respelt x k l)

  frames_alike : {ls ls' : List (List ℕ)} → OtherTagLines a b ls ls' → Like Booklets (book_frames ls) (book_frames ls')
  unfolding book_frames
  frames_alike (as_frame left later) = like_never _ _ (no_hull A left)
  frames_alike (in_condition {body} {body'} later s m) =
      let e = same_length m in
      rw (no_ship_lem A body s, no_ship_lem A body' (omega arith)) (like_never _ _ both_refused)
  frames_alike (after_line line m) = like_then (ship_frame 1 line) _ _ (λ v. like_bind _ _ (behind_alike m 2 0 0) (λ x y q. both_got (q.1.0, q.1.1, q.1.2, q.1.3, rw (q.0, q.1.4))))

  whole_steps : (most : ℕ) (ls : List (List ℕ)) → Lines ls → length (text ls) ≤ most → read_whole most (text ls) ≡ (counted 1 most_conditions ls >>= λ u. book_frames ls)
  unfolding read_whole
  whole_steps most ls B l = ap (◌>>= book_frames) (lines_counted most ls B l) ∙ bind_bind _ _ _

  whole_alike : {ls ls' : List (List ℕ)} → OtherTagLines a b ls ls' → Lines ls → (most : ℕ) → length (text ls) ≤ most → Like Booklets (read_whole most (text ls)) (read_whole most (text ls'))
  whole_alike {ls} {ls'} m B most l =
      let e = as_many_characters m in
      rw (whole_steps most ls B l, whole_steps most ls' (Lines-alike m A.fits B) (omega arith), counted_alike m 1 most_conditions) (like_then (counted 1 most_conditions ls') _ _ (λ u. frames_alike m))

  module _ {ls ls' : List (List ℕ)} (m : OtherTagLines a b ls ls') (B : Lines ls) (most : ℕ) (h : length (text ls) ≤ most) where
    pub refused_alike : (n l o : ℕ) → (read_whole most (text ls) ≡ refused n l o) ↔ (read_whole most (text ls') ≡ refused n l o)
    refused_alike = like_refused (whole_alike m B most h)

    pub read_other : (x : Booklet) → read_whole most (text ls) ≡ got x → (k : ℕ) × (l : List ℕ) × (k < length x.conditions) × OtherTagLine a b (line_at x k) l × (read_whole most (text ls') ≡ got (respelt x k l))
    read_other x e =
        let q = like_got (whole_alike m B most h) x e in
        let z = q.1 in
        (z.0, z.1, z.2, z.3, q.2 ∙ ap got z.4)
