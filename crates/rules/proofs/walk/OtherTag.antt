-- Two texts that differ in one tag alone are refused alike, or both are read: the walk over both, step by step, for any two tags that are tested alike wherever they stand.
use mathlib.Core.Path.{◌≡◌, refl, ap, ◌∙◌}
use mathlib.Core.Bool.{Bool, true, false}
use mathlib.Core.List.{List, [], ◌∷◌, ◌++◌}
use Prim.Native.Nat.{ℕ, ◌+◌, ◌-◌, ◌≤◌, ◌<◌}
use native.Mathlib.Omega.{arith}
use lib.ListN.{length, take, drop}
use lib.Dec.{ltb, leb, eqb}
use Rattle.rules.specs.Numbers.{num, full}
use Rattle.rules.specs.Text.{text, Lines}
use Rattle.rules.specs.Blocks.{block, ship, condition_tag, Weather, Load, Values, group_tag}
use Rattle.rules.specs.Layout.{Entries, leaf, group, Condition, Reading, leaves, fewest_rows, most_depth, most_entries, most_bytes, most_characters}
use Rattle.rules.specs.Outcome.{refused, got, test, ◌>>=◌, ◌>>◌}
use Rattle.rules.specs.Walk.{Head, header, tag_of, Block, one, nest, begun, block_at, step, entries, chosen, weather_at, load_at, inside, condition_in, fixed_in, frame_of, Found, table_row, the_condition, found, frame_at, closed, Tail, after, tail, ship_frame, read_frames, read}
use Rattle.rules.specs.Tags.{OtherTag, tag_here, after_block, inside_group, OtherTagLines, as_frame, in_condition, after_line}
use Rattle.rules.proofs.walk.Outcome.{bind_got, test_got, test_refused}
use Rattle.rules.proofs.walk.Alike.{Like, both_refused, both_got, like_bind, like_then, Never, like_never}
use Rattle.rules.proofs.walk.Heads.{length_block, full_block, header_got}
use Rattle.rules.proofs.walk.FrameExits.{weather_tag_lem}
use Rattle.rules.proofs.walk.Frames.{frame_got}
use Rattle.rules.proofs.walk.WholeText.{read_lines}
use Rattle.rules.proofs.walk.Fuel.{entries_block}
use Rattle.rules.proofs.layout.OtherTag.{same_length, both_full, as_many_characters, Lines-alike}

-- ---- a head
abbrev pub with_tag : ℕ → Head → Head
with_tag t h = record { tag = t; body = h.body; rest = h.rest }

-- It is read alike whatever its tag.
header_any_tag : (ln at t : ℕ) (s : List ℕ) → header ln at (t ∷ s) ≡ (header ln at (0 ∷ s) >>= λ h. got (with_tag t h))
unfolding header test ◌>>=◌ ◌>>◌
header_any_tag ln at t [] = refl
header_any_tag ln at t (a ∷ []) = refl
header_any_tag ln at t (a ∷ b ∷ s) = go (leb (num (a ∷ b ∷ [])) (length s)) (record { tag = 0; body = take (num (a ∷ b ∷ [])) s; rest = drop (num (a ∷ b ∷ [])) s })
  where
    go : (c : Bool) (h : Head) → (test c 2 ln at >> got (with_tag t h)) ≡ ((test c 2 ln at >> got h) >>= λ h. got (with_tag t h))
    go true h = refl
    go false h = refl

-- The same head with either tag.
abbrev pub Heads : ℕ → ℕ → Head → Head → Type 0
Heads a b h g = (x : Head) × (h ≡ with_tag a x) × (g ≡ with_tag b x)

pub head_alike : (a b ln at : ℕ) (s : List ℕ) → Like (Heads a b) (header ln at (a ∷ s)) (header ln at (b ∷ s))
head_alike a b ln at s = rw (header_any_tag ln at a s, header_any_tag ln at b s) (like_then (header ln at (0 ∷ s)) _ _ (λ x. both_got (x, refl, refl)))

-- ---- what is asked of the two tags
-- Neither begins a frame. Entries that begin with the one and with the other come to the same refusal, or to loads related by R; conditions that do, to conditions related by S.
-- R is kept behind the same entry, behind the same group and around both, and gives S under the same weather.
pub record TestedAlike (a b : ℕ) (R : Entries → Entries → Type 0) (S : Condition → Condition → Type 0) : Type 0 where
  pub fits : b < 256
  pub no_ship : (eqb a ship.tag ≡ false) × (eqb b ship.tag ≡ false)
  pub no_frame : (ln : ℕ) → (frame_of ln a ≡ refused 4 ln 0) × (frame_of ln b ≡ refused 4 ln 0)
  pub as_entry : (ln d n at : ℕ) (s : List ℕ) → Like R (entries ln d n at (a ∷ s)) (entries ln d n at (b ∷ s))
  pub as_weather : (ln : ℕ) (s : List ℕ) → Like S (inside ln (a ∷ s)) (inside ln (b ∷ s))
  pub behind_entry : (k : Load) (v : Values k) {r r' : Entries} → R r r' → R (leaf k v r) (leaf k v r')
  pub behind_group : (g : Entries) {r r' : Entries} → R r r' → R (group g r) (group g r')
  pub within : {g g' : Entries} (r : Entries) → R g g' → R (group g r) (group g' r)
  pub many : {g g' : Entries} → R g g' → leaves g ≡ leaves g'
  pub under : (w : Weather) {F G : Entries} → R F G → S (record { weather = w; load = F }) (record { weather = w; load = G })

-- What stands inside a condition: its first block, and the load after it.
module _ (ln : ℕ) where
  pub inside_head : (x : ℕ) (s : List ℕ) → inside ln (x ∷ s) ≡ (header ln 3 (x ∷ s) >>= λ h. weather_at ln h.tag h.body >>= λ w. load_at ln (6 + length h.body) h.rest >>= λ e. got (record { weather = w; load = e }))
  unfolding inside
  inside_head x s = test_got _ _ _ _ refl

  inside_steps : (t : ℕ) (first rest : List ℕ) → length first < 65_536 → inside ln (block t first ++ rest) ≡ (weather_at ln t first >>= λ w. load_at ln (6 + length first) rest >>= λ e. got (record { weather = w; load = e }))
  unfolding inside
  inside_steps t first rest h = test_got _ _ _ _ (full_block t first rest) ∙ bind_got _ (header_got ln 3 t first rest h)

-- A condition as a frame: 4, 5, and what is inside.
condition_steps : (ln k p : ℕ) (body : List ℕ) → length body < 65_536
    → frame_at ln k p (block condition_tag body) ≡ (test (leb fewest_rows k) 4 ln 0 >> ((test (leb (length body) most_bytes) 5 ln 0 >> inside ln body) >>= λ c. got (the_condition c)))
unfolding frame_at frame_of found condition_in
condition_steps ln k p body l =
    bind_got _ (frame_got ln condition_tag body l) ∙ bind_got _ refl ∙ ap (λ x. test (leb fewest_rows k) 4 ln 0 >> (x >>= λ c. got (the_condition c))) (test_got 3 ln 0 (test (leb (length body) most_bytes) 5 ln 0 >> inside ln body) refl)

module _ {a b : ℕ} {R : Entries → Entries → Type 0} {S : Condition → Condition → Type 0} (A : TestedAlike a b R S) where
  -- ---- among entries
  module _ (ln : ℕ) where
    -- Behind the same block.
    behind_alike : (d n at t : ℕ) (body rest rest' : List ℕ) → ((d n at : ℕ) → Like R (entries ln d n at rest) (entries ln d n at rest')) → (b : Block)
        → Like R (step ln (entries ln) d n at (record { tag = t; body = body; rest = rest }) b) (step ln (entries ln) d n at (record { tag = t; body = body; rest = rest' }) b)
    unfolding step
    behind_alike d n at t body rest rest' h (one k v) = like_bind _ _ (h d (n - 1) (at + 3 + length body)) (λ r r' e. both_got (A.behind_entry k v e))
    behind_alike d n at t body rest rest' h nest =
        like_then (entries ln (d - 1) n (at + 3) body) _ _ (λ g. like_bind _ _ (h d (n - leaves g) (at + 3 + length body)) (λ r r' e. both_got (A.behind_group g e)))

    -- Inside a group.
    group_block : (d n at : ℕ) (body : List ℕ) → full body ≡ true → block_at ln d n at group_tag body ≡ (test (ltb 0 d) 5 ln at >> got nest)
    unfolding block_at tag_of begun test ◌>>=◌ ◌>>◌
    group_block d n at body f = rw f

    group_steps : (d n at : ℕ) (body rest : List ℕ) → length body < 65_536 → full body ≡ true
        → entries ln d n at (block group_tag body ++ rest) ≡ (test (ltb 0 d) 5 ln at >> step ln (entries ln) d n at (record { tag = group_tag; body = body; rest = rest }) nest)
    unfolding test ◌>>=◌ ◌>>◌
    group_steps d n at body rest l f = entries_block ln d n at group_tag body rest l ∙ ap (◌>>= step ln (entries ln) d n at (record { tag = group_tag; body = body; rest = rest })) (group_block d n at body f) ∙ go (ltb 0 d)
      where
        go : (c : Bool) → ((test c 5 ln at >> got nest) >>= step ln (entries ln) d n at (record { tag = group_tag; body = body; rest = rest })) ≡ (test c 5 ln at >> step ln (entries ln) d n at (record { tag = group_tag; body = body; rest = rest }) nest)
        go true = refl
        go false = refl

    within_alike : (d n at : ℕ) (body body' rest : List ℕ) → length body ≡ length body' → ((d n at : ℕ) → Like R (entries ln d n at body) (entries ln d n at body'))
        → Like R (step ln (entries ln) d n at (record { tag = group_tag; body = body; rest = rest }) nest) (step ln (entries ln) d n at (record { tag = group_tag; body = body'; rest = rest }) nest)
    unfolding step
    within_alike d n at body body' rest e h =
        rw e (like_bind _ _ (h (d - 1) n (at + 3)) (λ g g' m. rw (A.many m) (like_then (entries ln d (n - leaves g') (at + 3 + length body') rest) _ _ (λ r. both_got (A.within r m)))))

    entries_alike : {s s' : List ℕ} → OtherTag a b s s' → length s < 65_536 → (d n at : ℕ) → Like R (entries ln d n at s) (entries ln d n at s')
    unfolding ◌>>◌
    entries_alike (tag_here left) l d n at = A.as_entry ln d n at left
    entries_alike (after_block tag body {rest} {rest'} m) l d n at =
        let L = length_block tag body rest in
        rw (entries_block ln d n at tag body rest (omega arith), entries_block ln d n at tag body rest' (omega arith))
        (like_then (block_at ln d n at tag body) _ _ (behind_alike d n at tag body rest rest' (λ d n at. entries_alike m (omega arith) d n at)))
    entries_alike (inside_group {body} {body'} rest m) l d n at =
        let L = length_block group_tag body rest in
        let e = same_length m in
        let f = both_full m in
        rw (group_steps d n at body rest (omega arith) f.0, group_steps d n at body' rest (omega arith) f.1)
        (like_then (test (ltb 0 d) 5 ln at) _ _ (λ u. within_alike d n at body body' rest e (λ d n at. entries_alike m (omega arith) d n at)))

  -- ---- the condition
  module _ (ln : ℕ) where
    load_alike : {s s' : List ℕ} → OtherTag a b s s' → length s < 65_536 → (at : ℕ) → Like R (load_at ln at s) (load_at ln at s')
    unfolding load_at
    load_alike {s} {s'} m l at =
        let f = both_full m in
        rw (test_got 5 ln 0 (entries ln most_depth most_entries at s) f.0, test_got 5 ln 0 (entries ln most_depth most_entries at s') f.1) (entries_alike ln m l most_depth most_entries at)

    -- A group is no weather.
    no_weather : (body : List ℕ) → weather_at ln group_tag body ≡ refused 4 ln 3
    unfolding chosen
    no_weather body = weather_tag_lem ln group_tag body refl

    pub inside_alike : {body body' : List ℕ} → OtherTag a b body body' → length body < 65_536 → Like S (inside ln body) (inside ln body')
    inside_alike (tag_here left) l = A.as_weather ln left
    inside_alike (after_block t first {rest} {rest'} m) l =
        let L = length_block t first rest in
        rw (inside_steps ln t first rest (omega arith), inside_steps ln t first rest' (omega arith))
        (like_then (weather_at ln t first) _ _ (λ w. like_bind _ _ (load_alike m (omega arith) (6 + length first)) (λ e e' q. both_got (A.under w q))))
    inside_alike (inside_group {body} {body'} rest m) l =
        let L = length_block group_tag body rest in
        let e = same_length m in
        rw (inside_steps ln group_tag body rest (omega arith), inside_steps ln group_tag body' rest (omega arith), no_weather body, no_weather body') (like_never _ _ both_refused)

  -- ---- the frames
  abbrev Conditions : Found → Found → Type 0
  Conditions f g = (c : Condition) × (d : Condition) × (f ≡ the_condition c) × (g ≡ the_condition d) × S c d

  abbrev Tails : Tail → Tail → Type 0
  Tails x y = (x.rows ≡ y.rows) × S x.condition y.condition

  abbrev pub Readings : Reading → Reading → Type 0
  Readings r s = (r.ship ≡ s.ship) × (r.rows ≡ s.rows) × S r.condition s.condition

  frame_alike : {body body' : List ℕ} → OtherTag a b body body' → length body < 65_536 → (ln k p : ℕ) → Like Conditions (frame_at ln k p (block condition_tag body)) (frame_at ln k p (block condition_tag body'))
  unfolding ◌>>◌
  frame_alike {body} {body'} m l ln k p =
      let e = same_length m in
      rw (condition_steps ln k p body l, condition_steps ln k p body' (omega arith), e)
      (like_then (test (leb fewest_rows k) 4 ln 0) _ _ (λ u.
      like_bind _ _ (like_then (test (leb (length body') most_bytes) 5 ln 0) _ _ (λ v. inside_alike ln m l)) (λ c d q. both_got (c, d, refl, refl, q))))

  -- Frames after a condition: 4 both times, behind the same 2.
  closed_alike : {ls ls' : List (List ℕ)} → OtherTagLines a b ls ls' → (ln : ℕ) → Like Never (closed ln ls) (closed ln ls')
  unfolding closed
  closed_alike (as_frame left later) ln = like_bind _ _ (head_alike a b ln 0 left) (λ h g e. both_refused)
  closed_alike (in_condition {body} {body'} later s m) ln =
      let e = same_length m in
      rw (frame_got ln condition_tag body s, frame_got ln condition_tag body' (omega arith)) (like_bind {R = λ h g. Unit {0}} _ _ (both_got tt) (λ h g u. both_refused))
  closed_alike (after_line line m) ln = like_then (header ln 0 line) _ _ (λ h. both_refused)

  no_frame_lem : (ln k p : ℕ) (left : List ℕ) → Like Never (frame_at ln k p (a ∷ left)) (frame_at ln k p (b ∷ left))
  unfolding frame_at
  no_frame_lem ln k p left = like_bind _ _ (head_alike a b ln 0 left) (λ h g e. rw (e.1, e.2, (A.no_frame ln).0, (A.no_frame ln).1) (like_never _ _ both_refused))

  tail_alike : {ls ls' : List (List ℕ)} → OtherTagLines a b ls ls' → (ln k p : ℕ) → Like Tails (tail ls ln k p) (tail ls' ln k p)
  unfolding tail after
  tail_alike (as_frame left later) ln k p = like_never _ _ (no_frame_lem ln k p left)
  tail_alike (in_condition later s m) ln k p =
      like_bind _ _ (frame_alike m s ln k p) (λ f g e. rw (e.2, e.3) (like_then (closed (ln + 1) later) _ _ (λ u. both_got (refl, e.4))))
  tail_alike (after_line line {ls} {ls'} m) ln k p =
      like_then (frame_at ln k p line) _ _ (λ f. go (λ ln k p. tail_alike m ln k p) (λ ln. closed_alike m ln) f)
    where
      go : ((ln k p : ℕ) → Like Tails (tail ls ln k p) (tail ls' ln k p)) → ((ln : ℕ) → Like Never (closed ln ls) (closed ln ls')) → (f : Found) → Like Tails (after (tail ls) ls ln k f) (after (tail ls') ls' ln k f)
      go h c (table_row v) = like_bind _ _ (h (ln + 1) (k + 1) v.mass) (λ x y q. both_got (ap (v ∷◌) q.0, q.1))
      go h c (the_condition d) = like_never _ _ (c (ln + 1))

  -- A condition where the ship is owed.
  pub no_ship_lem : (body : List ℕ) → length body < 65_536 → ship_frame 1 (block condition_tag body) ≡ refused 4 1 0
  unfolding ship_frame
  no_ship_lem body l = bind_got _ (frame_got 1 condition_tag body l) ∙ test_refused 4 1 0 _ refl

  pub no_hull : (left : List ℕ) → Like Never (ship_frame 1 (a ∷ left)) (ship_frame 1 (b ∷ left))
  unfolding ship_frame
  no_hull left =
      like_bind _ _ (head_alike a b 1 0 left) (λ h g e.
      rw (e.1, e.2, test_refused 4 1 0 (fixed_in 1 ship (with_tag a e.0)) A.no_ship.0, test_refused 4 1 0 (fixed_in 1 ship (with_tag b e.0)) A.no_ship.1) both_refused)

  frames_alike : {ls ls' : List (List ℕ)} → OtherTagLines a b ls ls' → Like Readings (read_frames ls) (read_frames ls')
  unfolding read_frames
  frames_alike (as_frame left later) = like_never _ _ (no_hull left)
  frames_alike (in_condition {body} {body'} later s m) =
      let e = same_length m in
      rw (no_ship_lem body s, no_ship_lem body' (omega arith)) (like_never _ _ both_refused)
  frames_alike (after_line line m) = like_then (ship_frame 1 line) _ _ (λ v. like_bind _ _ (tail_alike m 2 0 0) (λ x y q. both_got (refl, q.0, q.1)))

  -- ---- a whole text
  pub read_alike : {ls ls' : List (List ℕ)} → OtherTagLines a b ls ls' → Lines ls → length (text ls) ≤ most_characters → Like Readings (read (text ls)) (read (text ls'))
  read_alike {ls} {ls'} m B l = let e = as_many_characters m in rw (read_lines ls B l, read_lines ls' (Lines-alike m A.fits B) (omega arith)) (frames_alike m)
