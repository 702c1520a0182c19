-- The ways out of a condition and of a frame, one fact each, by places: what the code answers with.
use mathlib.Core.Path.{◌≡◌, refl, ap, sym, ◌∙◌}
use mathlib.Core.Bool.{Bool, true, false}
use mathlib.Core.List.{List, [], ◌∷◌}
use Prim.Native.Nat.{ℕ, ◌+◌, ◌≤◌, ◌<◌}
use native.Mathlib.Omega.{arith}
use lib.ListN.{length}
use borrow.Author.Tests.{lt-ltb, le-ltb, le-leb, lt-leb, eq-eqb, ne_eqb}
use Rattle.rules.specs.Blocks.{Layout, size, ok, values, ship, Row, row, smooth, Set, code, timber, weather}
use Rattle.rules.specs.Layout.{most_depth, most_entries, most_bytes}
use Rattle.rules.specs.Outcome.{refused, got, test, ◌>>=◌, ◌>>◌}
use Rattle.rules.specs.Walk.{Head, header, fixed, entries, among, chosen, weather_at, load_at, inside, condition_in, fixed_in, ship_frame, row_in, frame_at}
use Rattle.rules.specs.Parts.{part, head_at}
use Rattle.rules.proofs.walk.Outcome.{bind_got, bind_refused, test_got, test_refused}
use Rattle.rules.proofs.walk.Conditions.{chosen_got}
use Rattle.rules.proofs.layout.Parts.{full_some, full_none, length_part}
use Rattle.rules.proofs.walk.BlockExits.{fixed_length, fixed_outside, fixed_within}

-- ---- the weather
-- The set by its tag.
module _ (ln t : ℕ) where
  pub set_known : (s : Set) → t ≡ (weather s).tag → chosen ln t ≡ got s
  set_known s e = rw e (chosen_got ln s)

  next : (s : Set) (ss : List Set) → (t ≡ (weather s).tag → ⊥) → among ln t (s ∷ ss) ≡ among ln t ss
  unfolding among
  next s ss h = ap (λ (b : Bool). elim b [ true ↦ got s | false ↦ among ln t ss ]) (ne_eqb _ _ h)

  pub set_other : (t ≡ (weather code).tag → ⊥) → (t ≡ (weather timber).tag → ⊥) → chosen ln t ≡ refused 4 ln 3
  unfolding chosen
  set_other a b = next code (timber ∷ []) a ∙ next timber [] b

-- The block: its set, or 4; then its values, for any set.
module _ (ln t : ℕ) (body : List ℕ) where
  pub weather_tag_lem : chosen ln t ≡ refused 4 ln 3 → weather_at ln t body ≡ refused 4 ln 3
  unfolding weather_at
  weather_tag_lem h = bind_refused _ h

  module _ (s : Set) (e : chosen ln t ≡ got s) where
    pub weather_length : (length body ≡ size (weather s).fields → ⊥) → weather_at ln t body ≡ refused 3 ln 3
    unfolding weather_at
    weather_length h = bind_got _ e ∙ bind_refused _ (fixed_length ln 3 (weather s) body true h)

    module _ (h : length body ≡ size (weather s).fields) where
      pub weather_outside : ok (weather s) ((weather s).named (values (weather s).fields body)) ≡ false → weather_at ln t body ≡ refused 6 ln 3
      unfolding weather_at
      weather_outside o = bind_got _ e ∙ bind_refused _ (fixed_outside ln 3 (weather s) body true h refl o)

      pub weather_within : ok (weather s) ((weather s).named (values (weather s).fields body)) ≡ true → weather_at ln t body ≡ got (record { set = s; sky = (weather s).named (values (weather s).fields body) })
      unfolding weather_at
      weather_within o = bind_got _ e ∙ bind_got _ (fixed_within ln 3 (weather s) body true h refl o)

-- ---- the load
module _ (ln at : ℕ) (s : List ℕ) where
  pub load_none : length s ≡ 0 → load_at ln at s ≡ refused 5 ln 0
  unfolding load_at
  load_none h = test_refused _ _ _ _ (full_none s h)

  pub load_some : 0 < length s → load_at ln at s ≡ entries ln most_depth most_entries at s
  unfolding load_at
  load_some h = test_got _ _ _ _ (full_some s h)

-- ---- the body of A3
module _ (ln : ℕ) (body : List ℕ) where
  pub inside_none : length body ≡ 0 → inside ln body ≡ refused 5 ln 0
  unfolding inside
  inside_none h = test_refused _ _ _ _ (full_none body h)

  pub inside_short : 0 < length body → header ln 3 body ≡ refused 2 ln 3 → inside ln body ≡ refused 2 ln 3
  unfolding inside
  inside_short l h = test_got _ _ _ _ (full_some body l) ∙ bind_refused _ h

  pub inside_block : (tag len : ℕ) → 3 + len ≤ length body → header ln 3 body ≡ got (head_at tag len body)
      → inside ln body ≡ (weather_at ln tag (part 3 (3 + len) body) >>= λ w. load_at ln (6 + len) (part (3 + len) (length body) body) >>= λ e. got (record { weather = w; load = e }))
  unfolding inside
  inside_block tag len l h =
      test_got _ _ _ _ (full_some body (omega arith)) ∙ bind_got _ h
      ∙ ap (λ x. weather_at ln tag (part 3 (3 + len) body) >>= λ w. load_at ln (6 + x) (part (3 + len) (length body) body) >>= λ e. got (record { weather = w; load = e })) (length_part body 3 (3 + len) l ∙ omega arith)

-- ---- a frame whose head is read: shorter than its line, or alone on it
module _ (ln t len : ℕ) (s : List ℕ) (l : 3 + len ≤ length s) where
  rest_none : length s ≡ 3 + len → length (head_at t len s).rest ≡ 0
  rest_none h = length_part s (3 + len) (length s) (omega arith) ∙ omega arith

  rest_some : (length s ≡ 3 + len → ⊥) → length (head_at t len s).rest ≡ 0 → ⊥
  rest_some h e = h (let k = sym (length_part s (3 + len) (length s) (omega arith)) ∙ e in omega arith)

  body_length : length (part 3 (3 + len) s) ≡ len
  body_length = length_part s 3 (3 + len) l ∙ omega arith

  pub condition_longer : (length s ≡ 3 + len → ⊥) → condition_in ln (head_at t len s) ≡ refused 3 ln 0
  unfolding condition_in
  condition_longer h = test_refused _ _ _ _ (ne_eqb _ _ (rest_some h))

  pub condition_over : length s ≡ 3 + len → most_bytes < len → condition_in ln (head_at t len s) ≡ refused 5 ln 0
  unfolding condition_in
  condition_over h o = test_got _ _ _ _ (eq-eqb _ _ (rest_none h)) ∙ test_refused _ _ _ _ (lt-leb (length (part 3 (3 + len) s)) most_bytes (rw body_length o))

  pub condition_whole : length s ≡ 3 + len → len ≤ most_bytes → condition_in ln (head_at t len s) ≡ inside ln (part 3 (3 + len) s)
  unfolding condition_in
  condition_whole h o = test_got _ _ _ _ (eq-eqb _ _ (rest_none h)) ∙ test_got _ _ _ _ (le-leb (length (part 3 (3 + len) s)) most_bytes (rw body_length o))

  module _ {A : Type 0} (L : Layout A) where
    pub fixed_in_longer : (length s ≡ 3 + len → ⊥) → fixed_in ln L (head_at t len s) ≡ refused 3 ln 0
    unfolding fixed_in
    fixed_in_longer h = test_refused _ _ _ _ (ne_eqb _ _ (rest_some h))

    module _ (h : length s ≡ 3 + len) where
      fixed_in_alone : fixed_in ln L (head_at t len s) ≡ fixed ln L true 0 (part 3 (3 + len) s)
      unfolding fixed_in
      fixed_in_alone = test_got _ _ _ _ (eq-eqb _ _ (rest_none h))

      pub fixed_in_length : (len ≡ size L.fields → ⊥) → fixed_in ln L (head_at t len s) ≡ refused 3 ln 0
      fixed_in_length n = fixed_in_alone ∙ fixed_length ln 0 L _ true (λ e. n (sym body_length ∙ e))

      pub fixed_in_outside : len ≡ size L.fields → ok L (L.named (values L.fields (part 3 (3 + len) s))) ≡ false → fixed_in ln L (head_at t len s) ≡ refused 6 ln 0
      fixed_in_outside n o = fixed_in_alone ∙ fixed_outside ln 0 L _ true (body_length ∙ n) refl o

      pub fixed_in_within : len ≡ size L.fields → ok L (L.named (values L.fields (part 3 (3 + len) s))) ≡ true → fixed_in ln L (head_at t len s) ≡ got (L.named (values L.fields (part 3 (3 + len) s)))
      fixed_in_within n o = fixed_in_alone ∙ fixed_within ln 0 L _ true (body_length ∙ n) refl o

-- ---- a row
module _ (ln p : ℕ) (h : Head) where
  pub row_refused : {a b c : ℕ} → fixed_in ln row h ≡ refused a b c → row_in ln p h ≡ refused a b c
  unfolding row_in
  row_refused e = bind_refused _ e

  pub row_low : (v : Row) → fixed_in ln row h ≡ got v → v.mass ≤ p → row_in ln p h ≡ refused 6 ln 0
  unfolding row_in
  row_low v e n = bind_got _ e ∙ test_refused _ _ _ _ (le-ltb p v.mass n)

  module _ (v : Row) (e : fixed_in ln row h ≡ got v) (n : p < v.mass) where
    row_high : row_in ln p h ≡ (test (smooth v.kn) 10 ln 0 >> got v)
    unfolding row_in
    row_high = bind_got _ e ∙ test_got _ _ _ _ (lt-ltb p v.mass n)

    pub row_slip : smooth v.kn ≡ false → row_in ln p h ≡ refused 10 ln 0
    row_slip s = row_high ∙ test_refused _ _ _ _ s

    pub row_got : smooth v.kn ≡ true → row_in ln p h ≡ got v
    row_got s = row_high ∙ test_got _ _ _ _ s

-- ---- a frame after the ship's
module _ (ln k p : ℕ) (s : List ℕ) where
  pub frame_short : header ln 0 s ≡ refused 2 ln 0 → frame_at ln k p s ≡ refused 2 ln 0
  unfolding frame_at
  frame_short e = bind_refused _ e

-- ---- the ship's frame
module _ (ln : ℕ) (s : List ℕ) where
  pub ship_short : header ln 0 s ≡ refused 2 ln 0 → ship_frame ln s ≡ refused 2 ln 0
  unfolding ship_frame
  ship_short e = bind_refused _ e

  pub ship_tag : (t len : ℕ) → header ln 0 s ≡ got (head_at t len s) → (t ≡ ship.tag → ⊥) → ship_frame ln s ≡ refused 4 ln 0
  unfolding ship_frame
  ship_tag t len H n = bind_got _ H ∙ test_refused _ _ _ _ (ne_eqb t ship.tag n)

  pub ship_in : (t len : ℕ) → header ln 0 s ≡ got (head_at t len s) → t ≡ ship.tag → ship_frame ln s ≡ fixed_in ln ship (head_at ship.tag len s)
  unfolding ship_frame fixed_in
  ship_in t len H e = bind_got _ H ∙ test_got _ _ _ _ (eq-eqb t ship.tag e)
