-- The walk of a condition at line ln and at line ln' differ in the line only.
use mathlib.Core.Path.{◌≡◌, refl, ap, ◌∙◌}
use mathlib.Core.Bool.{Bool, true, false, cond}
use mathlib.Core.List.{List, [], ◌∷◌}
use Prim.Native.Nat.{ℕ, zero, suc}
use lib.Dec.{ltb, eqb}
use lib.ListN.{length}
use Rattle.rules.specs.Blocks.{Layout, Set, weather, ordinary, cargo, item, tank, entry, group_tag}
use Rattle.rules.specs.Layout.{most_depth, most_entries}
use Rattle.rules.specs.Outcome.{Ans, refused, got, test, ◌>>=◌, ◌>>◌}
use Rattle.rules.specs.Walk.{Head, header, fixed, Tag, load, nested, tag_of, Block, one, nest, begun, block_at, Walk, step, walk, entries, sets, among, chosen, weather_at, load_at, inside, condition_in}
use Rattle.rules.specs.Booklet.{condition_at}

-- The same answer, with its refusal in this line.
abbrev pub relined : {A : Type 0} → ℕ → Ans A → Ans A
relined ln (refused n l o) = refused n ln o
relined ln (got a) = got a

-- ---- the two ways of putting answers together
bind_relined : {A B : Type 0} (ln : ℕ) (m m' : Ans A) (k k' : A → Ans B) → m ≡ relined ln m' → ((a : A) → k a ≡ relined ln (k' a)) → (m >>= k) ≡ relined ln (m' >>= k')
unfolding ◌>>=◌
bind_relined ln m (refused n l o) k k' e h = rw e
bind_relined ln m (got a) k k' e h = rw e (h a)

test_relined : {B : Type 0} (ln ln' : ℕ) (c : Bool) (n o : ℕ) (k k' : Ans B) → k ≡ relined ln k' → (test c n ln o >> k) ≡ relined ln (test c n ln' o >> k')
unfolding ◌>>◌ test
test_relined ln ln' true n o k k' h = h
test_relined ln ln' false n o k k' h = refl

module _ (ln ln' : ℕ) where
  header_relined : (at : ℕ) (s : List ℕ) → header ln at s ≡ relined ln (header ln' at s)
  unfolding header
  header_relined at [] = refl
  header_relined at (t ∷ []) = refl
  header_relined at (t ∷ a ∷ []) = refl
  header_relined at (t ∷ a ∷ b ∷ s) = test_relined ln ln' _ _ _ _ _ refl

  fixed_relined : {A : Type 0} (L : Layout A) (room : Bool) (at : ℕ) (body : List ℕ) → fixed ln L room at body ≡ relined ln (fixed ln' L room at body)
  unfolding fixed
  fixed_relined L room at body = test_relined ln ln' _ _ _ _ _ (test_relined ln ln' _ _ _ _ _ (test_relined ln ln' _ _ _ _ _ refl))

  tag_of_relined : (at t : ℕ) → tag_of ln at t ≡ relined ln (tag_of ln' at t)
  unfolding tag_of
  tag_of_relined at t = go (eqb t (entry item).tag) (eqb t (entry (tank ordinary)).tag) (eqb t (entry (tank cargo)).tag) (eqb t group_tag)
    where
      by : ℕ → Bool → Bool → Bool → Bool → Ans Tag
      by ln a b c d = cond a (got (load item)) (cond b (got (load (tank ordinary))) (cond c (got (load (tank cargo))) (cond d (got nested) (refused 4 ln at))))

      go : (a b c d : Bool) → by ln a b c d ≡ relined ln (by ln' a b c d)
      go true b c d = refl
      go false true c d = refl
      go false false true d = refl
      go false false false true = refl
      go false false false false = refl

  block_relined : (d n at t : ℕ) (body : List ℕ) → block_at ln d n at t body ≡ relined ln (block_at ln' d n at t body)
  unfolding block_at begun
  block_relined d n at t body = bind_relined ln _ _ _ _ (tag_of_relined at t) go
    where
      go : (x : Tag) → begun ln d n at body x ≡ relined ln (begun ln' d n at body x)
      go (load k) = bind_relined ln _ _ _ _ (fixed_relined (entry k) (ltb 0 n) at body) (λ v. refl)
      go nested = test_relined ln ln' _ _ _ _ _ (test_relined ln ln' _ _ _ _ _ refl)

  abbrev Same : Walk → Walk → Type 0
  Same w w' = (d n at : ℕ) (s : List ℕ) → w d n at s ≡ relined ln (w' d n at s)

  step_relined : (w w' : Walk) → Same w w' → (d n at : ℕ) (h : Head) (b : Block) → step ln w d n at h b ≡ relined ln (step ln' w' d n at h b)
  unfolding step
  step_relined w w' S d n at h (one k v) = bind_relined ln _ _ _ _ (S _ _ _ _) (λ r. refl)
  step_relined w w' S d n at h nest = bind_relined ln _ _ _ _ (S _ _ _ _) (λ g. bind_relined ln _ _ _ _ (S _ _ _ _) (λ r. refl))

  walk_relined : (f : ℕ) → Same (walk ln f) (walk ln' f)
  unfolding walk
  walk_relined zero d n at s = refl
  walk_relined (suc f) d n at [] = refl
  walk_relined (suc f) d n at (x ∷ s) = bind_relined ln _ _ _ _ (header_relined at (x ∷ s)) (λ h. bind_relined ln _ _ _ _ (block_relined d n at h.tag h.body) (λ b. step_relined (walk ln f) (walk ln' f) (walk_relined f) d n at h b))

  entries_relined : Same (entries ln) (entries ln')
  unfolding entries
  entries_relined d n at s = walk_relined (suc (length s)) d n at s

  among_relined : (t : ℕ) (ss : List Set) → among ln t ss ≡ relined ln (among ln' t ss)
  unfolding among
  among_relined t [] = refl
  among_relined t (s ∷ ss) = go (eqb t (weather s).tag) (among_relined t ss)
    where
      go : (b : Bool) → among ln t ss ≡ relined ln (among ln' t ss) → elim b [ true ↦ got s | false ↦ among ln t ss ] ≡ relined {A = Set} ln (elim b [ true ↦ got s | false ↦ among ln' t ss ])
      go true h = refl
      go false h = h

  weather_relined : (t : ℕ) (body : List ℕ) → weather_at ln t body ≡ relined ln (weather_at ln' t body)
  unfolding weather_at chosen
  weather_relined t body = bind_relined ln _ _ _ _ (among_relined t sets) (λ s. bind_relined ln _ _ _ _ (fixed_relined (weather s) true 3 body) (λ v. refl))

  inside_relined : (body : List ℕ) → inside ln body ≡ relined ln (inside ln' body)
  unfolding inside load_at
  inside_relined body =
      test_relined ln ln' _ _ _ _ _ (bind_relined ln _ _ _ _ (header_relined 3 body) (λ h.
      bind_relined ln _ _ _ _ (weather_relined h.tag h.body) (λ w.
      bind_relined ln _ _ _ _ (test_relined ln ln' _ _ _ _ _ (entries_relined most_depth most_entries _ h.rest)) (λ e. refl))))

  pub condition_relined : (l : List ℕ) → condition_at ln l ≡ relined ln (condition_at ln' l)
  unfolding condition_at condition_in
  condition_relined l = bind_relined ln _ _ _ _ (header_relined 0 l) (λ h. test_relined ln ln' _ _ _ _ _ (test_relined ln ln' _ _ _ _ _ (inside_relined h.body)))

-- In another line a condition line is refused as it is, there.
pub refused_there : (ln ln' : ℕ) (l : List ℕ) {n m o : ℕ} → condition_at ln l ≡ refused n m o → condition_at ln' l ≡ refused n ln' o
refused_there ln ln' l e = condition_relined ln' ln l ∙ ap (relined ln') e
