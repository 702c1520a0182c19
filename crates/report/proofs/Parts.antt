-- A buffer that is written from its front on, part after part: each part is lent to its writer and comes back written.
use Rattle.std.proofs.Common.{◌≡◌, ℕ, suc, ◌+◌, ◌-◌, ◌*◌, ◌<◌, ◌≤◌, List, [], ◌∷◌, ◌++◌, map, length, get_or, take, drop, set, sym, refl, ap, ◌∙◌, append_assoc, append-nil, add-one, arith, length-take-le, take_all, drop-cons, take-suc, drop-drop, take_at, drop_at}
use lib.Seq.{set_at, append_snoc}
use borrow.Rule.Slice.PartMut.{put_mid}
use Rattle.rules.specs.Text.{hex}
use Rattle.rules.specs.Report.{concat}
use Rattle.rules.proofs.answer.Length.{concat_length}

-- With p written, the part from n to e is lent and comes back as ys: then p and ys are written.
pub lent : (p ys l : List ℕ) (n e : ℕ) → length p ≡ n → n ≤ e → put_mid n (e - n) (p ++ drop n l) ys ≡ (p ++ ys) ++ drop e l
lent p ys l n e h k =
    let j : n + (e - n) ≡ e = omega arith in
    rw (take_at p (drop n l) n h, drop_at p (drop n l) n h, drop-drop (e - n) n l, j) (sym (append_assoc p ys (drop e l)))

-- The same of a single byte that is stored.
pub stored : (p l : List ℕ) (n b : ℕ) → length p ≡ n → n < length l → set (p ++ drop n l) n b ≡ (p ++ (b ∷ [])) ++ drop (suc n) l
stored p l n b e h = rw (drop-cons l n 0 h) (set_at p (get_or l n 0) (drop (suc n) l) b n e ∙ sym (append_snoc p b (drop (suc n) l)))

concat_snoc : {A : Type 0} (f : A → List ℕ) (xs : List A) (x : A) → concat (map f (xs ++ (x ∷ []))) ≡ concat (map f xs) ++ f x
unfolding concat
concat_snoc f [] x = append-nil (f x)
concat_snoc f (y ∷ xs) x = rw (concat_snoc f xs x) (sym (append_assoc (f y) (concat (map f xs)) (f x)))

-- A buffer with the parts of the first k elements written.
abbrev pub written : {A : Type 0} → (A → List ℕ) → ℕ → List A → ℕ → List ℕ → List ℕ
written f m xs k l = concat (map f (take k xs)) ++ drop (m * k) l

module _ {A : Type 0} (f : A → List ℕ) (m : ℕ) (size : (x : A) → length (f x) ≡ m) (xs : List A) (l : List ℕ) where
  pub written_none : l ≡ written f m xs 0 l
  unfolding concat
  written_none = let z : m * 0 ≡ 0 = omega arith in rw z

  part_length : (k : ℕ) → k ≤ length xs → length (concat (map f (take k xs))) ≡ m * k
  part_length k h = concat_length f m size (take k xs) ∙ ap (m *◌) (length-take-le k xs h)

  -- One part more.
  pub written_more : (k : ℕ) (d : A) → k < length xs → put_mid (m * k) (m * k + m - m * k) (written f m xs k l) (f (get_or xs k d)) ≡ written f m xs (k + 1) l
  written_more k d h =
      let e : m * k + m ≡ m * suc k = omega arith in
      lent (concat (map f (take k xs))) (f (get_or xs k d)) l (m * k) (m * k + m) (part_length k (omega arith)) (omega arith)
      ∙ rw (add-one k, take-suc xs k d h, concat_snoc f (take k xs) (get_or xs k d), e)

  pub written_all : (k : ℕ) → k ≡ length xs → written f m xs k l ≡ concat (map f xs) ++ drop (m * length xs) l
  written_all k e = rw (take_all k xs (omega arith), e)

-- Characters are such parts, of two each.
pub hex_parts : (s : List ℕ) → concat (map (λ b. hex (b ∷ [])) s) ≡ hex s
unfolding concat hex
hex_parts [] = refl
hex_parts (b ∷ s) = rw (hex_parts s)
