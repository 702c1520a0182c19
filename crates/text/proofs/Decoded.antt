-- Pair after pair: what is left to decode once n pairs are looked at, and what stands in the buffer.
use mathlib.Core.Path.{◌≡◌, refl, ap, sym, ◌∙◌}
use mathlib.Core.Bool.{Bool, true, false, cond}
use mathlib.Core.List.{List, [], ◌∷◌, ◌++◌, append_assoc, append-nil}
use Prim.Native.Nat.{ℕ, zero, suc, ◌+◌, ◌*◌, ◌/◌, ◌≤◌, ◌<◌, min}
use native.Mathlib.Omega.{arith}
use native.Mathlib.Numerals.{add-one}
use lib.Dec.{leb, ltb}
use lib.ListN.{length, get_or, take, drop, set, length-drop, length-set, take-append-drop}
use lib.Seq.{drop-cons, drop-set-lt, take-suc-set, take_all, length-take-le}
use borrow.Author.Tests.{leb-true, leb-false, ltb-true, ltb-false}
use Rattle.text.specs.Line.{is_pair, pair_of, before, decoded, over}
use Rattle.std.specs.Prelude.{Option, None, Some, take_while}
use Rattle.std.specs.List.{prefix_len}
use Rattle.std.specs.Option.{is_some}
use Rattle.std.specs.Simd.{first_chunks}

short : (s : List ℕ) → length s ≤ 1 → decoded s ≡ []
unfolding decoded
short [] h = refl
short (a ∷ []) h = refl
short (a ∷ b ∷ s) h = absurd (omega arith)

-- Two characters to a byte.
pub decoded_half : (t : List ℕ) → 2 * length (decoded t) ≤ length t
unfolding decoded
decoded_half [] = omega arith
decoded_half (a ∷ []) = omega arith
decoded_half (a ∷ b ∷ s) = go (pair_of a b) (decoded_half s)
  where
    go : (p : Option ℕ) → 2 * length (decoded s) ≤ length s → 2 * length (before p (decoded s)) ≤ length (a ∷ b ∷ s)
    go None h = omega arith
    go (Some x) h = omega arith

-- ---- bytes over a buffer
pub over_length : (b out : List ℕ) → length (over b out) ≡ length out
unfolding over
over_length [] out = refl
over_length (x ∷ b) [] = refl
over_length (x ∷ b) (o ∷ out) = ap suc (over_length b out)

over_none : (b : List ℕ) → over b [] ≡ []
unfolding over
over_none [] = refl
over_none (x ∷ b) = refl

-- As many as it holds are there.
pub over_held : (m : ℕ) (b out : List ℕ) → m ≤ length b → m ≤ length out → take m (over b out) ≡ take m b
unfolding over
over_held zero b out h k = refl
over_held (suc m) [] out h k = absurd (omega arith)
over_held (suc m) (x ∷ b) [] h k = absurd (omega arith)
over_held (suc m) (x ∷ b) (o ∷ out) h k = ap (x ∷◌) (over_held m b out (omega arith) (omega arith))

-- ---- one pair more
module _ (t : List ℕ) (n : ℕ) where
  two : 2 * n + 1 < length t → drop (2 * n) t ≡ get_or t (2 * n) 0 ∷ get_or t (2 * n + 1) 0 ∷ drop (2 * (n + 1)) t
  two h =
      let e : suc (suc (2 * n)) ≡ 2 * (n + 1) = omega arith in
      drop-cons t (2 * n) 0 (omega arith) ∙ ap (get_or t (2 * n) 0 ∷◌) (drop-cons t (suc (2 * n)) 0 (omega arith) ∙ rw (e, add-one (2 * n)))

  pub last_pair : length t ≤ 2 * n + 1 → decoded (drop (2 * n) t) ≡ []
  last_pair h = short (drop (2 * n) t) (rw (length-drop (2 * n) t) (omega arith))

  pub no_pair : 2 * n + 1 < length t → pair_of (get_or t (2 * n) 0) (get_or t (2 * n + 1) 0) ≡ None → decoded (drop (2 * n) t) ≡ []
  unfolding decoded
  no_pair h e = rw (two h, e)

  next_pair : (x : ℕ) → 2 * n + 1 < length t → pair_of (get_or t (2 * n) 0) (get_or t (2 * n + 1) 0) ≡ Some x → decoded (drop (2 * n) t) ≡ x ∷ decoded (drop (2 * (n + 1)) t)
  unfolding decoded
  next_pair x h e = rw (two h, e)

-- `Passed t n`: n pairs of t are looked at, and the others are still to come.
abbrev pub Passed : List ℕ → ℕ → Type 0
Passed t n = length (decoded t) ≡ n + length (decoded (drop (2 * n) t))

pub passed_none : (t : List ℕ) → Passed t 0
passed_none t = omega arith

pub passed_more : (t : List ℕ) (n : ℕ) → Passed t n → (x : ℕ) → 2 * n + 1 < length t → pair_of (get_or t (2 * n) 0) (get_or t (2 * n + 1) 0) ≡ Some x → Passed t (n + 1)
passed_more t n p x h e = let d = ap length (next_pair t n x h e) in omega arith

pub passed_done : (t : List ℕ) (n : ℕ) → Passed t n → decoded (drop (2 * n) t) ≡ [] → n ≡ length (decoded t)
passed_done t n p e = let d = ap length e in omega arith

-- Some are looked at, and then the others.
pub passed_rest : (k : ℕ) (t : List ℕ) → k ≤ length (decoded t) → Passed t k
unfolding decoded
passed_rest zero t h = passed_none t
passed_rest (suc k) [] h = absurd (omega arith)
passed_rest (suc k) (a ∷ []) h = absurd (omega arith)
passed_rest (suc k) (a ∷ b ∷ s) h = go (pair_of a b) (λ h. passed_rest k s h) h
  where
    go : (p : Option ℕ) → (k ≤ length (decoded s) → Passed s k) → suc k ≤ length (before p (decoded s)) → length (before p (decoded s)) ≡ suc k + length (decoded (drop (2 * suc k) (a ∷ b ∷ s)))
    go None r h = absurd (omega arith)
    go (Some x) r h =
        let e : 2 * suc k ≡ suc (suc (2 * k)) = omega arith in
        let p = r (omega arith) in
        rw e (omega arith)

-- Two by two, as long as they are pairs.
pub pairs_counted : (s : List ℕ) → length (take_while is_pair (first_chunks 2 (length s / 2) s)) ≡ length (decoded s)
unfolding decoded
pairs_counted [] = refl
pairs_counted (a ∷ []) = refl
pairs_counted (a ∷ b ∷ s) = rw (half (length s)) (go (pair_of a b) (pairs_counted s))
  where
    half : (n : ℕ) → suc (suc n) / 2 ≡ suc (n / 2)
    half n = omega arith

    suc_add : (n : ℕ) → 1 + n ≡ suc n
    suc_add n = omega arith

    go : (p : Option ℕ) → length (take_while is_pair (first_chunks 2 (length s / 2) s)) ≡ length (decoded s)
        → length (take (cond (is_some p) (1 + prefix_len is_pair (first_chunks 2 (length s / 2) s)) 0) ((a ∷ b ∷ []) ∷ first_chunks 2 (length s / 2) s)) ≡ length (before p (decoded s))
    go None h = refl
    go (Some x) h = rw (suc_add (prefix_len is_pair (first_chunks 2 (length s / 2) s))) (ap suc h)

-- Where there is room for more than there are, those are all; else the others come behind.
module _ (t : List ℕ) (n room : ℕ) (e : n ≡ length (take room (decoded t))) where
  pub first_all : n < room → n ≡ length (decoded t)
  first_all h = go (leb room (length (decoded t))) refl
    where
      go : (b : Bool) → leb room (length (decoded t)) ≡ b → n ≡ length (decoded t)
      go true p = let l = leb-true room (length (decoded t)) p in absurd (let q = length-take-le room (decoded t) l in omega arith)
      go false p = let l = leb-false room (length (decoded t)) p in e ∙ ap length (take_all room (decoded t) (omega arith))

  pub first_some : n ≤ length (decoded t)
  first_some = go (leb room (length (decoded t))) refl
    where
      go : (b : Bool) → leb room (length (decoded t)) ≡ b → n ≤ length (decoded t)
      go true p = let l = leb-true room (length (decoded t)) p in let q = length-take-le room (decoded t) l in omega arith
      go false p = let l = leb-false room (length (decoded t)) p in let q = ap length (take_all room (decoded t) (omega arith)) in omega arith

-- ---- into a buffer
-- n pairs of t are decoded: their bytes stand in the buffer, which held `kept`.
pub record Going (t kept out : List ℕ) (n : ℕ) : Type 0 where
  pub passed : Passed t n
  pub buffer : over (decoded t) kept ≡ take n out ++ over (decoded (drop (2 * n) t)) (drop n out)
  pub room : length out ≡ length kept

pub going_none : (t kept : List ℕ) → Going t kept kept 0
going_none t kept = record { passed = passed_none t; buffer = refl; room = refl }

module _ {t kept out : List ℕ} {n : ℕ} (g : Going t kept out n) where
  pub going_more : (x : ℕ) → 2 * n + 1 < length t → n < length out → pair_of (get_or t (2 * n) 0) (get_or t (2 * n + 1) 0) ≡ Some x → Going t kept (set out n x) (n + 1)
  unfolding over
  going_more x h l e =
      let d : decoded (drop (2 * n) t) ≡ x ∷ decoded (drop (2 * (n + 1)) t) = next_pair t n x h e in
      let o : drop n out ≡ get_or out n 0 ∷ drop (n + 1) out = rw (add-one n) (drop-cons out n 0 l) in
      record {
        passed = passed_more t n g.passed x h e;
        buffer = g.buffer ∙ rw (d, o, add-one n, take-suc-set out n x l, drop-set-lt (suc n) out n x (omega arith), append_assoc (take n out) (x ∷ []) _);
        room = length-set out n x ∙ g.room;
      }

  -- No pair is left.
  pub going_done : n ≤ length out → decoded (drop (2 * n) t) ≡ [] → (n ≡ length (take (length kept) (decoded t))) × (out ≡ over (decoded t) kept)
  unfolding over
  going_done l e =
      let n-all : n ≡ length (decoded t) = passed_done t n g.passed e in
      let r = g.room in
      (n-all ∙ ap length (sym (take_all (length kept) (decoded t) (omega arith))), sym (g.buffer ∙ rw (e, take-append-drop n out)))

  -- The buffer is full.
  going_full : n ≡ length out → (n ≡ length (take (length kept) (decoded t))) × (out ≡ over (decoded t) kept)
  going_full l =
      let p = g.passed in
      let r = g.room in
      let none : drop n out ≡ [] = nil_of_length (drop n out) (length-drop n out ∙ omega arith) in (
        sym (length-take-le (length kept) (decoded t) (omega arith) ∙ omega arith),
        sym (g.buffer ∙ rw (none, over_none (decoded (drop (2 * n) t)), take_all n out (omega arith)) (append-nil out)),
      )
    where
      nil_of_length : (s : List ℕ) → length s ≡ 0 → s ≡ []
      nil_of_length [] e = refl
      nil_of_length (x ∷ s) e = absurd (omega arith)

  -- No pair is left for which there is room.
  pub going_end : n ≡ min (length out) (length t / 2) → (n ≡ length (take (length kept) (decoded t))) × (out ≡ over (decoded t) kept)
  going_end e = go (ltb n (length out)) refl
    where
      go : (b : Bool) → ltb n (length out) ≡ b → (n ≡ length (take (length kept) (decoded t))) × (out ≡ over (decoded t) kept)
      go true p = let l = ltb-true n (length out) p in going_done (omega arith) (last_pair t n (omega arith))
      go false p = let l = ltb-false n (length out) p in going_full (omega arith)

-- The buffer is as long afterwards.
pub same_room : (t kept out : List ℕ) (n : ℕ) → (n ≡ length (take (length kept) (decoded t))) × (out ≡ over (decoded t) kept) → n ≡ length (take (length out) (decoded t))
same_room t kept out n p = p.0 ∙ ap (λ k. length (take k (decoded t))) (sym (ap length p.1 ∙ over_length (decoded t) kept))
