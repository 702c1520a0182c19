-- A text gets no refusal for the whole exactly when it is allowed as a whole, and it says one booklet only.
use mathlib.Core.Path.{◌≡◌, refl, ap, sym, ◌∙◌}
use mathlib.Core.Logic.{◌↔◌, ◌≢◌}
use mathlib.Core.List.{List}
use Prim.Native.Nat.{ℕ, ◌≤◌}
use native.Mathlib.Omega.{arith}
use lib.ListN.{length}
use borrow.Author.Tests.{leb-true}
use Rattle.rules.specs.Text.{text}
use Rattle.rules.specs.Layout.{most_conditions, Booklet}
use Rattle.rules.specs.Outcome.{Ans, refused, got, Unread}
use Rattle.rules.specs.Booklet.{counted_lines, book_frames, read_whole}
use Rattle.rules.specs.Apart.{lines_of, spell_booklet, WholeLimits, LinesWithin, AllowedWhole}
use Rattle.rules.proofs.layout.Lines.{lines_sound}
use Rattle.rules.proofs.walk.Outcome.{refused_got, bind_inv, bind_first, test_inv, bind_got}
use Rattle.rules.proofs.booklet.Counted.{counted_lines_steps, lines_counted, counted_sound, counted_got, lines_lead}
use Rattle.rules.proofs.booklet.Frames.{framed, frames_sound, frames_got, Lines-booklet}
use Rattle.rules.proofs.booklet.Refusals.{counted_lines_refusal, read_whole_refusal}

-- ---- the lines
pub counted_lines_sound : (most : ℕ) (t : List ℕ) (ls : List (List ℕ)) → counted_lines most t ≡ got ls → LinesWithin most t ls
counted_lines_sound most t ls e =
    let a = test_inv _ _ _ _ _ (sym (counted_lines_steps most t) ∙ e) in
    let b = bind_inv _ _ a.1 in
    let u = bind_inv _ _ b.2 in
    let L = lines_sound 1 t b.0 b.1 in
    let q : b.0 ≡ ls = cc in
    rw (← q) (record { long = leb-true (length t) most a.0; spells = L.0; lines = L.1; at_most = counted_sound b.0 1 most_conditions u.0 u.1 })

pub counted_lines_got : (most : ℕ) (t : List ℕ) (ls : List (List ℕ)) → LinesWithin most t ls → counted_lines most t ≡ got ls
counted_lines_got most t ls C = ap (counted_lines most) (sym C.spells) ∙ lines_counted most ls C.lines (rw C.spells C.long) ∙ bind_got _ (counted_got ls 1 most_conditions C.at_most)

-- Then it is read by its blocks.
pub read_blocks : (most : ℕ) (t : List ℕ) (ls : List (List ℕ)) → LinesWithin most t ls → read_whole most t ≡ book_frames ls
unfolding read_whole
read_blocks most t ls C = bind_got book_frames (counted_lines_got most t ls C)

-- So is every text that is refused for the whole with a number that only a block gets.
pub lines_of_refused : (most : ℕ) (t : List ℕ) (n l o : ℕ) → read_whole most t ≡ refused n l o → n ≢ 1 → n ≢ 5 → (ls : List (List ℕ)) × LinesWithin most t ls
unfolding read_whole
lines_of_refused most t n l o e one five = go (counted_lines most t) refl
  where
    go : (a : Ans (List (List ℕ))) → counted_lines most t ≡ a → (ls : List (List ℕ)) × LinesWithin most t ls
    go (refused x y z) q = absurd (five (((counted_lines_refusal most t).holds n l o (bind_first _ book_frames q e)).1 one))
    go (got ls) q = (ls, counted_lines_sound most t ls q)

-- ---- sound and complete
pub sound : (most : ℕ) (t : List ℕ) (b : Booklet) → read_whole most t ≡ got b → WholeLimits most b × (spell_booklet b ≡ t)
unfolding read_whole spell_booklet
sound most t b e =
    let a = bind_inv _ _ e in
    let C = counted_lines_sound most t a.0 a.1 in
    let F = frames_sound a.0 b C.lines a.2 in
    let p : text (lines_of b) ≡ t = ap text F.spells ∙ C.spells in
    let n : length b.conditions ≤ most_conditions = rw (← (lines_lead b.ship b.rows b.conditions F.begin), F.spells) C.at_most in
    (record { hull = F.hull; rising = F.rising; no_slips = F.no_slips; few = F.few; many = F.many; begin = F.begin; some = F.some; at_most = n; long = omega (arith, ap length p, C.long) }, p)

-- Its own lines, where it is within the limits.
pub lines_within : {most : ℕ} {b : Booklet} → WholeLimits most b → LinesWithin most (spell_booklet b) (lines_of b)
unfolding spell_booklet
lines_within {b = b} w = record { spells = refl; lines = Lines-booklet b (framed w); long = w.long; at_most = rw (lines_lead b.ship b.rows b.conditions w.begin) w.at_most }

pub complete : (most : ℕ) (b : Booklet) → WholeLimits most b → read_whole most (spell_booklet b) ≡ got b
complete most b w = read_blocks most (spell_booklet b) (lines_of b) (lines_within w) ∙ frames_got b (framed w)

-- ---- read exactly when allowed, and in one way
pub read_back : (most : ℕ) (t : List ℕ) (a : AllowedWhole most t) → read_whole most t ≡ got a.0
read_back most t a = rw (← a.2) (complete most a.0 a.1)

pub whole_unique : (most : ℕ) (t : List ℕ) (a b : AllowedWhole most t) → a.0 ≡ b.0
whole_unique most t a b =
    let p = read_back most t a in
    let q = read_back most t b in
    cc

pub whole_iff_allowed : (most : ℕ) (t : List ℕ) → ((n l o : ℕ) → Unread n → read_whole most t ≢ refused n l o) ↔ AllowedWhole most t
whole_iff_allowed most t = (λ h. go h (read_whole most t) refl, λ a n l o h e. refused_got (sym e ∙ read_back most t a))
  where
    go : ((n l o : ℕ) → Unread n → read_whole most t ≢ refused n l o) → (a : Ans Booklet) → read_whole most t ≡ a → AllowedWhole most t
    go h (refused n l o) e = absurd (h n l o ((read_whole_refusal most t).holds n l o e) e)
    go h (got b) e = let s = sound most t b e in (b, s.0, s.1)
