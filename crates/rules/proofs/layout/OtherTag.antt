-- Bytes and lines with one tag made another: as long as before, and lines still.
use mathlib.Core.Path.{◌≡◌, refl}
use mathlib.Core.Bool.{true}
use mathlib.Core.List.{List, [], ◌∷◌, ◌++◌}
use Prim.Native.Nat.{ℕ, suc, ◌+◌, ◌*◌, ◌<◌}
use native.Mathlib.Omega.{arith}
use lib.ListN.{length, length-append}
use Rattle.rules.specs.Numbers.{digits, Bytes, full}
use Rattle.rules.specs.Text.{text, Lines}
use Rattle.rules.specs.Blocks.{block, condition_tag, group_tag}
use Rattle.rules.specs.Tags.{OtherTag, tag_here, after_block, inside_group, OtherTagLines, as_frame, in_condition, after_line}
use Rattle.rules.proofs.layout.Numbers.{Bytes-append}
use Rattle.rules.proofs.layout.Lines.{length_hex}
use Rattle.rules.proofs.walk.Heads.{length_block, length_alone, full_block, Bytes-block}

-- As long, and something in both.
pub same_length : {a b : ℕ} {s s' : List ℕ} → OtherTag a b s s' → length s ≡ length s'
same_length (tag_here left) = refl
same_length (after_block tag body {rest} {rest'} m) = omega (arith, same_length m, length_block tag body rest, length_block tag body rest')
same_length (inside_group {body} {body'} rest m) = omega (arith, same_length m, length_block group_tag body rest, length_block group_tag body' rest)

pub both_full : {a b : ℕ} {s s' : List ℕ} → OtherTag a b s s' → (full s ≡ true) × (full s' ≡ true)
both_full (tag_here left) = (refl, refl)
both_full (after_block tag body {rest} {rest'} m) = (full_block tag body rest, full_block tag body rest')
both_full (inside_group {body} {body'} rest m) = (full_block group_tag body rest, full_block group_tag body' rest)

-- The other way round.
other_bytes : {a b : ℕ} {s s' : List ℕ} → OtherTag a b s s' → OtherTag b a s' s
other_bytes (tag_here left) = tag_here left
other_bytes (after_block tag body m) = after_block tag body (other_bytes m)
other_bytes (inside_group rest m) = inside_group rest (other_bytes m)

pub other_way : {a b : ℕ} {ls ls' : List (List ℕ)} → OtherTagLines a b ls ls' → OtherTagLines b a ls' ls
other_way (as_frame left later) = as_frame left later
other_way (in_condition {body} {body'} later s m) = let e = same_length m in in_condition {body = body'} {body' = body} later (omega arith) (other_bytes m)
other_way (after_line line m) = after_line line (other_way m)

-- A line is no longer than its text.
pub text_long : (line : List ℕ) (ls : List (List ℕ)) → length (text (line ∷ ls)) ≡ 2 * length line + suc (length (text ls))
unfolding text
text_long line ls = simp (length-append, length_hex) refl

pub as_many_characters : {a b : ℕ} {ls ls' : List (List ℕ)} → OtherTagLines a b ls ls' → length (text ls) ≡ length (text ls')
as_many_characters {a} {b} (as_frame left later) = omega (arith, text_long (a ∷ left) later, text_long (b ∷ left) later)
as_many_characters (in_condition {body} {body'} later s m) =
    omega (arith, same_length m, length_alone condition_tag body, length_alone condition_tag body', text_long (block condition_tag body) later, text_long (block condition_tag body') later)
as_many_characters (after_line line {ls} {ls'} m) = omega (arith, text_long line ls, text_long line ls', as_many_characters m)

-- Lines stay lines.
Bytes-parts : (a b : List ℕ) → Bytes (a ++ b) → Bytes a × Bytes b
unfolding Bytes
Bytes-parts [] b h = (tt, h)
Bytes-parts (x ∷ a) b h = let p = Bytes-parts a b h.1 in ((h.0, p.0), p.1)

Bytes-body : (t : ℕ) (body : List ℕ) → Bytes (block t body) → Bytes body
unfolding Bytes block
Bytes-body t body h = (Bytes-parts (digits 2 (length body)) body h.1).1

Bytes-alike : {a b : ℕ} {s s' : List ℕ} → OtherTag a b s s' → b < 256 → length s < 65_536 → Bytes s → Bytes s'
unfolding Bytes
Bytes-alike (tag_here left) t l h = (omega arith, h.1)
Bytes-alike (after_block tag body {rest} {rest'} m) t l h =
    let L = length_block tag body rest in
    let p = Bytes-parts (block tag body) rest h in
    Bytes-append (block tag body) rest' p.0 (Bytes-alike m t (omega arith) p.1)
Bytes-alike (inside_group {body} {body'} rest m) t l h =
    let L = length_block group_tag body rest in
    let e = same_length m in
    let p = Bytes-parts (block group_tag body) rest h in
    Bytes-append (block group_tag body') rest (Bytes-block group_tag body' (omega arith) (omega arith) (Bytes-alike m t (omega arith) (Bytes-body group_tag body p.0))) p.1

pub Lines-alike : {a b : ℕ} {ls ls' : List (List ℕ)} → OtherTagLines a b ls ls' → b < 256 → Lines ls → Lines ls'
unfolding Lines Bytes block
Lines-alike (as_frame left later) t h = (refl, (omega arith, h.1.1), h.2)
Lines-alike (in_condition {body} {body'} later s m) t h =
    let e = same_length m in
    (refl, Bytes-block condition_tag body' (omega arith) (omega arith) (Bytes-alike m t s (Bytes-body condition_tag body h.1)), h.2)
Lines-alike (after_line line m) t h = (h.0, h.1, Lines-alike m t h.2)
