-- Two texts that differ in one tag alone, said of their bytes, with no reader. These are words for promises; `judge` rests on none of them.
use Rattle.std.specs.Prelude.{List, ◌∷◌, ◌++◌, ℕ, ◌<◌, length}
use Rattle.rules.specs.Blocks.{block, condition_tag, group_tag}

-- `OtherTag a b s s'`: in the bytes s blocks stand end to end, as their heads say, and one of them, or one in a group among them, begins with the tag a. In s' it begins with b, and nothing else differs.
-- Whether any of it is as it should be is left open, and so is what stands behind that tag: the block may be cut short, or of a wrong length, or out of its limits.
pub data OtherTag (a b : ℕ) : List ℕ → List ℕ → Type 0 where
  tag_here : (left : List ℕ) → OtherTag a b (a ∷ left) (b ∷ left)
  after_block : (tag : ℕ) (body : List ℕ) {rest rest' : List ℕ} → OtherTag a b rest rest' → OtherTag a b (block tag body ++ rest) (block tag body ++ rest')
  inside_group : {body body' : List ℕ} (rest : List ℕ) → OtherTag a b body body' → OtherTag a b (block group_tag body ++ rest) (block group_tag body' ++ rest)

-- So among lines: one of them begins with that tag, or is a condition with such bytes in it, no more than its two bytes of length can say.
pub data OtherTagLines (a b : ℕ) : List (List ℕ) → List (List ℕ) → Type 0 where
  as_frame : (left : List ℕ) (later : List (List ℕ)) → OtherTagLines a b ((a ∷ left) ∷ later) ((b ∷ left) ∷ later)
  in_condition : {body body' : List ℕ} (later : List (List ℕ)) → length body < 65_536 → OtherTag a b body body' → OtherTagLines a b (block condition_tag body ∷ later) (block condition_tag body' ∷ later)
  after_line : (line : List ℕ) {ls ls' : List (List ℕ)} → OtherTagLines a b ls ls' → OtherTagLines a b (line ∷ ls) (line ∷ ls')

-- And so a condition line of a booklet.
pub data OtherTagLine (a b : ℕ) : List ℕ → List ℕ → Type 0 where
  in_body : {body body' : List ℕ} → length body < 65_536 → OtherTag a b body body' → OtherTagLine a b (block condition_tag body) (block condition_tag body')
