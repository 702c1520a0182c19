-- `head_at` meets its contract: the head, or 2 at the place.
use mathlib.Core.Path.{ap, sym}
use Rattle.book.specs.Book.{answered}
use Rattle.blocks.specs.BlockAnswers.{plain_head}
use Rattle.blocks.proofs.Heads.{head_short, head_block}
use Rattle.cursor.proofs.Heads.{block_head}
use Rattle.cursor.proofs.head_at.Goals as goal

pub returns-in_default : goal.returns-in_default
returns-in_default c = rw c.at.ensures (sym (ap (answered plain_head) (head_short _ _ c.header.ensures c.in_default.is _ _)))

pub returns : goal.returns
returns c = let h = head_block _ _ c.header.ensures _ c.in-Some.is in block_head _ _ _ c.in-Some.head h.0 (h.1 _ _)
