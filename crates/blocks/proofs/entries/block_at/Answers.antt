-- `block_at` meets its contract: the tag says which block it is, and each kind answers for itself.
use mathlib.Core.Path.{ap, sym, ◌∙◌}
use Rattle.std.specs.Prelude.{Ok}
use Rattle.book.specs.Book.{answered}
use Rattle.blocks.specs.BlockAnswers.{tag_meant, plain_block}
use Rattle.blocks.proofs.Leaves.{tag_meaning, block_load, block_group, block_other}
use Rattle.blocks.proofs.entries.block_at.Goals as goal

pub returns-in_default : goal.returns-in_default
returns-in_default c =
    rw c.at.ensures (sym (ap (answered plain_block) (block_other _ c.args.depth c.args.left _ _ c.args.body.now (tag_meaning _ _ _ ∙ ap (tag_meant _ _) (sym c.try_from.ensures ∙ c.in_default.is)))))

pub returns-in-Entry : goal.returns-in-Entry
returns-in-Entry c =
    c.leaf.ensures ∙ sym (ap (answered plain_block) (block_load _ c.args.depth c.args.left _ _ c.args.body.now _ (tag_meaning _ _ _ ∙ ap (tag_meant _ _) (sym c.try_from.ensures ∙ c.in-Ok.is ∙ ap Ok c.in-Entry.is))))

pub returns-in-Group : goal.returns-in-Group
returns-in-Group c =
    c.group.ensures ∙ sym (ap (answered plain_block) (block_group _ c.args.depth c.args.left _ _ c.args.body.now (tag_meaning _ _ _ ∙ ap (tag_meant _ _) (sym c.try_from.ensures ∙ c.in-Ok.is ∙ ap Ok c.in-Group.is))))
