-- What the code answers at a block, from what the rules answer: the values as plain data.
use Rattle.std.specs.Prelude.{◌≡◌, true, cond, ℕ, ◌*◌, eqb, length, Option, Some, None, Result, Ok, Err}
use Rattle.rules.specs.Blocks as rules
use Rattle.rules.specs.Loading.{mass_of, centre_of, free_surface_of}
use Rattle.rules.specs.Outcome.{Ans, refused, got}
use Rattle.rules.specs.Walk as walk
use Rattle.book.specs.declared.Sums.{Sums}
use Rattle.book.specs.declared.Fault.{Fault}
use Rattle.book.specs.declared.Fault.TheVariants.{NotAllowed, OutsideLimits}
use Rattle.blocks.specs.declared.Head.{Head}
use Rattle.blocks.specs.declared.entries.TankKind.{TankKind}
use Rattle.blocks.specs.declared.entries.TankKind.TheVariants as tankKind
use Rattle.blocks.specs.declared.entries.Kind.{Kind}
use Rattle.blocks.specs.declared.entries.Kind.TheVariants as kind
use Rattle.blocks.specs.declared.entries.Tag.{Tag}
use Rattle.blocks.specs.declared.entries.Tag.TheVariants as tag
use Rattle.blocks.specs.declared.entries.Contents.{Contents}
use Rattle.blocks.specs.declared.entries.Load.{Load}
use Rattle.blocks.specs.declared.entries.Block.{Block}
use Rattle.blocks.specs.declared.entries.Block.TheVariants as block

-- ---- how a block begins
abbrev pub plain_head : walk.Head → Head
plain_head h = record { tag = h.tag; len = length h.body }

abbrev pub begun_of : Ans walk.Head → Option Head
begun_of (refused n l o) = None
begun_of (got h) = Some (plain_head h)

-- ---- a block of fixed size: its values as plain data, where they are within their limits
abbrev pub within_limits : {A B : Type 0} → rules.Layout A → (A → B) → A → Result B Fault
within_limits L f v = cond (rules.ok L v) (Ok (f v)) (Err OutsideLimits)

-- ---- the entries
abbrev pub tank_kind_of : TankKind → rules.TankKind
tank_kind_of tankKind.Ordinary = rules.ordinary
tank_kind_of tankKind.Cargo = rules.cargo

abbrev pub plain_kind : rules.TankKind → TankKind
plain_kind rules.ordinary = tankKind.Ordinary
plain_kind rules.cargo = tankKind.Cargo

abbrev pub load_of : Kind → rules.Load
load_of kind.Item = rules.item
load_of (kind.Tank k) = rules.tank (tank_kind_of k)

-- What a tag stands for among the entries; 4 for any but these four.
abbrev pub tag_told : ℕ → Result Tag Fault
tag_told t = cond (eqb t 0xC2) (Ok (tag.Entry kind.Item)) (cond (eqb t 0xC3) (Ok (tag.Entry (kind.Tank tankKind.Ordinary))) (cond (eqb t 0xC5) (Ok (tag.Entry (kind.Tank tankKind.Cargo))) (cond (eqb t 0xC4) (Ok tag.Group) (Err NotAllowed))))

-- It as the rules say it.
abbrev pub tag_meant : ℕ → ℕ → Result Tag Fault → Ans walk.Tag
tag_meant line at (Ok (tag.Entry k)) = got (walk.load (load_of k))
tag_meant line at (Ok tag.Group) = got walk.nested
tag_meant line at (Err f) = refused 4 line at

-- The values of an entry as plain data.
abbrev pub plain_contents : rules.TankKind → rules.Tank → Contents
plain_contents k t = record { kind = plain_kind k; fill = t.fill; density = t.density; inertia = t.inertia }

abbrev pub plain_load : (k : rules.Load) → rules.Values k → Load
plain_load rules.item i = record { mass = i.mass; centre = i.centre; contents = None }
plain_load (rules.tank k) t = record { mass = t.mass; centre = t.centre; contents = Some (plain_contents k t) }

-- They are those of a kind of entry, within its limits.
pub record Within (l : Load) : Type 0 where
  pub kind : rules.Load
  pub values : rules.Values kind
  pub is : l ≡ plain_load kind values
  pub ok : rules.ok (rules.entry kind) values ≡ true

-- What one entry adds to the sums.
abbrev pub sums_of_one : (k : rules.Load) → rules.Values k → Sums
sums_of_one k v = record { count = 1; mass = mass_of k v; moment = mass_of k v * centre_of k v; free = free_surface_of k v }

-- A block among the entries as plain data.
abbrev pub plain_block : walk.Block → Block
plain_block (walk.one k v) = block.Entry (sums_of_one k v)
plain_block walk.nest = block.Group
