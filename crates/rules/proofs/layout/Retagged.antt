-- A load, and a reading, with one C3 made a C5 is spelled by bytes that differ in that tag alone; a reading in the timber set by bytes that differ in the weather's.
use mathlib.Core.Path.{◌≡◌, refl}
use mathlib.Core.List.{List, [], ◌∷◌, ◌++◌}
use Prim.Native.Nat.{◌<◌}
use native.Mathlib.Omega.{arith}
use lib.ListN.{length}
use Rattle.rules.specs.Numbers.{digits}
use Rattle.rules.specs.Blocks.{spell_values, spell_block, block, ship, Row, row, Set, code, timber, Sky, Weather, weather, Tank, entry, group_tag}
use Rattle.rules.specs.Layout.{Entries, Condition, spell, spell_condition, row_frames, Reading, frames}
use Rattle.rules.specs.Leaves.{loaded_with}
use Rattle.rules.specs.Tags.{OtherTag, tag_here, after_block, inside_group, in_condition, after_line}
use Rattle.rules.specs.Cargo.{MadeCargo, here, after_entry, after_group, in_group, RetaggedLines}
use Rattle.rules.specs.Timber.{TimberLines, condition_by, reading_by}
use Rattle.rules.proofs.walk.Conditions.{weather_body}

pub spell_retagged : {t : Tank} {F G : Entries} → MadeCargo t F G → OtherTag 0xC3 0xC5 (spell F) (spell G)
unfolding spell spell_block block
spell_retagged (here r) = tag_here _
spell_retagged (after_entry k v m) = after_block (entry k).tag (spell_values (entry k).fields ((entry k).listed v)) (spell_retagged m)
spell_retagged (after_group g m) = after_block group_tag (spell g) (spell_retagged m)
spell_retagged (in_group r m) = inside_group (spell r) (spell_retagged m)

rows_retagged : {t : Tank} (vs : List Row) (w : Weather) {F G : Entries} → length (spell_condition (record { weather = w; load = F })) < 65_536 → MadeCargo t F G → RetaggedLines (row_frames vs (record { weather = w; load = F })) (row_frames vs (record { weather = w; load = G }))
unfolding row_frames spell_condition spell_block
rows_retagged [] w s m = in_condition [] s (after_block (weather w.set).tag (weather_body w) (spell_retagged m))
rows_retagged (v ∷ vs) w s m = after_line (spell_block row v) (rows_retagged vs w s m)

pub frames_retagged : {t : Tank} (r : Reading) (G : Entries) → length (spell_condition r.condition) < 65_536 → MadeCargo t r.condition.load G → RetaggedLines (frames r) (frames (loaded_with r G))
unfolding frames
frames_retagged r G s m = after_line (spell_block ship r.ship) (rows_retagged r.rows r.condition.weather s m)

-- ---- the weather
rows_timber : (vs : List Row) (s : Sky) (F : Entries) → length (spell_condition (record { weather = record { set = code; sky = s }; load = F })) < 65_536 → TimberLines (row_frames vs (record { weather = record { set = code; sky = s }; load = F })) (row_frames vs (record { weather = record { set = timber; sky = s }; load = F }))
unfolding row_frames spell_condition spell_block block
rows_timber [] s F short = let body = weather_body (record { set = code; sky = s }) in in_condition [] short (tag_here ((digits 2 (length body) ++ body) ++ spell F))
rows_timber (v ∷ vs) s F short = after_line (spell_block row v) (rows_timber vs s F short)

as_long : (s : Set) (c : Condition) → length (spell_condition (condition_by s c)) ≡ length (spell_condition c)
unfolding spell_condition spell_block block spell_values
as_long s c = refl

pub frames_timber : (r : Reading) → length (spell_condition r.condition) < 65_536 → TimberLines (frames (reading_by code r)) (frames (reading_by timber r))
unfolding frames
frames_timber r short = after_line (spell_block ship r.ship) (rows_timber r.rows r.condition.weather.sky r.condition.load (omega (arith, as_long code r.condition)))
