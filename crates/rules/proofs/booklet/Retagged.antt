-- Of two condition lines that differ in one tag the second says the same, with one tank made a cargo tank, or in the timber set.
use mathlib.Core.Path.{◌≡◌, ap, ◌∙◌}
use mathlib.Core.List.{List}
use Prim.Native.Nat.{ℕ}
use Rattle.rules.specs.Blocks.{code, timber, Tank}
use Rattle.rules.specs.Layout.{Entries, Condition}
use Rattle.rules.specs.Outcome.{got}
use Rattle.rules.specs.Cargo.{MadeCargo, RetaggedLine}
use Rattle.rules.specs.Timber.{TimberLine, condition_by}
use Rattle.rules.specs.Booklet.{condition_at}
use Rattle.rules.proofs.walk.Alike.{like_got}
use Rattle.rules.proofs.walk.Retagged.{MadeIn, tanks_alike}
use Rattle.rules.proofs.walk.Timber.{weathers_alike}
use Rattle.rules.proofs.booklet.OtherTag.{line_alike}

pub made_cargo : {l l' : List ℕ} → RetaggedLine l l' → (ln : ℕ) (c : Condition) → condition_at ln l ≡ got c → (t : Tank) × (G : Entries) × MadeCargo t c.load G × (condition_at ln l' ≡ got (record { weather = c.weather; load = G }))
made_cargo m ln c e =
    let q = like_got (line_alike tanks_alike m ln) c e in
    (q.1.1.0, q.0.load, q.1.1.1, q.2 ∙ ap got (same q.0 q.1))
  where
    same : (d : Condition) → MadeIn c d → d ≡ record { weather = c.weather; load = d.load }
    same d h = rw h.0

pub in_timber : {l l' : List ℕ} → TimberLine l l' → (ln : ℕ) (c : Condition) → condition_at ln l ≡ got c → (c.weather.set ≡ code) × (condition_at ln l' ≡ got (condition_by timber c))
in_timber m ln c e =
    let q = like_got (line_alike weathers_alike m ln) c e in
    (q.1.0, q.2 ∙ ap got q.1.1)
