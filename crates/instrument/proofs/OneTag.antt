-- What two runs leave for two texts, and for two condition lines, that differ in one tag alone.
use mathlib.Core.Path.{◌≡◌, refl, ap, sym, ◌∙◌}
use mathlib.Core.List.{List, [], ◌∷◌}
use mathlib.Core.Logic.{◌≢◌, ◌⊎◌, ⊎_elim}
use Prim.Native.Nat.{ℕ, ◌+◌, ◌*◌, ◌≤◌, ◌<◌}
use native.Mathlib.Omega.{arith}
use lib.ListN.{length, length-set}
use lib.Seq.{get_or-set_same}
use Rattle.rules.specs.Rounding.{ceil}
use Rattle.rules.specs.Numbers.{digits}
use Rattle.rules.specs.Text.{hex, text, Lines}
use Rattle.rules.specs.Blocks.{Tank, code, timber}
use Rattle.rules.specs.Layout.{Entries, Condition, most_characters}
use Rattle.rules.specs.Outcome.{refused}
use Rattle.rules.specs.Loading.{mass, moment, free_surface}
use Rattle.rules.specs.Leaves.{sum_leaves}
use Rattle.rules.specs.Tags.{OtherTagLines}
use Rattle.rules.specs.Cargo.{MadeCargo}
use Rattle.rules.specs.Timber.{condition_by, EasedSlot}
use Rattle.rules.specs.Columns.{figure_in, verdict_in}
use Rattle.rules.specs.Booklet.{condition_at}
use Rattle.rules.specs.Apart.{AllowedWhole, AllowedLine, line_at, respelt, line_number}
use Rattle.rules.specs.Answer.{report_of}
use Rattle.rules.proofs.walk.Alike.{like_refused}
use Rattle.rules.proofs.walk.OtherTag.{TestedAlike}
use Rattle.rules.proofs.walk.Retagged.{tanks_alike}
use Rattle.rules.proofs.walk.Timber.{weathers_alike}
use Rattle.rules.proofs.booklet.Relined.{relined, condition_relined}
use Rattle.rules.proofs.booklet.OtherTag.{line_alike, refused_alike, read_other}
use Rattle.rules.proofs.booklet.Retagged.{made_cargo, in_timber}
use Rattle.rules.proofs.booklet.Alone.{others_answered}
use Rattle.instrument.specs.Reported.{report_in, number_in, HasNumber, RefusedLine, SameButLine, RefusedWhole}
use Rattle.instrument.specs.OneTag.{OtherTagIn}
use Rattle.instrument.proofs.LineReport.{Reports}
use Rattle.instrument.proofs.TwoLines.{tested_alike, never_forgiven}
use Rattle.instrument.proofs.EitherSet as sets
use Rattle.instrument.proofs.Replies.{read_back, allowed, Run, whole_sent, report_at, line_report}

-- ---- two texts
module _ {x y : ℕ} {R : Entries → Entries → Type 0} {S : Condition → Condition → Type 0} (A : TestedAlike x y R S) {ls ls' : List (List ℕ)} (m : OtherTagLines x y ls ls') (L : Lines ls) (short : length (text ls) ≤ most_characters)
    {before before' : List ℕ} {n n' : ℕ} {after after' : List ℕ} (run : Run (text ls) before n after) (run' : Run (text ls') before' n' after') where
  pub whole_alike : RefusedWhole (text ls) before n after ⊎ RefusedWhole (text ls') before' n' after' → (n ≡ n') × (report_in 0 after ≡ report_in 0 after')
  whole_alike =
      ⊎_elim
      (λ r. let s = whole_sent run' n r.line 0 ((refused_alike A m L most_characters short n r.line 0).0 r.refusal) in (sym s.0, r.reported ∙ sym s.1))
      (λ r. let s = whole_sent run n' r.line 0 ((refused_alike A m L most_characters short n' r.line 0).1 r.refusal) in (s.0, s.1 ∙ sym r.reported))

  pub one_line : (a : AllowedWhole most_characters (text ls)) → (a' : AllowedWhole most_characters (text ls')) × (k : ℕ) × OtherTagIn x y a.0 k a'.0 k × (length a.0.conditions ≡ length a'.0.conditions)
      × ((i : ℕ) → i ≢ k → i < length a.0.conditions → report_in i after ≡ report_in i after')
  one_line a =
      let b = a.0 in
      let q = read_other A m L most_characters short b (read_back a) in
      let c = length-set b.conditions q.0 q.1 in
      let e : line_at (respelt b q.0 q.1) q.0 ≡ q.1 = get_or-set_same b.conditions q.0 q.1 [] q.2 in (
        allowed (respelt b q.0 q.1) q.4,
        q.0,
        record { ships = refl; rows = refl; within = q.2; within' = omega (arith, q.2); lines = rw e q.3 },
        sym c,
        λ i d h. report_at run a i h ∙ sym (ap report_of (others_answered b q.0 q.1 i d)) ∙ sym (report_at run' (allowed (respelt b q.0 q.1) q.4) i (omega arith)),
      )

-- ---- two lines
-- The other way round, two reports are the same but for the line.
turned : {r r' : List ℕ} → SameButLine r r' → SameButLine r' r
turned s = record { front = sym s.front; behind = sym s.behind }

module _ {t t' before before' : List ℕ} {n n' : ℕ} {after after' : List ℕ} (run : Run t before n after) (run' : Run t' before' n' after')
    (a : AllowedWhole most_characters t) (a' : AllowedWhole most_characters t') (k k' : ℕ) where
  abbrev ln : ℕ
  ln = line_number a.0 k

  abbrev ln' : ℕ
  ln' = line_number a'.0 k'

  module _ {x y : ℕ} (d : OtherTagIn x y a.0 k a'.0 k') where
    here : Reports a.0.ship a.0.rows ln (line_at a.0 k) (report_in k after)
    here = line_report run a k d.within

    there : Reports a.0.ship a.0.rows ln' (line_at a'.0 k') (report_in k' after')
    there = rw (d.ships, d.rows) (line_report run' a' k' d.within')

    module _ {R : Entries → Entries → Type 0} {S : Condition → Condition → Type 0} (A : TestedAlike x y R S) where
      -- Refused in the one line, and so in the other.
      to_second : (n m o : ℕ) → condition_at ln (line_at a.0 k) ≡ refused n m o → condition_at ln' (line_at a'.0 k') ≡ refused n ln' o
      to_second n m o e = condition_relined ln' ln (line_at a'.0 k') ∙ ap (relined ln') ((like_refused (line_alike A d.lines ln) n m o).0 e)

      to_first : (n m o : ℕ) → condition_at ln' (line_at a'.0 k') ≡ refused n m o → condition_at ln (line_at a.0 k) ≡ refused n ln o
      to_first n m o e = condition_relined ln ln' (line_at a.0 k) ∙ ap (relined ln) ((like_refused (line_alike A d.lines ln') n m o).1 e)

  -- ---- C3 and C5
  module _ (d : OtherTagIn 0xC3 0xC5 a.0 k a'.0 k') where
    pub tank_refused : RefusedLine (report_in k after) ⊎ RefusedLine (report_in k' after') → SameButLine (report_in k after) (report_in k' after')
    tank_refused = ⊎_elim (tested_alike (here d) (there d) (to_second d tanks_alike) (omega arith)) (λ z. turned (tested_alike (there d) (here d) (to_first d tanks_alike) (omega arith) z))

    pub tank_read : (c : AllowedLine (line_at a.0 k)) → (t : Tank) × (c' : AllowedLine (line_at a'.0 k')) × (c.0.weather ≡ c'.0.weather) × MadeCargo t c.0.load c'.0.load
        × (t.fill < 980 → report_in k after ≡ report_in k' after')
        × (980 ≤ t.fill → HasNumber 0 (report_in k' after') → (figure_in 0 (report_in k' after') ≡ hex (digits 8 (sum_leaves mass c.0.load)))
        × (figure_in 1 (report_in k' after') ≡ hex (digits 8 (ceil (10 * (sum_leaves moment c.0.load + sum_leaves free_surface c.0.load + 1000 * t.density * t.inertia)) (sum_leaves mass c.0.load)))))
    tank_read = never_forgiven (here d) (there d) refl refl (made_cargo d.lines ln)

  -- ---- C1 and C6
  module _ (d : OtherTagIn 0xC1 0xC6 a.0 k a'.0 k') where
    pub weather_number : (number_in (report_in k after) ≡ number_in (report_in k' after')) × ((¬ HasNumber 0 (report_in k after)) → SameButLine (report_in k after) (report_in k' after'))
    weather_number = sets.same_number (here d) (there d) (to_second d weathers_alike) (in_timber d.lines ln) (omega arith)

    pub weather_read_lem : (c : AllowedLine (line_at a.0 k)) → (c.0.weather.set ≡ code) × ((c' : AllowedLine (line_at a'.0 k')) × (c'.0 ≡ condition_by timber c.0))
    weather_read_lem = sets.said_in_timber (here d) (there d) (to_second d weathers_alike) (in_timber d.lines ln)

    pub weather_figures : HasNumber 0 (report_in k after) → ((i : ℕ) → i < 11 → i ≢ 6 → figure_in i (report_in k after) ≡ figure_in i (report_in k' after')) × (verdict_in 8 (report_in k after) ≡ verdict_in 8 (report_in k' after'))
    weather_figures z = sets.either_figures (here d) (there d) (to_second d weathers_alike) (in_timber d.lines ln) z

    pub weather_eased : HasNumber 0 (report_in k after) → (i : ℕ) → EasedSlot i → verdict_in i (report_in k after) ≡ hex (1 ∷ []) → verdict_in i (report_in k' after') ≡ hex (1 ∷ [])
    weather_eased z = sets.eased_slots (here d) (there d) (to_second d weathers_alike) (in_timber d.lines ln) z
