-- `weather_at` meets its contract: tag, length, limits: 4, 3, 6; over any set.
use mathlib.Core.Path.{ap, sym, ◌∙◌}
use Rattle.std.specs.Prelude.{Ok}
use Rattle.rules.specs.Blocks.{size, ok_weather}
use Rattle.rules.proofs.walk.FrameExits.{weather_tag_lem, weather_length, weather_outside, weather_within}
use Rattle.book.specs.Book.{answered, set_of, plain_weather}
use Rattle.book.proofs.Sets.{plain_weather_lem}
use Rattle.blocks.proofs.Leaves.{set_known_told, set_other_told}
use Rattle.blocks.proofs.weather.weather_at.Goals as goal

pub returns-in_default : goal.returns-in_default
returns-in_default c = rw c.at.ensures (sym (ap (answered plain_weather) (weather_tag_lem _ _ _ (set_other_told _ _ _ c.try_from.ensures _ c.in_default.is))))

pub returns-then-body-ne12 : goal.returns-then-body-ne12
unfolding size
returns-then-body-ne12 c =
    rw c.at-then-body-ne12.ensures (sym (ap (answered plain_weather) (weather_length _ _ _ (set_of c.in-Ok.set) (set_known_told _ _ _ c.try_from.ensures _ c.in-Ok.is) c.if-body-ne12.true)))

pub returns-then-not-weather_fits : goal.returns-then-not-weather_fits
unfolding size
returns-then-not-weather_fits c =
    let e = c.read_weather-weather.ensures in
    rw c.at-then-not-weather_fits.ensures
    (sym (ap (answered plain_weather) (weather_outside _ _ _ (set_of c.in-Ok.set) (set_known_told _ _ _ c.try_from.ensures _ c.in-Ok.is) c.if-body-ne12.false (ap ok_weather (sym e) ∙ sym c.weather_fits.ensures ∙ c.if-not-weather_fits.true))))

pub returns : goal.returns
unfolding size
returns c =
    let e = c.read_weather-weather.ensures in
    ap Ok (sym (plain_weather_lem _)) ∙ ap (λ v. Ok (plain_weather v)) e
    ∙ sym (ap (answered plain_weather) (weather_within _ _ _ (set_of c.in-Ok.set) (set_known_told _ _ _ c.try_from.ensures _ c.in-Ok.is) c.if-body-ne12.false (ap ok_weather (sym e) ∙ sym c.weather_fits.ensures ∙ c.if-not-weather_fits.false)))
