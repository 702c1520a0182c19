-- A set of criteria by its name, and the weather with it: there and back is the same.
use mathlib.Core.Path.{◌≡◌, refl}
use Rattle.rules.specs.Blocks as rules
use Rattle.book.specs.Book.{set_of, plain_set, weather_of, plain_weather}
use Rattle.book.specs.declared.Set.{Set}
use Rattle.book.specs.declared.Set.TheVariants.{Code, Timber}
use Rattle.book.specs.declared.Weather.{Weather}

pub set_plain : (s : rules.Set) → set_of (plain_set s) ≡ s
set_plain rules.code = refl
set_plain rules.timber = refl

pub plain_set_lem : (s : Set) → plain_set (set_of s) ≡ s
plain_set_lem Code = refl
plain_set_lem Timber = refl

pub weather_plain : (w : rules.Weather) → weather_of (plain_weather w) ≡ w
weather_plain w = rw (set_plain w.set)

pub plain_weather_lem : (w : Weather) → plain_weather (weather_of w) ≡ w
plain_weather_lem w = rw (plain_set_lem w.set)
