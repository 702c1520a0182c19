-- `read_weather` meets its contract: each value at its place.
use Rattle.book.specs.Book.{set_of}
use Rattle.blocks.proofs.Values.{weather_values}
use Rattle.blocks.proofs.weather.read_weather.Goals as goal

pub returns : goal.returns
returns c = rw (c.number_at.ensures.value, c.number_at-2.ensures.value, c.number_at-3.ensures.value, c.number_at-4.ensures.value, c.number_at-5.ensures.value, weather_values c.args.body.now (set_of c.args.set))
