-- A text whose curve lies below -lw2 at small angles, and its reading.
use Rattle.std.specs.Prelude.{List, [], ◌∷◌, ℕ}
use Rattle.rules.specs.Blocks.{Row, code, item}
use Rattle.rules.specs.Layout.{Reading, end, leaf}
use Rattle.rules.proofs.bench.Cases.{lines}

abbrev pub text : List ℕ
text = lines (
    "A1000D0001D4C0000075300000000000"
    ∷ "A2002201C9C3802EE043F80000047B0A51113116941BC220AF254F29A02DA13141347E3751"
    ∷ "A2002202625A002EE043F80000047B0A51113116941BC220AF254F29A02DA13141347E3751"
    ∷ "A30018C1000C000148202328025801C2012CC2000601C9C3803E80"
    ∷ [])

abbrev row_of : ℕ → Row
row_of w = record { mass = w; draught = 12_000; km = 17_400; kn = 0 ∷ 1_147 ∷ 2_641 ∷ 4_401 ∷ 5_780 ∷ 7_106 ∷ 8_367 ∷ 9_551 ∷ 10_656 ∷ 11_681 ∷ 12_609 ∷ 13_438 ∷ 14_161 ∷ [] }

abbrev pub reading : Reading
reading = record {
  ship = record { hull_length = 120_000; breadth = 30_000; keel_area = 0; bilge = 0 };
  rows = row_of 30_000_000 ∷ row_of 40_000_000 ∷ [];
  condition = record {
    weather = record { set = code; sky = record { wind_area = 84_000; z = 9_000; cb = 600; flooding = 450; deck_edge = 300 } };
    load = leaf item (record { mass = 30_000_000; centre = 16_000 }) end;
  };
}
