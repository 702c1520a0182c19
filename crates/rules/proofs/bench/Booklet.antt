-- Request 3 by computation: P1 and P10 to P13 as booklets of one, booklets of conditions in two sets, of two conditions and of 24, each refusal for the whole in its place, rooms and limits.
use mathlib.Core.Path.{◌≡◌, refl}
use mathlib.Core.List.{List, [], ◌∷◌, ◌++◌}
use Prim.Native.Nat.{ℕ, ◌*◌, ◌-◌}
use Prim.Native.String.{String}
use lib.ListN.{length, replicate}
use Rattle.rules.specs.Layout.{most_characters}
use Rattle.rules.specs.Report.{concat}
use Rattle.rules.specs.Answer.{number, bytes_sent, written, room}
use Rattle.rules.proofs.bench.Cases.{lines, refusal}
use Rattle.rules.proofs.bench.Bench.{ship, row1, row2, P1, P1-condition, P1-output}
use Rattle.rules.proofs.bench.TimberDeck.{coaster_output, coaster_timber_output}

-- ---- texts
-- P1's condition; with the length of its C2 a byte too much, and a byte too little; with a mass below the table's first row.
abbrev fine : String
fine = P1-condition

abbrev overrun : String
overrun = "A30018C1000C000009C40FA002BC01F400C8C2000700155CC00FA0"

abbrev short : String
short = "A30018C1000C000009C40FA002BC01F400C8C2000500155CC00FA0"

abbrev light : String
light = "A30018C1000C000009C40FA002BC01F400C8C2000600155CBF0FA0"

-- The coaster's condition, with other winds and angles than P1's, in the Code's set and in timber's.
abbrev plain : String
plain = "A30018C1000C000001F40FA002BC012B0001C2000600155CC00F3C"

abbrev decked : String
decked = "A30018C6000C000001F40FA002BC012B0001C2000600155CC00F3C"

-- Ship and rows of P1, with any lines behind them.
abbrev booklet : List String → List ℕ
booklet conditions = lines (ship ∷ row1 ∷ row2 ∷ conditions)

abbrev P13 : List ℕ
P13 = booklet (light ∷ [])

-- ---- cases
-- A text within a limit of characters, in a buffer of so many sevens, has a number and report lines, and the sevens beyond them stay; or it asks for so much room.
pub data BookletCase : Type 0 where
  sends : (most : ℕ) (text : List ℕ) (buffer : ℕ) (number : ℕ) (reports : List (List ℕ)) → BookletCase
  asks : (most : ℕ) (text : List ℕ) (room : ℕ) → BookletCase

abbrev pub Holds : BookletCase → Type 0
Holds (sends most t b n rs) = (number most t (replicate b 7) ≡ n) × (bytes_sent most t (replicate b 7) ≡ 209 * length rs) × (written most t (replicate b 7) ≡ concat rs ++ replicate (b - 209 * length rs) 7)
Holds (asks most t r) = room most t ≡ r

abbrev pub All : List BookletCase → Type 0
All [] = Unit {0}
All (c ∷ cs) = Holds c × All cs

-- ---- the sheet
-- P1, P10, P11, P12, an empty text, and P13.
abbrev pub sheet : List BookletCase
sheet =
    sends most_characters P1 211 0 (P1-output ∷ [])
    ∷ sends most_characters (booklet (overrun ∷ [])) 209 2 (refusal "D100650200040012" ∷ [])
    ∷ sends most_characters (booklet (short ∷ [])) 209 3 (refusal "D100650300040012" ∷ [])
    ∷ sends most_characters [] 209 5 (refusal "D100650500000000" ∷ [])
    ∷ sends most_characters P13 209 7 (refusal "D100650700000000" ∷ [])
    ∷ []

pub sheet_holds : All sheet
unfolding number bytes_sent written
sheet_holds = ((refl, refl, refl), ((refl, refl, refl), ((refl, refl, refl), ((refl, refl, refl), ((refl, refl, refl), tt)))))

-- ---- two weathers
-- Each condition is judged with its own wind and by its own set: the Code's, timber's, and the Code's again.
abbrev pub weathers : List BookletCase
weathers = sends most_characters (booklet (fine ∷ decked ∷ plain ∷ [])) 627 0 (P1-output ∷ coaster_timber_output ∷ coaster_output ∷ []) ∷ []

pub weathers_hold : All weathers
unfolding number bytes_sent written
weathers_hold = ((refl, refl, refl), tt)

-- ---- each condition for itself
abbrev pub apart : List BookletCase
apart =
    sends most_characters (booklet (overrun ∷ fine ∷ [])) 420 2 (refusal "D100650200040012" ∷ P1-output ∷ [])
    ∷ sends most_characters (booklet (fine ∷ light ∷ overrun ∷ [])) 627 7 (P1-output ∷ refusal "D100650700000000" ∷ refusal "D100650200060012" ∷ [])
    ∷ sends most_characters (booklet ("A3" ∷ light ∷ [])) 418 2 (refusal "D100650200040000" ∷ refusal "D100650700000000" ∷ [])
    ∷ []

pub apart_hold : All apart
unfolding number bytes_sent written
apart_hold = ((refl, refl, refl), ((refl, refl, refl), ((refl, refl, refl), tt)))

-- ---- for the whole text
-- An A3 before the second row, a line behind an A3, each with 4 and with 2, and before a fault inside a condition; a 25th condition line, also behind a misplaced one; no A3; no line.
abbrev pub wholes : List BookletCase
wholes =
    sends most_characters (lines (ship ∷ row1 ∷ fine ∷ row2 ∷ fine ∷ [])) 418 4 (refusal "D100650400030000" ∷ [])
    ∷ sends most_characters (lines (ship ∷ row1 ∷ "A3" ∷ row2 ∷ fine ∷ [])) 418 2 (refusal "D100650200030000" ∷ [])
    ∷ sends most_characters (booklet (overrun ∷ row2 ∷ fine ∷ [])) 418 4 (refusal "D100650400050000" ∷ [])
    ∷ sends most_characters (booklet (overrun ∷ fine ∷ "A2" ∷ [])) 418 2 (refusal "D100650200060000" ∷ [])
    ∷ sends most_characters (booklet (replicate 25 "A3")) 209 5 (refusal "D1006505001C0000" ∷ [])
    ∷ sends most_characters (lines (replicate 25 "A3")) 209 5 (refusal "D100650500190000" ∷ [])
    ∷ sends most_characters (booklet []) 209 5 (refusal "D100650500030000" ∷ [])
    ∷ sends most_characters (booklet (overrun ∷ "A" ∷ [])) 209 1 (refusal "D100650100050000" ∷ [])
    ∷ []

pub wholes_hold : All wholes
unfolding number bytes_sent written
wholes_hold =
    ((refl, refl, refl), ((refl, refl, refl), ((refl, refl, refl), ((refl, refl, refl), ((refl, refl, refl), ((refl, refl, refl), ((refl, refl, refl), ((refl, refl, refl), tt))))))))

-- ---- rooms and limits
-- 24 condition lines are 24 reports; with a byte less than 209 for each nothing is written, nor with less than 209; a misplaced line does not lessen the room; 1 goes before the second 9; a limit met and missed by one.
abbrev pub rooms : List BookletCase
rooms =
    asks most_characters P1 209
    ∷ asks most_characters (booklet (replicate 24 "A3")) 5_016
    ∷ asks most_characters (booklet (replicate 25 "A3")) 209
    ∷ asks most_characters (booklet (fine ∷ row2 ∷ fine ∷ [])) 418
    ∷ asks most_characters [] 209
    ∷ sends most_characters (booklet (replicate 24 "A3")) 5_015 9 []
    ∷ sends most_characters (booklet (fine ∷ row2 ∷ fine ∷ [])) 417 9 []
    ∷ sends most_characters P1 208 9 []
    ∷ sends most_characters (lines ("A" ∷ [])) 208 9 []
    ∷ sends most_characters (lines (fine ∷ fine ∷ "A" ∷ [])) 209 1 (refusal "D100650100030000" ∷ [])
    ∷ sends (length P13 - 1) P13 209 1 (refusal "D100650100000000" ∷ [])
    ∷ sends (length P13) P13 209 7 (refusal "D100650700000000" ∷ [])
    ∷ []

pub rooms_hold : All rooms
unfolding number bytes_sent written room
rooms_hold =
    (refl, (refl, (refl, (refl, (refl, ((refl, refl, refl), ((refl, refl, refl), ((refl, refl, refl), ((refl, refl, refl), ((refl, refl, refl), ((refl, refl, refl), ((refl, refl, refl), tt))))))))))))
