-- A row that is put at the end of a table: behind it the places stay blank.
use Rattle.std.specs.Prelude.{List, [], ◌∷◌, ◌++◌, ℕ, suc, ◌+◌, ◌-◌, ◌<◌, length, take, replicate}
use mathlib.Core.Path.{◌≡◌, ap, sym, ◌∙◌}
use mathlib.Core.List.{append_assoc}
use native.Mathlib.Omega.{arith}
use lib.ListN.{set, length-append}
use lib.Seq.{set_at, length-take-le}
use Rattle.std.proofs.lemmas.List.{take_more_set}
use Rattle.rules.specs.Layout.{most_rows}
use Rattle.book.specs.Tables.{blank_row, filled}
use Rattle.book.specs.declared.Row.{Row}

pub filled_more : (rows : List Row) (n : ℕ) (r : Row) → n < length rows → n < most_rows → filled (take n rows) ≡ rows → filled (take (n + 1) (set rows n r)) ≡ set rows n r
filled_more rows n r inside few blank =
    let p = take n rows in
    let long : length p ≡ n = length-take-le n rows (omega (arith, inside)) in
    let rest = replicate (most_rows - (n + 1)) blank_row in
    let left : most_rows - length p ≡ suc (most_rows - (n + 1)) = omega (arith, long, few) in
    let now : set rows n r ≡ p ++ (r ∷ rest) = ap (λ l. set l n r) (sym blank ∙ ap (λ m. p ++ replicate m blank_row) left) ∙ set_at p blank_row rest r n long in
    let more : length (p ++ (r ∷ [])) ≡ n + 1 = length-append p (r ∷ []) ∙ ap (λ m. m + 1) long in
    ap filled (take_more_set rows n r inside) ∙ ap (λ m. (p ++ (r ∷ [])) ++ replicate (most_rows - m) blank_row) more ∙ append_assoc p (r ∷ []) rest ∙ sym now
