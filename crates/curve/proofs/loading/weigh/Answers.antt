-- `curve::loading::weigh` meets its contract, one way out at a time. Assumes nothing.
use mathlib.Core.Path.{◌≡◌, sym, ◌∙◌, ap}
use mathlib.Core.Bool.{true}
use native.Mathlib.Omega.{arith}
use Rattle.rules.specs.Loading.{in_table}
use Rattle.book.specs.Book.{rows_of}
use Rattle.std.specs.Prelude.{Ok}
use Rattle.curve.proofs.Rows.{afloat}
use Rattle.curve.proofs.Weighing.{out_of_table, too_high, fine}
use Rattle.curve.proofs.loading.weigh.Goals as goal

pub returns-then-not-in_table : goal.returns-then-not-in_table
returns-then-not-in_table c =
    sym (out_of_table _ c.args.sums (sym c.in_table.ensures ∙ c.if-not-in_table.true))

pub corrected_kg-kg-requires : goal.corrected_kg-kg-requires
corrected_kg-kg-requires c =
    let at_within : in_table (rows_of c.args.rows.now) c.args.sums.mass ≡ true =
    sym c.in_table.ensures ∙ c.if-not-in_table.false in
    (afloat c.args.rows.now c.args.sums.mass c.requires.whole at_within, c.requires.machine)

pub returns-then-kg-gt-GREATEST_KG : goal.returns-then-kg-gt-GREATEST_KG
returns-then-kg-gt-GREATEST_KG c =
    let at_within : in_table (rows_of c.args.rows.now) c.args.sums.mass ≡ true =
    sym c.in_table.ensures ∙ c.if-not-in_table.false in
    sym (too_high _ c.args.sums at_within (omega (arith, c.corrected_kg-kg.ensures)))

pub returns : goal.returns
returns c =
    let at_within : in_table (rows_of c.args.rows.now) c.args.sums.mass ≡ true =
    sym c.in_table.ensures ∙ c.if-not-in_table.false in
    let s = c.args.sums in
    ap (λ k. Ok (record { w = s.mass; kg = k })) c.corrected_kg-kg.ensures ∙ sym (fine _ s at_within (omega (arith, c.corrected_kg-kg.ensures)))
