-- Each verdict's byte is its number.
use Rattle.std.proofs.Common.{◌≡◌, ℕ, ◌<◌, List, map, length, get_or, sym, ◌∙◌, arith, rules}
use Rattle.std.proofs.lemmas.Grind.{common_steps, same_number_lists}
use Rattle.std.proofs.lemmas.List.{get_or-map, length-map}
use Rattle.book.specs.Book.{verdict_value}
use Rattle.book.specs.declared.Verdict.{Verdict}
use Rattle.book.specs.declared.Verdict.TheVariants.{Fail}
use Rattle.report.proofs.binary.put_verdicts.Goals as goal

numbered : (v : List Verdict) (bytes : List ℕ) → length v ≡ 8 → length bytes ≡ 8 → ((i : ℕ) → i < 8 → get_or bytes i 0 ≡ verdict_value (get_or v i Fail)) → bytes ≡ map verdict_value v
numbered v bytes e f h =
    same_number_lists bytes (map verdict_value v) (rw (length-map, e, f)) (λ i lt. h i (omega arith) ∙ sym (get_or-map verdict_value v i Fail 0 (omega arith)))

pub returns : goal.returns
returns c =
    let v = c.args.verdicts in
    let long : length v ≡ 8 = search rules in
    let same = numbered v c.map-bytes.result long c.map-bytes.ensures.items.long (λ i lt. let q = c.map-bytes.ensures.items.at i Fail 0 lt in search rules) in
    grind (arith, common_steps, same, c.copy_from_slice.ensures.after)
