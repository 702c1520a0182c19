-- What a reader over a part is: how the contracts of the functions over readers name its bytes and its place.
use Rattle.std.specs.Prelude.{◌≡◌, ℕ, ◌+◌}
use Rattle.rules.specs.Parts.{part}
use Rattle.cursor.specs.declared.Reader.{Reader}

-- The place in memory that lies n bytes further on, in the same frame.
abbrev pub further : ℕ × ℕ → ℕ → ℕ × ℕ
further p n = (p.0, n + p.1)

-- The reader q over the bytes from a up to e of the reader r: its bytes, and where they lie, in memory and in the line.
pub record OverPart (r : Reader) (a e : ℕ) (q : Reader) : Type 0 where
  pub bytes : q.src.now ≡ part a e r.src.now
  pub memory : q.src.ref_ptr ≡ further r.src.ref_ptr a
  pub place : q.place ≡ record { line = r.place.line; offset = r.place.offset + a }
