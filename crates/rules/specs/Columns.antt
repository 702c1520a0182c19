-- Where a verdict and a figure stand among a report's characters: behind tag and length, 'refusal 1, line 2, offset 2, eight verdicts of 1 byte', the 'eleven figures' of 8, two characters to a byte.
use Rattle.std.specs.Prelude.{List, ℕ, ◌+◌, ◌-◌, ◌*◌, take, drop, get_or}
use Rattle.rules.specs.Report.{Verdict, void, Judgement}

-- The n characters from a place on.
abbrev pub characters : ℕ → ℕ → List ℕ → List ℕ
characters at n s = take n (drop at s)

-- Figure i, counted from 0. Before the first are 32 characters.
abbrev pub figure_in : ℕ → List ℕ → List ℕ
figure_in i s = characters (32 + 16 * i) 16 s

-- What slot k of a judgement reads, 1 to 8, and where it stands. Before the first are 16 characters.
abbrev pub slot_of : ℕ → Judgement → Verdict
slot_of k j = get_or j.verdicts (k - 1) void

abbrev pub verdict_in : ℕ → List ℕ → List ℕ
verdict_in k s = characters (14 + 2 * k) 2 s
