-- The reports of two condition lines: the same but for the line number where both are refused alike, and the very same where both are read with the same sums.
use mathlib.Core.Path.{◌≡◌, refl, ap, ap₂, sym, ◌∙◌}
use mathlib.Core.List.{List}
use Prim.Native.Nat.{ℕ, ◌+◌, ◌*◌, ◌≤◌, ◌<◌}
use native.Mathlib.Omega.{arith}
use lib.ListN.{take, drop}
use borrow.Author.Tests.{ne_eqb}
use Rattle.rules.specs.Rounding.{ceil}
use Rattle.rules.specs.Numbers.{digits}
use Rattle.rules.specs.Text.{hex}
use Rattle.rules.specs.Blocks.{Ship, Row, Tank}
use Rattle.rules.specs.Layout.{Entries, Condition}
use Rattle.rules.specs.Outcome.{Ans, refused, got}
use Rattle.rules.specs.Loading.{mass, moment, free_surface, nominally_full}
use Rattle.rules.specs.Leaves.{sum_leaves, SameSums}
use Rattle.rules.specs.Cargo.{MadeCargo}
use Rattle.rules.specs.Report.{Judgement}
use Rattle.rules.specs.Columns.{figure_in}
use Rattle.rules.specs.Places.{SameBefore, looked_at}
use Rattle.rules.specs.Booklet.{condition_at}
use Rattle.rules.specs.Apart.{AllowedLine}
use Rattle.rules.specs.Answer.{report_of, in_line}
use Rattle.rules.proofs.loading.Sums.{judged_by_sums}
use Rattle.rules.proofs.loading.Cargo.{sums_below, sums_full}
use Rattle.rules.proofs.booklet.LineOnly.{in_line_only}
use Rattle.rules.proofs.booklet.Conditions.{condition_sound, answer_refused}
use Rattle.rules.proofs.booklet.Relined.{refused_there}
use Rattle.rules.proofs.booklet.FirstFault.{condition_fault_lem}
use Rattle.instrument.specs.Reported.{number_in, HasNumber, RefusedLine, SameButLine}
use Rattle.instrument.proofs.LineReport.{Reports, line_got, by_line, of_reading, has_refused, refused_iff}
use Rattle.instrument.proofs.LineFigures.{figures_of_leaves}

-- ---- but for the line
pub but_line : (ln : ℕ) (a : Ans Judgement) → SameButLine (report_of (in_line ln a)) (report_of a)
but_line ln a = let x = in_line_only ln a in record { front = x.0; behind = x.1 }

-- One refusal at two lines.
refusal_but_line : (n o ln ln' : ℕ) → 1 ≤ ln → SameButLine (report_of (refused n ln o)) (report_of (refused n ln' o))
refusal_but_line n o ln ln' h =
    let x = in_line_only ln' (refused n ln o) in
    let e : in_line {A = Judgement} ln' (refused n ln o) ≡ refused n ln' o = rw (ne_eqb ln 0 (λ z. omega arith)) in
    record { front = sym x.0 ∙ ap (λ a. take 8 (report_of a)) e; behind = sym x.1 ∙ ap (λ a. drop 12 (report_of a)) e }

module _ {s s' : Ship} {vs vs' : List Row} {ln ln' : ℕ} {l l' r r' : List ℕ} (q : Reports s vs ln l r) (q' : Reports s' vs' ln' l' r') where
  -- ---- refused alike
  module _ (n o : ℕ) (e : condition_at ln l ≡ refused n ln o) (e' : condition_at ln' l' ≡ refused n ln' o) where
    pub alike_number : number_in r ≡ number_in r'
    alike_number = (has_refused q (answer_refused s vs ln l e)).0 ∙ sym (has_refused q' (answer_refused s' vs' ln' l' e')).0

    pub alike_but_line : 1 ≤ ln → SameButLine r r'
    alike_but_line h = rw (q.reported ∙ ap report_of (answer_refused s vs ln l e), q'.reported ∙ ap report_of (answer_refused s' vs' ln' l' e')) (refusal_but_line n o ln ln' h)

  pub tested_alike : ((n m o : ℕ) → condition_at ln l ≡ refused n m o → condition_at ln' l' ≡ refused n ln' o) → 1 ≤ ln → RefusedLine r → SameButLine r r'
  tested_alike f h x = by_line q (λ n o _ _ e. alike_but_line n o e (f n ln o e) h) (λ c. absurd ((refused_iff q).0.0 x c))

  -- What is refused up to 6 depends on nothing behind the block that is named.
  pub fault_alike : (n o : ℕ) → condition_at ln l ≡ refused n ln o → SameBefore (looked_at l n o) l l' → 1 ≤ ln → SameButLine r r'
  fault_alike n o e same h = alike_but_line n o e (refused_there ln ln' l' (condition_fault_lem n ln o l l' same ln q.tag e)) h

  -- ---- read with the same sums
  pub by_sums : (c : AllowedLine l) (c' : AllowedLine l') → SameSums (record { ship = s; rows = vs; condition = c.0 }) (record { ship = s'; rows = vs'; condition = c'.0 }) → r ≡ r'
  by_sums c c' same = of_reading q c.0 (line_got ln c) ∙ ap report_of (judged_by_sums _ _ same) ∙ sym (of_reading q' c'.0 (line_got ln' c'))

  -- ---- a tank made a cargo tank
  module _ (ships : s ≡ s') (rows : vs ≡ vs') (made : (c : Condition) → condition_at ln l ≡ got c → (t : Tank) × (G : Entries) × MadeCargo t c.load G × (condition_at ln l' ≡ got (record { weather = c.weather; load = G }))) where
    -- From 98 % on the figures are those of the first's sums with the whole moment besides.
    full_figures : (t : Tank) (F G : Entries) → MadeCargo t F G → nominally_full ≤ t.fill → HasNumber 0 r' → (c' : AllowedLine l') → c'.0.load ≡ G
        → (figure_in 0 r' ≡ hex (digits 8 (sum_leaves mass F)))
        × (figure_in 1 r' ≡ hex (digits 8 (ceil (10 * (sum_leaves moment F + sum_leaves free_surface F + 1000 * t.density * t.inertia)) (sum_leaves mass F))))
    full_figures t F G m full z c' e =
        let f = figures_of_leaves q' z c' in
        let x = sums_full m full in
        let x0 : sum_leaves mass c'.0.load ≡ sum_leaves mass F = ap (sum_leaves mass) e ∙ x.0 in
        let x1 : sum_leaves moment c'.0.load + sum_leaves free_surface c'.0.load ≡ sum_leaves moment F + sum_leaves free_surface F + 1000 * t.density * t.inertia = ap (λ H. sum_leaves moment H + sum_leaves free_surface H) e ∙ x.1 in
        (f.0 ∙ ap (λ (m : ℕ). hex (digits 8 m)) x0, f.1 ∙ ap₂ (λ (m w : ℕ). hex (digits 8 (ceil (10 * m) w))) x1 x0)

    pub never_forgiven : (c : AllowedLine l) → (t : Tank) × (c' : AllowedLine l') × (c.0.weather ≡ c'.0.weather) × MadeCargo t c.0.load c'.0.load
        × (t.fill < 980 → r ≡ r')
        × (980 ≤ t.fill → HasNumber 0 r' → (figure_in 0 r' ≡ hex (digits 8 (sum_leaves mass c.0.load)))
        × (figure_in 1 r' ≡ hex (digits 8 (ceil (10 * (sum_leaves moment c.0.load + sum_leaves free_surface c.0.load + 1000 * t.density * t.inertia)) (sum_leaves mass c.0.load)))))
    never_forgiven c =
        let m = made c.0 (line_got ln c) in
        let x = condition_sound ln l' _ q'.tag q'.bytes m.3 in
        let c' : AllowedLine l' = (record { weather = c.0.weather; load = m.1 }, x.0, x.1) in (
          m.0,
          c',
          refl,
          m.2,
          λ slack. let y = sums_below m.2 slack in by_sums c c' (record { ship = ships; rows = rows; weather = refl; masses = y.0; moments = y.1 }),
          λ full z. full_figures m.0 c.0.load m.1 m.2 full z c' refl,
        )
