-- The condition is sound and complete: the body of A3 gives a condition exactly where it spells one within the limits.
use mathlib.Core.Path.{◌≡◌, refl, ap, ap₂, sym, ◌∙◌}
use mathlib.Core.Bool.{Bool, true, false}
use mathlib.Core.List.{List, [], ◌∷◌, ◌++◌}
use Prim.Native.Nat.{ℕ, ◌+◌, ◌≤◌}
use native.Mathlib.Omega.{arith}
use lib.ListN.{length}
use lib.Dec.{eqb}
use borrow.Author.Tests.{eqb-true}
use Rattle.rules.specs.Numbers.{Bytes, full}
use Rattle.rules.specs.Blocks.{block, spell_values, spell_block, Set, code, timber, weather, Weather, ok_weather, spell_weather}
use Rattle.rules.specs.Layout.{Condition, spell, spell_condition, most_depth, most_entries, most_bytes, ConditionLimits}
use Rattle.rules.specs.Outcome.{got}
use Rattle.rules.specs.Walk.{sets, among, chosen, weather_at, load_at, inside}
use Rattle.rules.proofs.layout.Numbers.{Bytes-append}
use Rattle.rules.proofs.walk.Outcome.{refused_got, bind_inv, test_inv, bind_got, test_got}
use Rattle.rules.proofs.layout.Fields.{weather_lawful}
use Rattle.rules.proofs.walk.Heads.{length_block, full_block, Bytes-fixed, header_sound, header_got, fixed_sound, fixed_got}
use Rattle.rules.proofs.walk.Entries.{full_spell, Bytes-entries, entries_sound, entries_got}

-- The body of the weather block.
abbrev pub weather_body : Weather → List ℕ
weather_body w = spell_values (weather w.set).fields ((weather w.set).listed w.sky)

pub length_condition : (c : Condition) → length (spell_condition c) ≡ 3 + length (weather_body c.weather) + length (spell c.load)
unfolding spell_condition spell_block
length_condition c = length_block (weather c.weather.set).tag (weather_body c.weather) (spell c.load)

pub Bytes-condition : (c : Condition) → ConditionLimits c → Bytes (spell_condition c)
unfolding spell_condition
Bytes-condition c l =
    let s = c.weather.set in
    Bytes-append (spell_weather c.weather) (spell c.load) (Bytes-fixed (weather s) (weather_lawful s) c.weather.sky l.sky) (Bytes-entries c.load l.good (omega (arith, length_condition c, l.long)))

-- The set that a tag chooses is the one with that tag.
among_sound : (ln t : ℕ) (ss : List Set) (s : Set) → among ln t ss ≡ got s → (weather s).tag ≡ t
unfolding among
among_sound ln t [] s e = refused_got e
among_sound ln t (x ∷ ss) s e = go (eqb t (weather x).tag) refl (among_sound ln t ss s) e
  where
    go : (b : Bool) → eqb t (weather x).tag ≡ b → (among ln t ss ≡ got s → (weather s).tag ≡ t) → elim b [ true ↦ got x | false ↦ among ln t ss ] ≡ got s → (weather s).tag ≡ t
    go true p f e = let z : x ≡ s = cc in rw (← z) (sym (eqb-true _ _ p))
    go false p f e = f e

chosen_sound : (ln t : ℕ) (s : Set) → chosen ln t ≡ got s → (weather s).tag ≡ t
unfolding chosen
chosen_sound ln t s e = among_sound ln t sets s e

pub chosen_got : (ln : ℕ) (s : Set) → chosen ln (weather s).tag ≡ got s
unfolding chosen
chosen_got ln code = refl
chosen_got ln timber = refl

-- What stands as the weather, is read as it.
pub weather_sound : (ln t : ℕ) (body : List ℕ) (w : Weather) → Bytes body → weather_at ln t body ≡ got w → (spell_weather w ≡ block t body) × (ok_weather w ≡ true)
unfolding weather_at spell_block
weather_sound ln t body w B e =
    let s = bind_inv _ _ e in
    let v = bind_inv _ _ s.2 in
    let q : ◌≡◌ {A = Weather} (record { set = s.0; sky = v.0 }) w = cc in
    let f = fixed_sound ln 3 (weather s.0) (weather_lawful s.0) true body v.0 B v.1 in
    rw (← q) (ap₂ block (chosen_sound ln t s.0 s.1) f.0, f.2)

pub weather_got : (ln : ℕ) (w : Weather) → ok_weather w ≡ true → weather_at ln (weather w.set).tag (weather_body w) ≡ got w
unfolding weather_at
weather_got ln w h = bind_got _ (chosen_got ln w.set) ∙ bind_got _ (fixed_got ln 3 (weather w.set) (weather_lawful w.set) true w.sky refl h)

pub inside_sound : (ln : ℕ) (body : List ℕ) (c : Condition) → Bytes body → length body ≤ most_bytes → inside ln body ≡ got c → (spell_condition c ≡ body) × ConditionLimits c
unfolding inside load_at spell_condition
inside_sound ln body c B l e =
    let a = test_inv _ _ _ _ _ e in
    let b = bind_inv _ _ a.1 in
    let v = bind_inv _ _ b.2 in
    let x = bind_inv _ _ v.2 in
    let s = test_inv _ _ _ _ _ x.1 in
    let q : ◌≡◌ {A = Condition} (record { weather = v.0; load = x.0 }) c = cc in
    let h = header_sound ln 3 body b.0 B b.1 in
    let f = weather_sound ln b.0.tag b.0.body v.0 h.1 v.1 in
    let g = entries_sound ln most_depth most_entries (6 + length b.0.body) b.0.rest x.0 h.2 s.1 in
    let p : spell_weather v.0 ++ spell x.0 ≡ body = ap₂ ◌++◌ f.0 g.spells ∙ h.0 in
    rw (← q) (p, record { sky = f.1; good = g.good; any = sym (full_spell x.0) ∙ ap full g.spells ∙ s.0; deep = g.deep; many = g.many; long = omega (arith, ap length p) })

pub inside_got : (ln : ℕ) (c : Condition) → ConditionLimits c → inside ln (spell_condition c) ≡ got c
unfolding inside load_at spell_condition spell_block
inside_got ln c l =
    let t = (weather c.weather.set).tag in
    let L = length_condition c in
    test_got _ _ _ _ (full_block t (weather_body c.weather) (spell c.load))
    ∙ bind_got _ (header_got ln 3 t (weather_body c.weather) (spell c.load) (omega (arith, l.long)))
    ∙ bind_got _ (weather_got ln c.weather l.sky)
    ∙ bind_got _ (test_got _ _ _ _ (full_spell c.load ∙ l.any) ∙ entries_got ln c.load most_depth most_entries _ l.good l.deep l.many (omega (arith, l.long)))
