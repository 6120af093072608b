-- A store makes no literal.
use Rattle.std.proofs.Common.{◌≡◌, ℕ, Bool, true, false, not, refl, sym, ◌∙◌, ap}
use Rattle.std.specs.Prelude.{Some}
use Rattle.cf_base.specs.Event.{Undefined}
use Rattle.cf_base.specs.World.{World, Ran, Went, Stops}
use Rattle.cf_core.specs.Places.{Place, is_inside, is_scalar}
use Rattle.cf_core.specs.Store as source
use Rattle.cf_core.specs.Store.{hold, is_usable, is_constant_place}
use Rattle.cf_core.specs.Run.{State, Did, Gives, Malformed, ◌>>=◌, gives, object_changed}
use Rattle.cf_core.specs.Access.{place_type, write_place}
use Rattle.cf_core.specs.Calls.{Program}
use Rattle.cf_core.specs.Calls as core
use Rattle.cf_plain.specs.Plain as plain
use Rattle.cf_plain.specs.Plain.{Register}
use Rattle.cf_plain.specs.Acts.{Registers, used_in, doing, acts}
use Rattle.cf_lower_steps.proofs.Tests.{test-used, test-place, test-valid-on, test-need-on, test-needs-on}

-- the literals are those of before
abbrev pub LiteralsKept : State → Ran (Did source.Value) → Type 0
LiteralsKept s ran = (v : source.Value) (u : State) (w : World) → ran ≡ Went (Gives v u) w → u.literals ≡ s.literals

state-same : {v x : source.Value} {s u : State} {w a : World} → Went (Gives v s) w ≡ Went (Gives x u) a → s ≡ u
state-same e = cc

module _ (s : State) where
  pub none-wrong : (w : World) → LiteralsKept s (Went Malformed w)
  none-wrong w v u a e = absurd (cc)

  pub none-ends : (w : World) (n : ℕ) → LiteralsKept s (Stops (Undefined n) w.trace)
  none-ends w n v u a e = absurd (cc)

  pub kept-by : (x : source.Value) (k : State) (w : World) → k.literals ≡ s.literals → LiteralsKept s (Went (Gives x k) w)
  kept-by x k w same v u a e = ap (λ (t : State). t.literals) (sym (state-same e)) ∙ same

  abbrev Q : Ran (Did source.Value) → Type 0
  Q ran = LiteralsKept s ran

  pub store-keeps : (again : core.Again) (P : Program) (g : Registers) (r q : Register) (w : World) → LiteralsKept s (acts again P g (plain.store r q) s w)
  store-keeps again P g r q w =
      test-place Q s w (none-wrong w) (none-ends w) g r (λ p. used_in g q >>= (λ v. doing (write_place P.classes p v))) (λ p isp.
      test-used Q s w (none-wrong w) (none-ends w) g q (λ v. doing (write_place P.classes p v)) (λ v isv us.
      test-valid-on Q s w (none-wrong w) (none-ends w) (is_scalar (place_type P.classes s p)) _ (λ n. gives source.Nothing) (λ sc.
      test-needs-on Q s w (none-wrong w) (none-ends w) (is_inside P.classes (s.object p.object).type p.route) (is_usable P.classes (s.object p.object) p.route) 6 5 _
      (λ n. gives source.Nothing) (λ inside usable.
      test-need-on Q s w (none-wrong w) (none-ends w) (not (is_constant_place P.classes (s.object p.object) p.route)) 15 (object_changed p.object (hold p.route (Some v)))
      (λ n. gives source.Nothing) (λ free. kept-by source.Nothing _ w refl)))))
