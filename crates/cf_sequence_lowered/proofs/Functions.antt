-- Functions and static objects: what is so of each of their nodes makes their plain statements pass.
use Rattle.std.proofs.Common.{◌≡◌, ℕ, suc, ◌+◌, ◌*◌, ◌≤◌, Bool, true, false, ◌&&◌, not, if◌then◌else◌, List, [], ◌∷◌, length, reverse, refl, sym, subst, arith}
use Rattle.std.specs.Prelude.{ℤ}
use Rattle.cf_base.proofs.Tests.{both}
use Rattle.cf_core.specs.Types.{SourceType, parameters, result, is_class}
use Rattle.cf_core.specs.Classes.{Class}
use Rattle.cf_core.specs.Core.{Core, Function, Static}
use Rattle.cf_core.specs.Joined.{is_nothing}
use Rattle.cf_core.specs.Nodes.{nodes}
use Rattle.cf_plain.specs.Plain.{Action, Plains, act, set, nothing, more}
use Rattle.cf_plain.specs.Plain as plain
use Rattle.cf_sequence.specs.Built.{is_body, is_statement, arms_fit, is_built_static}
use Rattle.cf_sequence.specs.Made.{Local, added, declared, numbered}
use Rattle.cf_sequence.specs.Expressions.{finished}
use Rattle.cf_sequence.specs.Statements.{type_of_static, binds, reached, started, initialised}
use Rattle.cf_sequence.specs.Sequenced.{inside, flowed_off, sequenced_body, sequenced_start}
use Rattle.cf_sequence.proofs.Calling.{never}
use Rattle.cf_sequence.proofs.Constants.{constant-object, constant-start, constant-element, something-constant, by-set, start-is}
use Rattle.cf_sequence_lowered.proofs.Each.{Each, each-reversed}
use Rattle.cf_sequence_lowered.proofs.Rooms.{Space}
use Rattle.cf_sequence_lowered.proofs.Suits.{Suits, Own, Passed}
use Rattle.cf_sequence_lowered.proofs.Temporaries.{fine-finished}
use Rattle.cf_sequence_lowered.proofs.Initials.{element-sound, bound-sound}
use Rattle.cf_sequence_lowered.proofs.Statements.{Works, works}
use Rattle.cf_sequence_lowered.proofs.Walk.{AllPass, Fine}

negated : (b : Bool) → not b ≡ true → b ≡ false
negated true e = never e
negated false e = refl

-- registers that are enough for nodes
abbrev pub width_of : List Core → ℕ
width_of es = 4 + length (added es)

abbrev pub registers_of : List Core → ℕ
registers_of es = 0 + width_of es + 3 * length es + width_of es * length es

pub space-of : (p k : ℕ) (es : List Core) → p ≤ k → Space (registers_of es) p (width_of es) (length es) 0 k es
space-of p k es le = record { registers = omega arith; width = omega arith; behind = le; depth = omega arith }

module _ (T : Action → Type 0) (L : List ℤ → Type 0) (U : Core → Type 0) (B p W : ℕ) (suits : Suits T L U p) where
  own-parameters : (i : ℕ) (ts : List SourceType) → Each (Passed T L U p) ts → Each (Own T L U p) (numbered i ts)
  own-parameters i [] u = tt
  own-parameters i (t ∷ ts) u = (u.0 i, own-parameters (suc i) ts u.1)

  pub function-passes : (d : ℕ) (classes : List Class) (statics : List Static) (f : Function) → is_body f ≡ true → Each U (nodes f.body) → Each (Passed T L U p) (parameters f.type)
      → Space B p W d 0 (length (parameters f.type) + length f.locals) (nodes f.body) → AllPass T L B (sequenced_body classes statics f) d
  function-passes d classes statics f built u passed space =
      let stated = is_statement (length (parameters f.type)) f.body in
      let forms = both (not (is_class (result f.type))) (stated && arms_fit (length (parameters f.type) + length f.locals) f.body) built in
      let stands = (both stated (arms_fit (length (parameters f.type) + length f.locals) f.body) forms.1).0 in
      let scalar : is_class (result f.type) ≡ false = negated (is_class (result f.type)) forms.0 in
      let w : Works T L U B p W suits f.body = works T L U B p W suits f.body (length (parameters f.type)) stands u in
      let locals : List Local = reverse (numbered 0 (parameters f.type)) in
      let owned : Each (Own T L U p) locals = each-reversed (Own T L U p) (numbered 0 (parameters f.type)) (own-parameters 0 (parameters f.type) passed) in
      let flowed : Plains = finished locals nothing in
      let ends : AllPass T L B (flowed_off f) d =
      subst (λ b. AllPass T L B (if b then nothing else flowed) d) (sym scalar) (Fine.pass (fine-finished T L U B p suits d locals owned) nothing tt) in
      Fine.pass
      (Works.code w (inside classes statics f) (record { plain_result = scalar; here = tt; breaks = tt; continues = tt; returns = owned }) d
      (length (parameters f.type) + length f.locals) space) (finished (declared f.body) (flowed_off f))
      (Fine.pass (fine-finished T L U B p suits d (declared f.body) (Works.owns w)) (flowed_off f) ends)

  -- what sets a static object
  pub start-passes : (d : ℕ) (classes : List Class) (statics : List Static) (x : Static) → is_built_static statics x ≡ true → Each U (nodes x.start)
      → T (plain.static_object x.name (type_of_static statics x.name)) → Space B p W d 0 0 (nodes x.start) → 0 + 1 ≤ B → AllPass T L B (sequenced_start classes statics x) d
  start-passes d classes statics x built u named space low =
      let t : SourceType = type_of_static statics x.name in
      subst (λ ss. AllPass T L B ss d) (sym (start-is classes statics x (constant-object statics x built))) (by t named (is_nothing x.start) refl)
    where
      reaches : (b : Bool) (t : SourceType) → T (plain.static_object x.name t) → (rest : Plains) → AllPass T L B rest d → AllPass T L B (reached b t x.name rest) d
      reaches true t named rest passed = ((omega arith, suits.neutral (plain.reach x.name) refl), passed)
      reaches false t named rest passed = (suits.neutral (plain.reach x.name) refl, ((omega arith, named), passed))

      by : (t : SourceType) → T (plain.static_object x.name t) → (b : Bool) → is_nothing x.start ≡ b
          → AllPass T L B (if b then nothing else initialised classes t x.name x.start 0 nothing) d
      by t named true e = tt
      by t named false e =
          let named_as : SourceType = type_of_static statics x.name in
          let last : Plains = more (act (plain.finish_static x.name)) nothing in
          let passed : AllPass T L B last d = (suits.neutral (plain.finish_static x.name) refl, tt) in
          reaches (binds x.start) t named (started classes t x.start 0 0 last)
          (by-set named_as x.start (something-constant named_as x.start (constant-start statics x built) e)
          (λ bound. Fine.pass (bound-sound T L U B p W suits classes x.start bound u d t 0 0 space) last passed)
          (λ other constant. Fine.pass (element-sound T L U B p W suits classes named_as x.start (constant-element named_as x.start constant) u d t 0 0 space) last passed))
