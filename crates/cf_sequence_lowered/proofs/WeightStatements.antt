-- How often the plain statements of a statement have a literal: no more often than their core has it.
use Rattle.std.proofs.Common.{◌≡◌, ℕ, ◌+◌, ◌≤◌, Bool, true, false, ◌&&◌, ◌||◌, not, nat_le, if◌then◌else◌, List, [], ◌∷◌, ◌++◌, length, reverse, refl, sym, ap, subst, arith}
use Rattle.std.specs.Prelude.{Some, None}
use Rattle.cf_base.proofs.Tests.{both}
use Rattle.cf_core.specs.declared.operators.LoopForm.{LoopForm}
use Rattle.cf_core.specs.declared.operators.LoopForm.TheVariants as form
use Rattle.cf_core.specs.Types.{SourceType, parameters, result, is_class}
use Rattle.cf_core.specs.Classes.{Class}
use Rattle.cf_core.specs.Core as core
use Rattle.cf_core.specs.Core.{Core, Cores, MaybeCore, none, absent, given, Function, Static}
use Rattle.cf_core.specs.Joined.{is_nothing}
use Rattle.cf_core.specs.Nodes.{nodes, nodes_all, nodes_maybe}
use Rattle.cf_plain.specs.Plain.{Register, Action, Plains, act, set, branch, loop, switch, case_label, default_label, leave, continue, give, nothing, more}
use Rattle.cf_plain.specs.Plain as plain
use Rattle.cf_sequence.specs.Built.{is_value, is_start, is_condition, is_element, is_held, is_statement, is_statement_or, arms_fit, are_cases, are_statements, next_local, is_body, is_built_static}
use Rattle.cf_sequence.specs.Made.{Local, width, width_maybe, declared, declared_all, numbered}
use Rattle.cf_sequence.specs.Expressions.{value, whole, finished, used}
use Rattle.cf_sequence.specs.Statements.{Inside, declares, opened, in_loop, in_switch, held, stepped, started, made, passing, passes_local, passed, looping, statement, statement_or, statements, type_of_static, binds, reached, initialised}
use Rattle.cf_sequence.specs.Sequenced.{inside, flowed_off, sequenced_body, sequenced_start}
use Rattle.cf_sequence.proofs.Calling.{never, or-else}
use Rattle.cf_sequence.proofs.Constants.{constant-object, constant-start, constant-element, something-constant, by-set, start-is}
use Rattle.cf_sequence.proofs.Fulls.{nothing-is}
use Rattle.cf_sequence.proofs.Labels.{passing-past}
use Rattle.cf_sequence_lowered.proofs.Weights.{mass, nodes_weight, weight-two, Light, light-none, light-then, light-more, light-by, light-set, light-act, light-first, light-last, light-finished, light-whole, light-element, light-bound, light-held}

negated : (b : Bool) → not b ≡ true → b ≡ false
negated true e = never e
negated false e = refl

module _ (g : ℕ → ℕ) where
  -- a value, and then code with its register
  light-after : (f : Inside) (e : Core) → is_value e ≡ true → (k c : ℕ) (go rest : Register → Plains → Plains) → ((m : Register) → Light g 0 (go m)) → ((m : Register) → Light g c (rest m))
      → Light g (nodes_weight g (nodes e) + c) (λ last. whole e 0 k (λ x m rest. value f.classes x e None m k (go m rest)) (λ m. rest m last))
  light-after f e is k c go rest p q = light-whole g f.classes e is 0 k c go rest p q None

  light-truth : (m : Register) → Light g 0 (λ rest. more (set m (plain.truth m)) rest)
  light-truth m = light-set g m (plain.truth m)

  light-used : (m : Register) → Light g 0 (used m)
  light-used m = light-act g (plain.truth m)

  light-test : (f : Inside) (q : MaybeCore) → is_condition q ≡ true → (k : ℕ) → Light g (nodes_weight g (nodes_maybe q)) (held f.classes q k)
  light-test f absent ok k = light-none g
  light-test f (given q) ok k =
      let w : ℕ = nodes_weight g (nodes q) in
      light-more g (w + 0) w (held f.classes (given q) k) (omega arith)
      (light-after f q ok k 0 (λ m rest. more (set m (plain.truth m)) rest) (λ m rest. more (branch m nothing (more leave nothing)) rest) light-truth (λ m. record { light = λ rest. omega arith }))

  light-step : (f : Inside) (q : MaybeCore) → is_condition q ≡ true → (k : ℕ) → mass g (stepped f.classes q k) ≤ nodes_weight g (nodes_maybe q)
  light-step f absent ok k = omega arith
  light-step f (given q) ok k =
      let p = Light.light (light-after f q ok k 0 (λ m rest. rest) (λ m rest. rest) (λ m. light-none g) (λ m. light-none g)) nothing in omega arith

  light-made : (xs : List Local) → Light g 0 (made xs)
  light-made [] = light-none g
  light-made (x ∷ xs) = light-first g 0 (λ rest. more (act (plain.declare x.number x.type)) rest) (made xs) (light-act g (plain.declare x.number x.type)) (light-made xs)

  light-passing : (es : Cores) (m : ℕ) → are_cases m es ≡ true → (before : List Local) → mass g (passing before es) ≤ 0
  light-passing none m ok before = omega arith
  light-passing (core.more (core.case_label y) es) m ok before =
      let p = Light.light (light-made (reverse before)) (more leave (passing before es)) in let q = light-passing es m ok before in omega arith
  light-passing (core.more core.default_label es) m ok before =
      let p = Light.light (light-made (reverse before)) (more leave (passing before es)) in let q = light-passing es m ok before in omega arith
  light-passing (core.more s es) m ok before =
      let parts = both (is_statement m s) (are_cases (next_local m s) es) ok in
      subst (λ ss. mass g ss ≤ 0) (sym (passing-past m s parts.0 before es)) (light-passing es (next_local m s) parts.1 (declared s ++ before))

  light-passed : (n : Register) (es : Cores) (m : ℕ) → are_cases m es ≡ true → Light g 0 (passed n es)
  light-passed n es m ok = by (passes_local es)
    where
      by : (t : Bool) → Light g 0 (λ rest. if t then more (switch n (passing [] es)) rest else rest)
      by true = let p = light-passing es m ok [] in record { light = λ rest. omega arith }
      by false = light-none g

  -- ---- statements, in a function that gives no class

  abbrev Weighs : Core → Type 0
  Weighs s = (f : Inside) → is_class f.result ≡ false → (k : ℕ) → Light g (nodes_weight g (nodes s)) (statement f s k)

  abbrev WeighAll : Cores → Type 0
  WeighAll es = (f : Inside) → is_class f.result ≡ false → (k : ℕ) → Light g (nodes_weight g (nodes_all es)) (statements f es k)

  abbrev WeighsMaybe : MaybeCore → Type 0
  WeighsMaybe o = (f : Inside) → is_class f.result ≡ false → (k : ℕ) → Light g (nodes_weight g (nodes_maybe o)) (statement_or f o k)

  -- a way out
  light-out : (xs : List Local) (last : Plains → Plains) → Light g 0 last → Light g 0 (λ rest. finished xs (last rest))
  light-out xs last p = light-first g 0 (finished xs) last (light-finished g xs) p

  light-full : (e : Core) → is_start e ≡ true → Weighs (core.full e)
  light-full e ok f scalar k =
      or-else (is_nothing e) (is_value e) ok
      (λ blank. light-more g 0 (nodes_weight g (nodes (core.full e))) (statement f (core.full e) k) (omega arith)
      (light-by g 0 (statement f (core.full e) k) (λ rest. rest) (λ rest. ap (λ e. statement f (core.full e) k rest) (nothing-is e blank)) (light-none g)))
      (λ is. light-more g (nodes_weight g (nodes e) + 0) (nodes_weight g (nodes (core.full e))) (statement f (core.full e) k) (omega arith)
      (light-after f e is k 0 (λ m rest. rest) (λ m rest. rest) (λ m. light-none g) (λ m. light-none g)))

  light-declare : (i : ℕ) (t : SourceType) (e : Core) → (is_element t e || is_held i e) ≡ true → Weighs (core.declare i t e)
  light-declare i t e ok f scalar k =
      let w : ℕ = nodes_weight g (nodes e) in
      light-more g w (nodes_weight g (nodes (core.declare i t e))) (statement f (core.declare i t e) k) (omega arith)
      (light-first g w (λ rest. more (set 0 (plain.declare i t)) rest) (started f.classes t e 0 k) (light-set g 0 (plain.declare i t))
      (or-else (is_element t e) (is_held i e) ok (λ is. light-element g f.classes t e is t 0 k) (λ held. light-held g f.classes i e held t k)))

  light-returned : (e : Core) → is_value e ≡ true → Weighs (core.give (given e))
  light-returned e is f scalar k =
      let by_value : Plains → Plains = λ rest.
      whole e 0 k (λ x n rest. value f.classes x e None n k (used n rest)) (λ n. finished (f.here ++ f.returns) (more (give (Some n)) rest)) in
      let in_place : Plains → Plains = λ rest.
      more (set 0 plain.result) (started f.classes f.result e 0 k (finished (f.here ++ f.returns) (more (give None) rest))) in
      let w : ℕ = nodes_weight g (nodes e) in
      light-more g (w + 0) (nodes_weight g (nodes (core.give (given e)))) (statement f (core.give (given e)) k) (omega arith)
      (light-by g (w + 0) (statement f (core.give (given e)) k) by_value (λ rest. ap (λ t. if t then in_place rest else by_value rest) scalar)
      (light-after f e is k 0 (λ n rest. used n rest) (λ n rest. finished (f.here ++ f.returns) (more (give (Some n)) rest)) light-used
      (λ n. light-out (f.here ++ f.returns) (λ rest. more (give (Some n)) rest) (record { light = λ rest. omega arith }))))

  light-branch : (q a : Core) (o : MaybeCore) → is_value q ≡ true → Weighs a → WeighsMaybe o → Weighs (core.branch q a o)
  light-branch q a o is one other f scalar k =
      let left = statement f a (k + width q) nothing in
      let right = statement_or f o (k + width q + width a) nothing in
      let x = Light.light (one f scalar (k + width q)) nothing in
      let y = Light.light (other f scalar (k + width q + width a)) nothing in
      let two = weight-two g (nodes q) (nodes a) in
      let all = weight-two g (nodes q ++ nodes a) (nodes_maybe o) in
      let inside : ℕ = mass g left + mass g right in
      light-more g (nodes_weight g (nodes q) + inside) (nodes_weight g (nodes (core.branch q a o))) (statement f (core.branch q a o) k) (omega arith)
      (light-after f q is k inside (λ n rest. more (set n (plain.truth n)) rest) (λ n rest. more (branch n left right) rest) light-truth (λ n. record { light = λ rest. omega arith }))

  light-loop : (how : LoopForm) (q e : MaybeCore) (s : Core) → is_condition q ≡ true → is_condition e ≡ true → Weighs s → Weighs (core.loop how q e s)
  light-loop how q e s test next turn f scalar k =
      by how (record { light = λ rest. let a = two in let b = all in let c = body in let d = first in let e = step in omega arith })
      (record { light = λ rest. let a = two in let b = all in let c = body in let d = last in omega arith })
    where
      code : Plains
      code = statement (in_loop f) s (k + width_maybe q + width_maybe e) (finished (declared s) nothing)

      w : ℕ
      w = nodes_weight g (nodes (core.loop how q e s))

      two : nodes_weight g (nodes_maybe q ++ nodes_maybe e) ≡ nodes_weight g (nodes_maybe q) + nodes_weight g (nodes_maybe e)
      two = weight-two g (nodes_maybe q) (nodes_maybe e)

      all : nodes_weight g (nodes_maybe q ++ nodes_maybe e ++ nodes s) ≡ nodes_weight g (nodes_maybe q ++ nodes_maybe e) + nodes_weight g (nodes s)
      all = weight-two g (nodes_maybe q ++ nodes_maybe e) (nodes s)

      body : mass g code ≤ nodes_weight g (nodes s)
      body =
          let a = Light.light (turn (in_loop f) scalar (k + width_maybe q + width_maybe e)) (finished (declared s) nothing) in
          let b = Light.light (light-finished g (declared s)) nothing in
          omega arith

      first : mass g (held f.classes q k code) ≤ nodes_weight g (nodes_maybe q) + mass g code
      first = Light.light (light-test f q test k) code

      last : mass g (held f.classes q k nothing) ≤ nodes_weight g (nodes_maybe q) + 0
      last = Light.light (light-test f q test k) nothing

      step : mass g (stepped f.classes e (k + width_maybe q)) ≤ nodes_weight g (nodes_maybe e)
      step = light-step f e next (k + width_maybe q)

      by : (how : LoopForm) → Light g w (looping f.classes q e k code) → Light g w (λ rest. more (loop code (held f.classes q k nothing)) rest) → Light g w (statement f (core.loop how q e s) k)
      by form.While x y = x
      by form.For x y = x
      by form.Do x y = y

  light-switch : (m : ℕ) (e : Core) (es : Cores) → is_value e ≡ true → are_cases m es ≡ true → WeighAll es → Weighs (core.switch e es)
  light-switch m e es is are row f scalar k =
      let code : Plains = statements (in_switch f) es (k + width e) (finished (declared_all es) nothing) in
      let a = Light.light (row (in_switch f) scalar (k + width e)) (finished (declared_all es) nothing) in
      let b = Light.light (light-finished g (declared_all es)) nothing in
      let two = weight-two g (nodes e) (nodes_all es) in
      let c : ℕ = mass g code in
      light-more g (nodes_weight g (nodes e) + c) (nodes_weight g (nodes (core.switch e es))) (statement f (core.switch e es) k) (omega arith)
      (light-after f e is k c (λ n rest. used n rest) (λ n rest. passed n es (more (switch n code) rest)) light-used
      (λ n. light-first g c (passed n es) (λ rest. more (switch n code) rest) (light-passed n es m are) (record { light = λ rest. omega arith })))

  mutual
    pub light-statement : (s : Core) (m : ℕ) → is_statement m s ≡ true → Weighs s
    light-statement (core.full e) m ok = light-full e ok
    light-statement (core.block es) m ok = λ f scalar k.
        let w : ℕ = nodes_weight g (nodes_all es) in
        light-more g w (nodes_weight g (nodes (core.block es))) (statement f (core.block es) k) (omega arith)
        (light-last g w (statements (opened f) es k) (finished (declared_all es)) (light-all es m ok (opened f) scalar k) (light-finished g (declared_all es)))
    light-statement (core.sequence es) m ok = λ f scalar k.
        light-more g (nodes_weight g (nodes_all es)) (nodes_weight g (nodes (core.sequence es))) (statement f (core.sequence es) k) (omega arith) (light-all es m ok f scalar k)
    light-statement (core.declare i t e) m ok = light-declare i t e (both (nat_le m i) (is_element t e || is_held i e) ok).1
    light-statement (core.branch q a o) m ok =
        let forms = both (is_value q) (is_statement m a && is_statement_or (next_local m a) o) ok in
        let arms = both (is_statement m a) (is_statement_or (next_local m a) o) forms.1 in
        light-branch q a o forms.0 (light-statement a m arms.0) (light-or o (next_local m a) arms.1)
    light-statement (core.loop how q e s) m ok =
        let forms = both (is_condition q) (is_condition e && is_statement m s) ok in
        let rest = both (is_condition e) (is_statement m s) forms.1 in
        light-loop how q e s forms.0 rest.0 (light-statement s m rest.1)
    light-statement (core.switch e es) m ok =
        let forms = both (is_value e) (are_cases m es) ok in light-switch m e es forms.0 forms.1 (light-cases es m forms.1)
    light-statement core.leave m ok = λ f scalar k. light-out (f.here ++ f.breaks) (λ rest. more leave rest) (record { light = λ rest. omega arith })
    light-statement core.continue m ok = λ f scalar k. light-out (f.here ++ f.continues) (λ rest. more continue rest) (record { light = λ rest. omega arith })
    light-statement (core.give absent) m ok = λ f scalar k. light-out (f.here ++ f.returns) (λ rest. more (give None) rest) (record { light = λ rest. omega arith })
    light-statement (core.give (given e)) m ok = light-returned e ok
    light-statement s m ok = never ok

    light-or : (o : MaybeCore) (m : ℕ) → is_statement_or m o ≡ true → WeighsMaybe o
    light-or absent m ok = λ f scalar k. light-none g
    light-or (given s) m ok = light-statement s m ok

    light-all : (es : Cores) (m : ℕ) → are_statements m es ≡ true → WeighAll es
    light-all none m ok = λ f scalar k. light-none g
    light-all (core.more s es) m ok = λ f scalar k.
        let forms = both (is_statement m s) (are_statements (next_local m s) es) ok in
        let a : ℕ = nodes_weight g (nodes s) in
        let b : ℕ = nodes_weight g (nodes_all es) in
        let two = weight-two g (nodes s) (nodes_all es) in
        light-more g (a + b) (nodes_weight g (nodes s ++ nodes_all es)) (statements f (core.more s es) k) (omega arith)
        (light-then g a b (statement f s k) (statements (declares (declared s) f) es (k + width s)) (light-statement s m forms.0 f scalar k)
        (light-all es (next_local m s) forms.1 (declares (declared s) f) scalar (k + width s)))

    light-cases : (es : Cores) (m : ℕ) → are_cases m es ≡ true → WeighAll es
    light-cases none m ok = λ f scalar k. light-none g
    light-cases (core.more (core.case_label y) es) m ok = λ f scalar k.
        record { light = λ rest. let p = Light.light (light-cases es m ok f scalar (k + 0)) rest in omega arith }
    light-cases (core.more core.default_label es) m ok = λ f scalar k.
        record { light = λ rest. let p = Light.light (light-cases es m ok f scalar (k + 0)) rest in omega arith }
    light-cases (core.more s es) m ok = λ f scalar k.
        let forms = both (is_statement m s) (are_cases (next_local m s) es) ok in
        let a : ℕ = nodes_weight g (nodes s) in
        let b : ℕ = nodes_weight g (nodes_all es) in
        let two = weight-two g (nodes s) (nodes_all es) in
        light-more g (a + b) (nodes_weight g (nodes s ++ nodes_all es)) (statements f (core.more s es) k) (omega arith)
        (light-then g a b (statement f s k) (statements (declares (declared s) f) es (k + width s)) (light-statement s m forms.0 f scalar k)
        (light-cases es (next_local m s) forms.1 (declares (declared s) f) scalar (k + width s)))

  -- ---- functions and static objects

  pub light-body : (classes : List Class) (statics : List Static) (f : Function) → is_body f ≡ true → mass g (sequenced_body classes statics f) ≤ nodes_weight g (nodes f.body)
  light-body classes statics f built =
      let stated = is_statement (length (parameters f.type)) f.body in
      let forms = both (not (is_class (result f.type))) (stated && arms_fit (length (parameters f.type) + length f.locals) f.body) built in
      let stands = (both stated (arms_fit (length (parameters f.type) + length f.locals) f.body) forms.1).0 in
      let scalar : is_class (result f.type) ≡ false = negated (is_class (result f.type)) forms.0 in
      let flowed : Plains = finished (reverse (numbered 0 (parameters f.type))) nothing in
      let a = Light.light (light-statement f.body (length (parameters f.type)) stands (inside classes statics f) scalar (length (parameters f.type) + length f.locals))
      (finished (declared f.body) (flowed_off f)) in
      let b = Light.light (light-finished g (declared f.body)) (flowed_off f) in
      let c : mass g (flowed_off f) ≤ 0 =
      subst (λ b. mass g (if b then nothing else flowed) ≤ 0) (sym scalar) (let d = Light.light (light-finished g (reverse (numbered 0 (parameters f.type)))) nothing in omega arith) in
      omega arith

  pub light-static : (classes : List Class) (statics : List Static) (x : Static) → is_built_static statics x ≡ true → mass g (sequenced_start classes statics x) ≤ nodes_weight g (nodes x.start)
  light-static classes statics x built = subst (λ ss. mass g ss ≤ nodes_weight g (nodes x.start)) (sym (start-is classes statics x (constant-object statics x built))) (by (type_of_static statics x.name) (is_nothing x.start) refl)
    where
      light-reached : (b : Bool) (t : SourceType) (rest : Plains) → mass g (reached b t x.name rest) ≤ mass g rest
      light-reached true t rest = omega arith
      light-reached false t rest = omega arith

      by : (t : SourceType) (b : Bool) → is_nothing x.start ≡ b → mass g (if b then nothing else initialised classes t x.name x.start 0 nothing) ≤ nodes_weight g (nodes x.start)
      by t true e = omega arith
      by t false e =
          let named_as : SourceType = type_of_static statics x.name in
          let last : Plains = more (act (plain.finish_static x.name)) nothing in
          let set_by : Light g (nodes_weight g (nodes x.start)) (started classes t x.start 0 0) =
          by-set named_as x.start (something-constant named_as x.start (constant-start statics x built) e) (λ bound. light-bound g classes x.start bound t 0 0)
          (λ other constant. light-element g classes named_as x.start (constant-element named_as x.start constant) t 0 0) in
          let a = Light.light set_by last in
          let b = light-reached (binds x.start) t (started classes t x.start 0 0 last) in
          omega arith
