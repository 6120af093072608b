-- The plain statements of a built function don't depend on the static objects of its file.
use Rattle.std.proofs.Common.{◌≡◌, ℕ, ◌+◌, true, ◌&&◌, List, [], ◌∷◌, refl, ◌∙◌, ap, length}
use Rattle.std.specs.Prelude.{map, None}
use Rattle.std.specs.List.{list_all}
use Rattle.cf_base.proofs.Tests.{both}
use Rattle.cf_core.specs.declared.operators.LoopForm.TheVariants as form
use Rattle.cf_core.specs.Types.{parameters}
use Rattle.cf_core.specs.Core as core
use Rattle.cf_core.specs.Core.{Core, Cores, MaybeCore, Function, Static, none, absent, given}
use Rattle.cf_plain.specs.Plain.{Plains, PlainFunction, branch, loop, switch, case_label, default_label, nothing, more}
use Rattle.cf_sequence.specs.Built.{is_value, is_condition, is_statement, is_statement_or, are_cases, are_statements, next_local, is_built_function}
use Rattle.cf_sequence.specs.Made.{width, width_maybe, declared, declared_all}
use Rattle.cf_sequence.specs.Expressions.{value, whole, finished, used}
use Rattle.cf_sequence.specs.Statements.{Inside, opened, in_loop, in_switch, declares, condition, held, passed, looping, statement, statement_or, statements}
use Rattle.cf_sequence.specs.Sequenced.{inside, flowed_off, sequenced_function}
use Rattle.cf_sequence.proofs.Calling.{never}
use Rattle.cf_sequence.proofs.Whole.{built-parts}

module _ (xs : List Static) where
  abbrev over : Inside → Inside
  over f = record f { statics = xs }

  mutual
    same-statement : (s : Core) (m : ℕ) → is_statement m s ≡ true → (f : Inside) (k : ℕ) (rest : Plains) → statement (over f) s k rest ≡ statement f s k rest
    same-statement (core.full e) m ok f k rest = refl
    same-statement (core.block es) m ok f k rest = same-statements es m ok (opened f) k (finished (declared_all es) rest)
    same-statement (core.sequence es) m ok f k rest = same-statements es m ok f k rest
    same-statement (core.declare i t e) m ok f k rest = refl
    same-statement (core.branch q a b) m ok f k rest =
        let parts = both (is_value q) (is_statement m a && is_statement_or (next_local m a) b) ok in
        let arms = both (is_statement m a) (is_statement_or (next_local m a) b) parts.1 in
        ap (λ ss. condition f.classes q k (λ n. more (branch n ss (statement_or (over f) b (k + width q + width a) nothing)) rest)) (same-statement a m arms.0 f (k + width q) nothing)
        ∙ ap (λ ss. condition f.classes q k (λ n. more (branch n (statement f a (k + width q) nothing) ss) rest)) (same-or b (next_local m a) arms.1 f (k + width q + width a) nothing)
    same-statement (core.loop form.While q e body) m ok f k rest =
        let inner = (both (is_condition e) (is_statement m body) (both (is_condition q) (is_condition e && is_statement m body) ok).1).1 in
        ap (λ ss. looping f.classes q e k ss rest) (same-statement body m inner (in_loop f) (k + width_maybe q + width_maybe e) (finished (declared body) nothing))
    same-statement (core.loop form.For q e body) m ok f k rest =
        let inner = (both (is_condition e) (is_statement m body) (both (is_condition q) (is_condition e && is_statement m body) ok).1).1 in
        ap (λ ss. looping f.classes q e k ss rest) (same-statement body m inner (in_loop f) (k + width_maybe q + width_maybe e) (finished (declared body) nothing))
    same-statement (core.loop form.Do q e body) m ok f k rest =
        let inner = (both (is_condition e) (is_statement m body) (both (is_condition q) (is_condition e && is_statement m body) ok).1).1 in
        ap (λ ss. more (loop ss (held f.classes q k nothing)) rest) (same-statement body m inner (in_loop f) (k + width_maybe q + width_maybe e) (finished (declared body) nothing))
    same-statement (core.switch e es) m ok f k rest =
        let parts = both (is_value e) (are_cases m es) ok in
        ap (λ ss. whole e 0 k (λ x n rest. value f.classes x e None n k (used n rest)) (λ n. passed n es (more (switch n ss) rest)))
        (same-cases es m parts.1 (in_switch f) (k + width e) (finished (declared_all es) nothing))
    same-statement core.leave m ok f k rest = refl
    same-statement core.continue m ok f k rest = refl
    same-statement (core.give absent) m ok f k rest = refl
    same-statement (core.give (given e)) m ok f k rest = refl
    same-statement s m ok f k rest = never ok

    same-or : (b : MaybeCore) (m : ℕ) → is_statement_or m b ≡ true → (f : Inside) (k : ℕ) (rest : Plains) → statement_or (over f) b k rest ≡ statement_or f b k rest
    same-or absent m ok f k rest = refl
    same-or (given s) m ok f k rest = same-statement s m ok f k rest

    same-statements : (es : Cores) (m : ℕ) → are_statements m es ≡ true → (f : Inside) (k : ℕ) (rest : Plains) → statements (over f) es k rest ≡ statements f es k rest
    same-statements none m ok f k rest = refl
    same-statements (core.more s es) m ok f k rest =
        let parts = both (is_statement m s) (are_statements (next_local m s) es) ok in
        ap (statement (over f) s k) (same-statements es (next_local m s) parts.1 (declares (declared s) f) (k + width s) rest)
        ∙ same-statement s m parts.0 f k (statements (declares (declared s) f) es (k + width s) rest)

    same-cases : (es : Cores) (m : ℕ) → are_cases m es ≡ true → (f : Inside) (k : ℕ) (rest : Plains) → statements (over f) es k rest ≡ statements f es k rest
    same-cases none m ok f k rest = refl
    same-cases (core.more (core.case_label z) es) m ok f k rest = ap (more (case_label z)) (same-cases es m ok f (k + 0) rest)
    same-cases (core.more core.default_label es) m ok f k rest = ap (more default_label) (same-cases es m ok f (k + 0) rest)
    same-cases (core.more s es) m ok f k rest =
        let parts = both (is_statement m s) (are_cases (next_local m s) es) ok in
        ap (statement (over f) s k) (same-cases es (next_local m s) parts.1 (declares (declared s) f) (k + width s) rest)
        ∙ same-statement s m parts.0 f k (statements (declares (declared s) f) es (k + width s) rest)

  pub same-function : (f : Function) → is_built_function f ≡ true → sequenced_function [] xs f ≡ sequenced_function [] [] f
  same-function f ok =
      ap (λ ss. let g : PlainFunction = record (sequenced_function [] [] f) { body = ss } in g)
      (same-statement f.body (length (parameters f.type)) (built-parts f ok).statement (inside [] [] f) (length (parameters f.type) + length f.locals) (finished (declared f.body) (flowed_off f)))

  pub same-functions : (fs : List Function) → list_all is_built_function fs ≡ true → map (sequenced_function [] xs) fs ≡ map (sequenced_function [] []) fs
  same-functions [] ok = refl
  same-functions (f ∷ fs) ok =
      let parts = both (is_built_function f) (list_all is_built_function fs) ok in
      ap (λ (g : PlainFunction). g ∷ map (sequenced_function [] xs) fs) (same-function f parts.0)
      ∙ ap (λ (gs : List PlainFunction). sequenced_function [] [] f ∷ gs) (same-functions fs parts.1)
