-- Values of a list of arguments, found one by one.
use Rattle.std.proofs.Common.{◌≡◌, ℕ, suc, ◌+◌, ◌<◌, List, [], ◌∷◌, ◌++◌, length, drop, map, get_or, Result, Ok, Err, refl, ap, sym, ◌∙◌, arith, append_assoc, append-nil, zero, ◌≤◌}
use Rattle.std.proofs.Math.Seq.{drop-cons}
use Rattle.cc_whole.specs.declared.expression.CExpression.{CExpression}
use Rattle.cc_whole.specs.Plain.{expression_of}
use Rattle.cc_whole_memory.specs.declared.value.Value.{Value}
use Rattle.cc_whole_memory.specs.Blocks.{Memory, on_ok}
use Rattle.cc_whole_mean.specs.Scope.{Scope}
use Rattle.cc_whole_mean.specs.Values.{value_of, values_of}

-- these values, and the ones behind them
abbrev pub behind : List Value → Result (List Value) ℕ → Result (List Value) ℕ
behind found (Ok vs) = Ok (found ++ vs)
behind found (Err act) = Err act

abbrev before : Result Value ℕ → Result (List Value) ℕ → Result (List Value) ℕ
before v r = on_ok v (λ v. on_ok r (λ vs. Ok (v ∷ vs)))

one_more : (found : List Value) (v : Value) (r : Result (List Value) ℕ) → behind found (before (Ok v) r) ≡ behind (found ++ v ∷ []) r
one_more found v (Ok vs) = ap Ok (sym (append_assoc found (v ∷ []) vs))
one_more found v (Err act) = refl

pub behind-nothing : (r : Result (List Value) ℕ) → r ≡ behind [] r
behind-nothing (Ok vs) = refl
behind-nothing (Err act) = refl

opened : (es : List CExpression) (i : ℕ) (e : CExpression) (scope : Scope) (m : Memory) → i < length es → e ≡ get_or es i e
    → values_of (map expression_of (drop i es)) scope m ≡ before (value_of (expression_of e) scope m) (values_of (map expression_of (drop (i + 1) es)) scope m)
opened es i e scope m within is =
    ap (λ l. values_of (map expression_of l) scope m) (drop-cons es i e within)
    ∙ ap (λ x. before (value_of (expression_of x) scope m) (values_of (map expression_of (drop (suc i) es)) scope m)) (sym is)
    ∙ ap (λ k. before (value_of (expression_of e) scope m) (values_of (map expression_of (drop k es)) scope m)) (let h : suc i ≡ i + 1 = omega arith in h)

pub values-step : (found : List Value) (es : List CExpression) (i : ℕ) (e : CExpression) (v : Value) (scope : Scope) (m : Memory) → i < length es → e ≡ get_or es i e
    → value_of (expression_of e) scope m ≡ Ok v
    → behind found (values_of (map expression_of (drop i es)) scope m) ≡ behind (found ++ v ∷ []) (values_of (map expression_of (drop (i + 1) es)) scope m)
values-step found es i e v scope m within is gives =
    ap (behind found) (opened es i e scope m within is)
    ∙ ap (λ r. behind found (before r (values_of (map expression_of (drop (i + 1) es)) scope m))) gives
    ∙ one_more found v (values_of (map expression_of (drop (i + 1) es)) scope m)

pub values-fails : (found : List Value) (es : List CExpression) (i : ℕ) (e : CExpression) (act : ℕ) (scope : Scope) (m : Memory) → i < length es → e ≡ get_or es i e
    → value_of (expression_of e) scope m ≡ Err act → behind found (values_of (map expression_of (drop i es)) scope m) ≡ Err act
values-fails found es i e act scope m within is gives =
    ap (behind found) (opened es i e scope m within is)
    ∙ ap (λ r. behind found (before r (values_of (map expression_of (drop (i + 1) es)) scope m))) gives

drop-past : {A : Type 0} (xs : List A) (i : ℕ) → length xs ≤ i → drop i xs ≡ []
drop-past [] zero le = refl
drop-past [] (suc i) le = refl
drop-past (x ∷ xs) zero le = absurd (omega (arith, le))
drop-past (x ∷ xs) (suc i) le = drop-past xs i (omega (arith, le))

pub values-end : (found : List Value) (es : List CExpression) (i : ℕ) (scope : Scope) (m : Memory) → length es ≤ i
    → behind found (values_of (map expression_of (drop i es)) scope m) ≡ Ok found
values-end found es i scope m le =
    ap (λ l. behind found (values_of (map expression_of l) scope m)) (drop-past es i le) ∙ ap Ok (append-nil found)
