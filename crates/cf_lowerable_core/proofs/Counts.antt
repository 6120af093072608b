-- How many nodes and locals a function has, counted in the file's numbers.
use Rattle.std.proofs.Common.{◌≡◌, ◌∙◌, ℕ, ◌+◌, ◌<◌, ◌≤◌, ◌^◌, Bool, true, false, ◌&&◌, List, ◌++◌, map, length, refl, ap, sym, length-append, arith}
use Rattle.std.specs.Prelude.{nat_lt}
use Rattle.std.proofs.lemmas.Bool.Decides.{nat_tests}
use Rattle.std.proofs.lemmas.List.{length-map}
use Rattle.cf_core.specs.declared.unit.CoreFn.{CoreFn}
use Rattle.cf_core.specs.Core.{Core}
use Rattle.cf_core.specs.FromTypes.{Tables, type_of}
use Rattle.cf_core.specs.FromUnit.{function_of}
use Rattle.cf_core.specs.Nodes.{nodes}
use Rattle.cf_core.specs.Types.{SourceType, parameters}
use Rattle.cf_sequence.specs.Made.{added}
use Rattle.cf_sequence_lowered.specs.Counts.{is_small}
use Rattle.cf_core_nodes.specs.Views.{view}
use Rattle.cf_lowerable_core.proofs.Entries.{parameters-taking}

-- too many locals before those that nodes make
too-many : (n k : ℕ) → 2 ^ 31 ≤ n → false ≡ nat_lt (n + k) (2 ^ 31)
too-many n k h = grind (arith, nat_tests, h)

is-few : (n : ℕ) → n < 2 ^ 31 → true ≡ nat_lt n (2 ^ 31)
is-few n h = grind (arith, nat_tests, h)

module _ (tables : Tables) (f : CoreFn) (ns : List Core) (is : ns ≡ nodes (view tables f.body)) where
  abbrev all : ℕ
  all = (length f.params + length f.locals) + length (added ns)

  locals-are : length (parameters (function_of tables f).type ++ ((function_of tables f).locals ++ added (nodes (view tables f.body)))) ≡ all
  locals-are =
      length-append (parameters (function_of tables f).type) ((function_of tables f).locals ++ added (nodes (view tables f.body)))
      ∙ ap (λ (l : List SourceType). length l + length ((function_of tables f).locals ++ added (nodes (view tables f.body))))
      (parameters-taking (type_of tables f.result) false (map (type_of tables) f.params))
      ∙ ap (λ n. n + length ((function_of tables f).locals ++ added (nodes (view tables f.body)))) (length-map f.params (type_of tables))
      ∙ ap (λ n. length f.params + n)
      (length-append (map (type_of tables) f.locals) (added (nodes (view tables f.body))) ∙ ap (λ n. n + length (added (nodes (view tables f.body)))) (length-map f.locals (type_of tables))
      ∙ ap (λ l. length f.locals + length (added l)) (sym is))
      ∙ (let e : length f.params + (length f.locals + length (added ns)) ≡ all = omega arith in e)

  pub small_by : (nat_lt (length ns) (2 ^ 31) && nat_lt all (2 ^ 31)) ≡ is_small (function_of tables f)
  small_by = ap (λ (l : List Core). nat_lt (length l) (2 ^ 31) && nat_lt all (2 ^ 31)) is ∙ ap (λ n. nat_lt (length (nodes (view tables f.body))) (2 ^ 31) && nat_lt n (2 ^ 31)) (sym locals-are)

  not-small : nat_lt all (2 ^ 31) ≡ false → false ≡ is_small (function_of tables f)
  not-small large = sym (sym small_by ∙ ap (λ b. nat_lt (length ns) (2 ^ 31) && b) large ∙ by (nat_lt (length ns) (2 ^ 31)))
    where
      by : (b : Bool) → (b && false) ≡ false
      by true = refl
      by false = refl

  pub many_params : 2 ^ 31 ≤ length f.params → false ≡ is_small (function_of tables f)
  many_params h = not-small (let l : 2 ^ 31 ≤ length f.params + length f.locals = omega (arith, h) in sym (too-many (length f.params + length f.locals) (length (added ns)) l))

  pub many_locals : 2 ^ 31 ≤ length f.locals → false ≡ is_small (function_of tables f)
  many_locals h = not-small (let l : 2 ^ 31 ≤ length f.params + length f.locals = omega (arith, h) in sym (too-many (length f.params + length f.locals) (length (added ns)) l))

  pub small_if_few : (r : Bool) (p l : ℕ) → p ≡ length f.params → l ≡ length f.locals → length ns < 2 ^ 31 → r ≡ nat_lt ((p + l) + length (added ns)) (2 ^ 31)
      → r ≡ is_small (function_of tables f)
  small_if_few r p l params locals few e =
      e ∙ ap (λ n. nat_lt ((n + l) + length (added ns)) (2 ^ 31)) params ∙ ap (λ n. nat_lt ((length f.params + n) + length (added ns)) (2 ^ 31)) locals
      ∙ ap (λ b. b && nat_lt all (2 ^ 31)) (is-few (length ns) few) ∙ small_by
