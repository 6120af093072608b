-- The C's arguments are read from the C locals in which their objects stand.
use Rattle.std.proofs.Common.{◌≡◌, ℕ, ◌+◌, ◌<◌, true, false, List, [], ◌∷◌, refl, sym, ◌∙◌, ap, subst, arith}
use Rattle.std.specs.Prelude.{Some, Ok}
use Rattle.cf_core.specs.Run.{State}
use Rattle.cf_core.specs.Calls.{root}
use Rattle.cc_whole_memory.specs.declared.value.Pointer.TheVariants as pointer
use Rattle.cc_whole_memory.specs.declared.value.Value.{Value}
use Rattle.cc_whole_memory.specs.Blocks.{Memory, on_ok, read}
use Rattle.cc_whole.specs.Plain.{load, named}
use Rattle.cc_whole_mean.specs.Scope.{Scope}
use Rattle.cc_whole_mean.specs.Values.{value_of, values_of, named_value}
use Rattle.cf_lower.specs.Statements.{passed}
use Rattle.cf_lower.specs.Written.{local_name}
use Rattle.cf_lower_relate.specs.Map.{Fixed, Map, pointer_to}
use Rattle.cf_lower_relate.specs.Relation.{Rel, Reads}
use Rattle.cf_lower_relate.specs.Scalars.{c_scalar}
use Rattle.cf_lower_relate.proofs.Memory.{read-place}
use Rattle.cf_lower_steps.proofs.Values.{stored-scalar}
use Rattle.cf_lower_calls.specs.Evaluated.Arguments.{Passed, InItsLocal, InTheirLocals, Evaluates}
use Rattle.cf_lower_calls.proofs.EvaluatedLaws.Entering.{hidden-live}

module _ (K : Fixed) (F : Map) (scope : Scope) (s : State) (m : Memory) (rel : Rel K F s m) where
  module _ (i o : ℕ) (x : InItsLocal K F scope s i o) where
    found : Reads K F x.sort x.value (read (c_scalar x.sort) (pointer_to K F (root o)) m)
    found = read-place K F s m rel (root o) x.sort x.known (hidden-live (F.stage o) x.hidden) refl x.typed x.value x.held

    at-start : pointer.At (F.block o) 0 ≡ pointer_to K F (root o)
    at-start = ap (pointer.At (F.block o)) (let base = x.base in let e : 0 ≡ F.base o + 0 = omega (arith, base) in e)

    value-there : value_of (load (named (local_name i))) scope m ≡ Ok found.value
    value-there =
        ap (λ k. named_value k m) x.named
        ∙ ap (λ a. read a (pointer.At (F.block o) 0) m) (stored-scalar x.sort)
        ∙ ap (λ k. read (c_scalar x.sort) k m) at-start
        ∙ found.is

    passed-there : Passed K F s o found.value
    passed-there = record { known = x.known; hidden = x.hidden; sort = x.sort; typed = x.typed; value = x.value; held = x.held; same = found.same }

  pub evaluates : (is os : List ℕ) → InTheirLocals K F scope s is os → Evaluates K F scope s m is os
  evaluates [] [] xs = record { values = []; are = refl; passed_there = tt }
  evaluates [] (o ∷ os) xs = absurd xs
  evaluates (i ∷ is) [] xs = absurd xs
  evaluates (i ∷ is) (o ∷ os) xs =
      let first = found i o xs.0 in
      let rest = evaluates is os xs.1 in
      record {
        values = first.value ∷ rest.values;
        are = ap (λ a. on_ok a (λ v. on_ok (values_of (passed is) scope m) (λ vs. Ok (v ∷ vs)))) (value-there i o xs.0)
            ∙ ap (λ a. on_ok a (λ vs. Ok (first.value ∷ vs))) rest.are;
        passed_there = (passed-there i o xs.0, rest.passed_there);
      }
