-- Where no block is made, the number of the first one does not matter.
use Rattle.std.proofs.Common.{◌≡◌, ℕ, List, [], ◌∷◌, length, refl, ap}
use Rattle.cc_whole.specs.declared.statement.CLocal.{CLocal}
use Rattle.cc_whole.specs.declared.unit.CParameter.{CParameter}
use Rattle.cc_whole_memory.specs.declared.value.Value.{Value}
use Rattle.cc_whole_memory.specs.Blocks.{Memory}
use Rattle.cc_whole_mean.specs.Scope.{Scope, bind_locals, bind_parameters}
use Rattle.cc_whole_mean.specs.Flow.{Flow, Falls, Breaks, Continues, Returns, Exits, ending}
use Rattle.cc_whole_start.specs.First.{first_of}

ending-none : (b c : ℕ) (flow : Flow) → ending 0 b flow ≡ ending 0 c flow
ending-none b c (Falls s) = refl
ending-none b c (Breaks s) = refl
ending-none b c (Continues s) = refl
ending-none b c (Returns v s) = refl
ending-none b c (Exits z s) = refl

-- what is made of the names and the end of a body's locals
pub locals-first : {A : Type 0} (xs : List CLocal) (m : Memory) (f : (Scope → Scope) → (Flow → Flow) → A)
    → f (bind_locals xs (first_of (length xs) m)) (ending (length xs) (first_of (length xs) m)) ≡ f (bind_locals xs m.next) (ending (length xs) m.next)
locals-first [] m f = ap (f (λ scope. scope)) (λ j flow. ending-none 0 m.next flow j)
locals-first (x ∷ xs) m f = refl

-- what is made of the names and the end of a function's parameters, for as many arguments
pub parameters-first : {A : Type 0} (ps : List CParameter) (vs : List Value) (m : Memory) (f : (Scope → Scope) → (Flow → Flow) → A) → length ps ≡ length vs
    → f (bind_parameters ps (first_of (length vs) m)) (ending (length vs) (first_of (length vs) m)) ≡ f (bind_parameters ps m.next) (ending (length vs) m.next)
parameters-first [] [] m f e = ap (f (λ scope. scope)) (λ j flow. ending-none 0 m.next flow j)
parameters-first (p ∷ ps) [] m f e = absurd (cc)
parameters-first ps (v ∷ vs) m f e = refl
