-- What is made of a file's core is what becomes of the file.
use Rattle.std.proofs.Common.{◌≡◌, ℕ, ◌≤◌, List, Result, Ok, Err, sym, subst}
use Rattle.std.specs.Prelude.{Some, None}
use Rattle.cf_core.specs.FromUnit.{Unit as CoreUnit}
use Rattle.cf_first.specs.First.{First, breaks, passes}
use Rattle.cf_sequence_built.specs.Unbuilt.{in_file}
use Rattle.cf_compile.specs.Compiles.{Compiles}
use Rattle.cf_compile.specs.Steps.{HasCore, Makes}
use Rattle.cf_compile.specs.Takes.{Takes, unbuilt_at, most_frame, has_no_core, is_not_sequenced, passes_frame, is_not_lowered, is_taken}
use Rattle.cf_compile.specs.declared.compiled.Compiled.{Compiled}
use Rattle.cf_compile.specs.declared.fault.Fault.{Fault}
use Rattle.cf_compile.specs.declared.fault.Fault.TheVariants as fault

module _ (bytes : List ℕ) where
  pub without-core : (f : Fault) → HasCore bytes (Err f) → Compiles bytes (Err f)
  without-core (fault.Broken b) first = has_no_core (breaks b) first
  without-core (fault.Limit limit) first = has_no_core (passes limit) first
  without-core fault.Memory free = tt

  module _ (core : CoreUnit) (first : First bytes (Ok core)) where
    pub not-sequenced : (at : ℕ) (f : Fault) → in_file core ≡ Some at → f ≡ fault.Broken (unbuilt_at at) → Compiles bytes (Err f)
    not-sequenced at f place is = subst (λ (g : Fault). Compiles bytes (Err g)) (sym is) (is_not_sequenced core at first place)

    pub made-of : in_file core ≡ None → (result : Result Compiled Fault) → Makes core result → Compiles bytes result
    made-of none (Ok made) m = record {
      core = core;
      taken = is_taken core first none (subst (λ n. n ≤ most_frame) m.frame m.within) m.lowers;
      keeps = m.keeps;
      frame = m.frame;
      within = m.within;
    }
    made-of none (Err (fault.Broken b)) m = subst (λ k. Takes bytes (Err (breaks k))) (sym m.broken) (is_not_lowered core first none m.within m.none)
    made-of none (Err (fault.Limit limit)) m = subst (λ l. Takes bytes (Err (passes l))) (sym m.limit) (passes_frame core first none m.past)
    made-of none (Err fault.Memory) free = tt
