-- The source's run of a function that is entered: its statements, and how they end.
use Rattle.std.proofs.Common.{◌≡◌, ℕ, suc, Bool, false, List, refl, ◌∙◌, ap}
use Rattle.std.specs.Prelude.{Some}
use Rattle.cf_base.specs.World.{World, and_then}
use Rattle.cf_core.specs.Types.{is_class, result as result_type}
use Rattle.cf_core.specs.Core.{Role, plain_function}
use Rattle.cf_core.specs.Run.{State, Act, onward, ◌>>=◌, ◌>>◌, gives, state}
use Rattle.cf_core.specs.Calls.{Program}
use Rattle.cf_core.specs.Program.{begins, ends, unbuilds, ended_well}
use Rattle.cf_plain.specs.Plain.{PlainFunction}
use Rattle.cf_plain.specs.Acts.{no_registers}
use Rattle.cf_plain.specs.Running.{Flow, Again, entered, calls, core_flow, all, plain_named, header, run_found, runs}

module _ (P : Program) (fs : List PlainFunction) (n : ℕ) (f : PlainFunction) (found : plain_named fs f.name ≡ Some f) (role : f.role ≡ plain_function)
    (scalar : is_class (result_type f.type) ≡ false) (os : List ℕ) where
  abbrev again : Again
  again = runs P fs n

  -- the run by the function's kind, and whether it gives a class object
  abbrev by-kind : Role → Bool → Act Flow
  by-kind r b = do
    before ← state
    begins P.classes r before.frame.this
    flow ← all again P f.body no_registers
    ended_well b (core_flow flow)
    unbuilds (calls again) P r before.frame.this
    ends P.classes r before.frame.this before
    gives flow

  pub body-runs : (s : State) (w : World)
      → runs P fs (suc n) (entered (header f) os) s w ≡ and_then (all again P f.body no_registers s w) (λ did w. onward did (λ flow. gives flow) w)
  body-runs s w =
      ap (λ x. run_found again P x s w) found ∙ ap (λ r. by-kind r (is_class (result_type f.type)) s w) role ∙ ap (λ b. by-kind plain_function b s w) scalar
