-- What a call has given goes through the C local of its type to a register.
use Rattle.std.proofs.Common.{◌≡◌, ℕ, ◌<◌, List, [], ◌∷◌, refl, sym, ◌∙◌, ap, subst}
use Rattle.std.specs.Prelude.{Some, Ok}
use Rattle.cf_base.specs.declared.kind.Kind.TheVariants.{Int}
use Rattle.cf_base.specs.World.{World, Went, and_then}
use Rattle.cf_core.specs.Store as source
use Rattle.cf_core.specs.Run.{State}
use Rattle.cf_lower_layout.specs.Sorts.{Sort, number, address, code}
use Rattle.cf_plain.specs.Plain.{Register}
use Rattle.cf_plain.specs.Acts.{Registers}
use Rattle.cf_plain.specs.Running.{keep as keep_value}
use Rattle.cc_whole.specs.Plain.{Expression, Statement, named, load}
use Rattle.cc_whole_memory.specs.declared.value.Value.{Value}
use Rattle.cc_whole_memory.specs.Blocks.{Memory, on_ok}
use Rattle.cc_whole_mean.specs.Flow as c
use Rattle.cc_whole_mean.specs.Flow.{in_memory, tried, falling, Back}
use Rattle.cc_whole_mean.specs.Mean.{go_back}
use Rattle.cc_whole_mean.specs.Types.{scalar_of}
use Rattle.cc_whole_mean.specs.Values.{value_of, fitted, assigned}
use Rattle.cf_lower.specs.Kept.{Keeping, keep, of_sort, local_kept}
use Rattle.cf_lower.specs.Written.{c_type, register_type, register_name, result_name}
use Rattle.cf_lower.specs.Expressions.{as_value}
use Rattle.cf_lower.specs.Statements.{set_register}
use Rattle.cf_lower_steps.specs.Steps.{GivenAs}
use Rattle.cf_lower_steps.proofs.Statements.{runs-one}
use Rattle.cf_lower_turns.specs.Here.{Here}
use Rattle.cf_lower_turns.specs.Scene.{Scene, fixed_in, c_again_at, helps_at, list_at}
use Rattle.cf_lower_points.proofs.LowerLeaves.{IsSet, register-set}
use Rattle.cf_lower_calls.specs.Invoked.Invoking.{HasLocal}
use Rattle.cf_lower_calls.proofs.InvokedLaws.Given.{AsGiven, used, unused, here-otherwise}
use Rattle.cf_lower_calls.proofs.InvokedLaws.Results.{Typed, result_target, after, result-stored, result-read, here-result}

-- the C local of a register that holds a scalar of this sort: all integers have one
abbrev held_as : Sort → Sort
held_as (number k) = number Int
held_as u = u

held-local : (u : Sort) → local_kept (of_sort (Some u)) ≡ Some (held_as u)
held-local (number k) = refl
held-local (address t) = refl
held-local (code t) = refl

held-name : (u : Sort) (r : Register) → register_name u r ≡ register_name (held_as u) r
held-name (number k) r = refl
held-name (address t) r = refl
held-name (code t) r = refl

-- what the C does behind a call whose result is a scalar of this sort
abbrev pub to_register : Sort → Register → List Statement
to_register a r = set_register a r (as_value a (load (named (result_name (c_type a))))) ∷ []

-- the C has stored the result, and has set the register
pub record InRegister (z : Scene) (n d : ℕ) (h : Keeping) (r : Register) (g : Registers) (s : State) (t : c.State) (w : World) (a : Sort) (b : ℕ) (y : source.Value)
    (back : Value) : Type 0 where
  pub after : c.State
  pub run : and_then (go_back (Some (result_target (c_type a) b)) (Back (Some back) t) w) (falling (λ t w. list_at z n (to_register a r) t w)) ≡ Went (c.Falls after) w
  pub here : Here (fixed_in z) z.body (keep h r (of_sort (Some a))) d (keep_value g r y) s after

module _ (z : Scene) (n d : ℕ) (h : Keeping) (r : Register) (g : Registers) (s : State) (t : c.State) (w : World) (here : Here (fixed_in z) z.body h d g s t) (a : Sort)
    (bound : r < z.body.own.bound) (local : HasLocal z (c_type a)) (y : source.Value) (back : Value) (typed : Typed (c_type a) back) where
  abbrev expression : Expression
  expression = as_value a (load (named (result_name (c_type a))))

  -- it is stored in the C local of its type
  abbrev t2 : c.State
  t2 = in_memory t (after (fixed_in z) z.body h d g s t here (c_type a) local.block local.is back typed)

  abbrev here2 : Here (fixed_in z) z.body h d g s t2
  here2 = here-result (fixed_in z) z.body h d g s t here (c_type a) local.block local.is back typed

  there : value_of expression z.body.scope t2.memory ≡ fitted (scalar_of (register_type a)) back
  there =
      ap (λ o. on_ok o (λ q. fitted (scalar_of (register_type a)) q)) (result-read (fixed_in z) z.body h d g s t here (c_type a) local.block local.is back typed)

  -- and goes to the register
  set-there : (q : source.Value) → GivenAs (fixed_in z) here.map (of_sort (Some a)) q (fitted (scalar_of (register_type a)) back)
      → IsSet (fixed_in z) z.body (keep h r (of_sort (Some a))) d (keep_value g r q) s t2 (held_as a) r expression
  set-there q given =
      register-set (fixed_in z) z.body h d g s t2 here2 (of_sort (Some a)) (held_as a) r bound (held-local a) expression refl q
      (subst (λ found. GivenAs (fixed_in z) here.map (of_sort (Some a)) q found) (sym there) given)

  finish : (m : Memory) → assigned (named (register_name (held_as a) r)) expression z.body.scope t2.memory ≡ Ok m
      → Here (fixed_in z) z.body (keep h r (of_sort (Some a))) d (keep_value g r y) s (in_memory t2 m) → InRegister z n d h r g s t w a local.block y back
  finish m is-set here3 = record {
    after = in_memory t2 m;
    run = ap (λ q. and_then (tried q w (λ m. Went (c.Falls (in_memory t m)) w)) (falling (λ t w. list_at z n (to_register a r) t w)))
        (result-stored (fixed_in z) z.body h d g s t here (c_type a) local.block local.is back typed)
        ∙ runs-one (c_again_at z n) (helps_at z n) z.c_program z.helper z.body.scope z.depth (set_register a r expression) t2 w (in_memory t2 m)
        (ap (λ name. tried (assigned (named name) expression z.body.scope t2.memory) w (λ m. Went (c.Falls (in_memory t2 m)) w)) (held-name a r)
        ∙ ap (λ q. tried q w (λ m. Went (c.Falls (in_memory t2 m)) w)) is-set);
    here = here3;
  }

  pub to-register : AsGiven z.program z.function z.signature here.map a y (fitted (scalar_of (register_type a)) back) → InRegister z n d h r g s t w a local.block y back
  to-register (used given) = let done = set-there y given in finish done.after done.is done.here
  to-register (unused q given unusable) =
      let done = set-there q given in
      finish done.after done.is
      (here-otherwise (fixed_in z) z.body h d g s (in_memory t2 done.after) r (of_sort (Some a)) q y done.here (λ found. unusable done.here.map found))
