-- Where the C locals of a lowered function stand: its parameters first, then its locals, registers, flags and the results of calls.
use Rattle.std.specs.Prelude.{ℕ, suc, ◌+◌, ◌*◌, ◌==◌, nat_le, Bool, true, false, ◌&&◌, not, if◌then◌else◌, List, [], ◌∷◌, ◌++◌, length, map, Option, Some, None, option_map, is_some}
use Rattle.std.specs.List.{flat_map, list_all}
use Rattle.cf_core.specs.Types.{Name, SourceType, parameters}
use Rattle.cf_core.specs.Classes.{Class}
use Rattle.cf_lower_layout.specs.Sorts.{sort_of}
use Rattle.cf_plain.specs.Plain.{PlainFunction}
use Rattle.cf_plain.specs.Named.{all_actions}
use Rattle.cc_whole.specs.declared.types.CType.{CType}
use Rattle.cc_whole.specs.declared.statement.CLocal.{CLocal}
use Rattle.cc_whole.specs.declared.unit.CParameter.{CParameter}
use Rattle.cc_whole_locals.specs.Names.{is_local, locals_differ, parameters_differ}
use Rattle.cf_lower.specs.Written.{type_number}
use Rattle.cf_lower.specs.Functions.{own_locals, registers, flags, results, result_at, each_once, all_bound, all_nesting, locals_of, lowered_parameters}
use Rattle.cf_lower_steps.specs.Own.{Own, class_of}
use Rattle.cf_lower_turns.specs.Flags.{Flags}

-- the C locals behind the parameters
abbrev pub c_locals : List Class → PlainFunction → List CLocal
c_locals classes f =
    own_locals classes (length (parameters f.type)) f.locals ++ registers (all_bound f.body) ++ flags (all_nesting f.body)
    ++ results (all_actions f.body)

-- the types that results of its calls have
abbrev pub result_types : PlainFunction → List CType
result_types f = each_once (flat_map result_at (all_actions f.body))

abbrev pub place_of_type : CType → List CType → Option ℕ
place_of_type t [] = None
place_of_type t (u ∷ us) = if type_number u == type_number t then Some 0 else option_map (λ (i : ℕ). suc i) (place_of_type t us)

-- how many C locals stand before the registers, the flags and the results
abbrev pub registers_from : PlainFunction → ℕ
registers_from f = length f.locals

abbrev pub flags_from : PlainFunction → ℕ
flags_from f = length f.locals + 3 * all_bound f.body

abbrev pub results_from : PlainFunction → ℕ
results_from f = length f.locals + (3 * all_bound f.body + all_nesting f.body)

-- where the parameters begin in one block, and the other C locals in another
abbrev pub own_of : PlainFunction → ℕ → ℕ → Own
own_of f first start = record {
  bound = all_bound f.body;
  block = λ t r. start + (registers_from f + (3 * r + class_of t));
  locals = locals_of f;
  local = λ i. first + i;
}

abbrev pub flags_of : PlainFunction → ℕ → Flags
flags_of f start = record {
  bound = all_nesting f.body;
  block = λ d. start + (flags_from f + d);
  result = λ t. option_map (λ (i : ℕ). start + (results_from f + i)) (place_of_type t (result_types f));
}

-- no C local has the name of a parameter
abbrev pub names_apart : List CParameter → List CLocal → Bool
names_apart [] xs = true
names_apart (p ∷ ps) xs = not (is_local p.name xs) && names_apart ps xs

-- What is asked of the function: its parameters are scalars, no call has one as an argument's object, and the names of its C locals differ.
abbrev pub is_laid_out : List Class → PlainFunction → Bool
is_laid_out classes f =
    list_all (λ t. is_some (sort_of t)) (parameters f.type)
    && (list_all (λ i. nat_le (length (parameters f.type)) i) (locals_of f).arguments
    && (locals_differ (c_locals classes f)
    && (parameters_differ (lowered_parameters 0 (parameters f.type)) && names_apart (lowered_parameters 0 (parameters f.type)) (c_locals classes f))))
