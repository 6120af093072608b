-- Calls of functions that are no members (5.2.2), with default arguments (8.2.6).
use Rattle.std.specs.Prelude.{ℕ, ◌-◌, Bool, ◌&&◌, nat_le, if◌then◌else◌, List, [], ◌∷◌, length, map, Option, None, Some, slice_get}
use Rattle.std.specs.List.{filter_map}
use Rattle.cf_types.specs.Table.{Table}
use Rattle.cf_classes.specs.TypeTree.{params_of}
use Rattle.cf_core.specs.declared.node.Core.{Core as Node}
use Rattle.cf_core.specs.declared.node.Core.TheVariants as node
use Rattle.cf_convert.specs.Constness.{bare}
use Rattle.cf_elab.specs.Env.{Env, FunctionEntry}
use Rattle.cf_elab.specs.UserFit.{arguments}
use Rattle.cf_elab.specs.Arguments.{fun_at, result_of}
use Rattle.cf_elab.specs.Answer.{Elab, ◌>>=◌, ◌>>◌, gives, done, breaks, need, known}
use Rattle.cf_elab.specs.Operand.{Value, val, defs, result_value, plain, Sort, sort_of, function_pointer}
use Rattle.cf_elab.specs.Best.{Candidate, Choice, Chosen, NoMatch, Tie, best}
use Rattle.cf_elab.specs.Complete.{complete}

-- the value of a call, whose class has to be complete
abbrev pub called : ℕ → ℕ → Node → Elab Value
called at result n = do
  env ← known
  need (complete env result) 30 at
  gives (returned env.types (result_value env.types at n result))
  where
    returned : Table → Value → Value
    returned types v = if v.is_lvalue then v else record v { type = bare types v.type }

-- ---- Pick

abbrev pub candidate : Table → FunctionEntry → Candidate
candidate types f =
    let ps = params_of (fun_at types f.type) in
    record { params = ps; least = length ps - length f.defaults }

abbrev pub fits_count : Candidate → List Value → Bool
fits_count c vs = nat_le c.least (length vs) && nat_le (length vs) (length c.params)

-- of a set of one the count is looked at first, K15
abbrev pub counted : ℕ → List Candidate → List Value → Elab (Unit {0})
counted at (c ∷ []) vs = need (fits_count c vs) 15 at
counted at cs vs = done

abbrev pub chosen : ℕ → Choice → Elab ℕ
chosen at (Chosen i) = gives i
chosen at NoMatch = breaks 46 at
chosen at Tie = breaks 46 at

-- the one of these candidates that the arguments choose, by its number among them: else K46
abbrev pub pick : ℕ → List Candidate → List Value → Elab ℕ
pick at cs vs = do
  counted at cs vs
  env ← known
  chosen at (best env.types (defs env) cs (map val vs))

abbrev pub entries_of : Env → List ℕ → List FunctionEntry
entries_of env fs = filter_map (slice_get env.entries) fs

abbrev pub call_entry : ℕ → List Value → Option FunctionEntry → Elab Value
call_entry at vs None = breaks 46 at
call_entry at vs (Some f) = do
  env ← known
  args ← arguments at (params_of (fun_at env.types f.type)) f.defaults vs
  called at (result_of (fun_at env.types f.type)) (node.Call at f.link f.type None args)

abbrev pub call_functions : ℕ → List ℕ → List Value → Elab Value
call_functions at fs vs = do
  env ← known
  i ← pick at (map (candidate env.types) (entries_of env fs)) vs
  call_entry at vs (slice_get (entries_of env fs) i)

-- ---- through a pointer

abbrev pub call_pointer : ℕ → Value → ℕ → List Value → Elab Value
call_pointer at p t vs = do
  env ← known
  let ps = params_of (fun_at env.types t) in pick at (record { params = ps; least = length ps } ∷ []) vs
  args ← arguments at (params_of (fun_at env.types t)) [] vs
  called at (result_of (fun_at env.types t)) (node.PointerCall at None p.node t args)

abbrev pub call_sort : ℕ → Value → Sort → List Value → Elab Value
call_sort at v (function_pointer t) vs = call_pointer at v t vs
call_sort at v s vs = breaks 18 at

-- a pointer or reference to a function, or a function: else K18
abbrev pub call_value : ℕ → Value → List Value → Elab Value
call_value at v vs = do
  p ← plain v
  env ← known
  call_sort at p (sort_of env.types p.type) vs
