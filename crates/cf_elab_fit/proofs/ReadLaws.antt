-- Values that are read, and arrays and functions as pointers.
use Rattle.std.proofs.Common.{◌≡◌, ℕ, ℤ, Bool, true, false, Option, None, Some, slice_get, if◌then◌else◌, refl, sym, ap, subst, ◌∙◌}
use Rattle.std.specs.Option.{option_map_or}
use Rattle.cf_types.specs.declared.ty.Ty.TheVariants as ty
use Rattle.cf_types.specs.Table.{Table, IsTable}
use Rattle.cf_convert.specs.Constness.{bare}
use Rattle.cf_core.specs.declared.node.Core.TheVariants as node
use Rattle.cf_elab.specs.Answer.{Answer, Made, onward, gives}
use Rattle.cf_elab.specs.Env.{Env}
use Rattle.cf_elab.specs.Operand.{Value, read_node, read_value, sort_of, plain_sort}
use Rattle.cf_elab_env.specs.Holds.{Known, IsType, IsSort, FitsIn}
use Rattle.cf_elab_env.specs.Seen.{sort_seen}
use Rattle.cf_elab_env.specs.declared.sort.Sort.{Sort}
use Rattle.cf_elab_env.specs.declared.sort.Sort.TheVariants as sort
use Rattle.cf_elab_env.specs.Shut as made
use Rattle.cf_elab_env.proofs.Growth.{bare-known}
use Rattle.cf_elab_env.proofs.Bare.{known_bare, pointer_known}
use Rattle.cf_elab_fit.specs.Shut as shut
use Rattle.cf_elab_fit.specs.Steps.{StaysKnown}

-- ---- reading

pub node_known : (v : Value) (z : ℤ) → v.number ≡ Some z → read_node v ≡ node.Number v.at z
node_known v z h = ap (λ n. option_map_or (λ z. node.Number v.at z) n (node.Read v.at v.node)) h

pub node_read : (v : Value) → v.number ≡ None → read_node v ≡ node.Read v.at v.node
node_read v h = ap (λ n. option_map_or (λ z. node.Number v.at z) n (node.Read v.at v.node)) h

pub read_place : (types : Table) (v : Value) → v.is_lvalue ≡ true
    → read_value types v ≡ record v { node = read_node v; type = bare types v.type; is_lvalue = false; is_fixed = false }
read_place types v h =
    ap (λ b. if b then record v { node = read_node v; type = bare types v.type; is_lvalue = false; is_fixed = false } else record v { type = bare types v.type }) h

pub read_result : (types : Table) (v : Value) → v.is_lvalue ≡ false → read_value types v ≡ record v { type = bare types v.type }
read_result types v h =
    ap (λ b. if b then record v { node = read_node v; type = bare types v.type; is_lvalue = false; is_fixed = false } else record v { type = bare types v.type }) h

pub read_known : (types : Table) (v r : Value) → IsTable types → Known types v → r ≡ read_value types v → Known types r
read_known types v r table k e = subst (Known types) (sym e) (by v.is_lvalue)
  where
    typed : IsType types (bare types v.type)
    typed = bare-known types v.type table k.typed

    number : FitsIn types (bare types v.type) v.number
    number = known_bare types table v.type k.typed v.number k.number

    by : (b : Bool) → Known types (if b then record v { node = read_node v; type = bare types v.type; is_lvalue = false; is_fixed = false } else record v { type = bare types v.type })
    by true = record { typed = typed; number = number }
    by false = record { typed = typed; number = number }

-- ---- pointers

pub decayed_made : (v : Value) (t p : ℕ) (env next : Env) → made.pointer_to t env ≡ Made p next
    → shut.decayed v t env ≡ Made (record v { node = node.Decay v.at v.node; type = p; is_lvalue = false }) next
unfolding shut.decayed made.pointer_to
decayed_made v t p env next h = ap (λ a. onward a (λ p. gives (record v { node = node.Decay v.at v.node; type = p; is_lvalue = false }))) h

pub decayed_known : (types : Table) (v : Value) (t : ℕ) → IsType types v.type → slice_get types.types v.type ≡ Some (ty.Ptr t) → Known types v
decayed_known types v t typed at = record { typed = typed; number = pointer_known types v.type t v.number at }

-- ---- by the sort of the type

pub plain_array : (v : Value) (s : Sort) (t n : ℕ) (env : Env) (r : Answer Value) → s ≡ sort.Array t n → sort_seen s ≡ sort_of env.types v.type → shut.decayed v t env ≡ r
    → shut.plain v env ≡ r
unfolding shut.plain shut.decayed
plain_array v s t n env r is e h = ap (λ s. plain_sort env.types v s env) (sym e ∙ ap sort_seen is) ∙ h

pub plain_function : (v : Value) (s : Sort) (f : ℕ) (env : Env) (r : Answer Value) → s ≡ sort.Function f → sort_seen s ≡ sort_of env.types v.type
    → shut.decayed v (bare env.types v.type) env ≡ r → shut.plain v env ≡ r
unfolding shut.plain shut.decayed
plain_function v s f env r is e h = ap (λ s. plain_sort env.types v s env) (sym e ∙ ap sort_seen is) ∙ h

pub plain_read : (v x : Value) (s : Sort) (env : Env) → ((t n : ℕ) → s ≡ sort.Array t n → ⊥) → ((f : ℕ) → s ≡ sort.Function f → ⊥) → sort_seen s ≡ sort_of env.types v.type
    → x ≡ read_value env.types v → shut.plain v env ≡ Made x env
unfolding shut.plain
plain_read v x s env no_array no_function e is = ap (λ s. plain_sort env.types v s env) (sym e) ∙ by s no_array no_function ∙ ap (λ x. Made x env) (sym is)
  where
    by : (s : Sort) → ((t n : ℕ) → s ≡ sort.Array t n → ⊥) → ((f : ℕ) → s ≡ sort.Function f → ⊥) → plain_sort env.types v (sort_seen s) env ≡ Made (read_value env.types v) env
    by (sort.Array t n) a f = absurd (a t n refl)
    by (sort.Function g) a f = absurd (f g refl)
    by (sort.Integral k) a f = refl
    by (sort.Enumeral k) a f = refl
    by (sort.ObjectPointer t) a f = refl
    by sort.VoidPointer a f = refl
    by (sort.FunctionPointer t) a f = refl
    by sort.Void a f = refl
    by (sort.Reference t) a f = refl

pub element_known : (types : Table) (s : Sort) (t n : ℕ) → s ≡ sort.Array t n → IsSort types s → IsType types t
element_known types s t n is h = subst (IsSort types) is h

pub known_again : (old new : Table) (v r : Value) → StaysKnown old v new r → Known old v → Known new r
known_again old new v r stays known = stays.by known

pub pointer_stays : (old new : Table) (v r : Value) → Known new r → StaysKnown old v new r
pointer_stays old new v r known = record { by = λ k. known }

pub read_stays : (types : Table) (v r : Value) → IsTable types → r ≡ read_value types v → StaysKnown types v types r
read_stays types v r table e = record { by = λ k. read_known types v r table k e }

pub ruleset plain_laws = (plain_array, plain_function, plain_read, element_known, pointer_stays, read_stays)
