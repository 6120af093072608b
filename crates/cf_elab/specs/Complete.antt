-- Complete types, and the limits on types and names (9.1).
use Rattle.std.specs.Prelude.{ℕ, ◌+◌, Bool, true, false, nat_le, ◌^◌, List, [], ◌∷◌, drop, length, is_some}
use Rattle.std.specs.List.{list_all}
use Rattle.std.specs.Option.{option_map_or}
use Rattle.cf_base.specs.declared.limit.Bound.{Bound}
use Rattle.cf_base.specs.declared.limit.Bound.TheVariants as bound
use Rattle.cf_classes.specs.ClassTable.{definition}
use Rattle.cf_classes.specs.Layout.{extent}
use Rattle.cf_classes.specs.TypeTree.{class_in}
use Rattle.cf_elab.specs.Env.{Env, Name}
use Rattle.cf_elab.specs.Answer.{Elab, ◌>>=◌, done, passes, known}
use Rattle.cf_elab.specs.Operand.{defs}

-- whether no class that isn't defined is in an object of the type
abbrev pub complete : Env → ℕ → Bool
complete env t = option_map_or (λ c. is_some (definition (defs env) c)) (class_in env.types t) true

abbrev pub bytes_of : Env → ℕ → ℕ
bytes_of env t = (extent env.types (defs env) t).size

-- the greatest size of a type and the greatest length of a link name
abbrev pub most_bytes : ℕ
most_bytes = 2 ^ 22

abbrev pub most_name : ℕ
most_name = 2 ^ 20

abbrev pub within : Bool → Bound → ℕ → Elab (Unit {0})
within true b most = done
within false b most = passes b most

-- no type is larger: this one, and those that were made since the table had so many
abbrev pub type_within : ℕ → Elab (Unit {0})
type_within t = known >>= (λ env. within (nat_le (bytes_of env t) most_bytes) bound.Size most_bytes)

-- the numbers of the items of a list whose first has this number
abbrev pub numbers_from : {A : Type 0} → ℕ → List A → List ℕ
numbers_from n [] = []
numbers_from n (x ∷ xs) = n ∷ numbers_from (n + 1) xs

abbrev pub types_within : ℕ → Elab (Unit {0})
types_within count =
    known >>= (λ env. within (list_all (λ t. nat_le (bytes_of env t) most_bytes) (numbers_from count (drop count env.types.types))) bound.Size most_bytes)

abbrev pub name_within : Name → Elab (Unit {0})
name_within name = within (nat_le (length name) most_name) bound.Names most_name
