-- Enumerations (7.2).
use Rattle.std.specs.Prelude.{ℕ, if◌then◌else◌, not, ◌&&◌, ◌||◌, List, [], ◌∷◌, ◌++◌, length, map, ℤ, pos, ◌+ℤ◌, Option, None, Some, is_some, bytes_eq}
use Rattle.std.specs.List.{list_any}
use Rattle.std.specs.Option.{option_map}
use Rattle.cf_base.specs.declared.kind.Kind.TheVariants as kind
use Rattle.cf_base.specs.Integers.{fits}
use Rattle.cf_types.specs.declared.ty.Ty.TheVariants as ty
use Rattle.cf_syntax.specs.declared.expression.Expr.{Expr}
use Rattle.cf_unit.specs.declared.enumeration.EnumDef.{EnumDef}
use Rattle.cf_unit.specs.declared.enumeration.Enumerator.{Enumerator}
use Rattle.cf_elab.specs.Env.{Name, enumerator, enum_name}
use Rattle.cf_elab.specs.Answer.{Elab, ◌>>=◌, ◌>>◌, gives, done, need, known, changed, maybe}
use Rattle.cf_elab.specs.Made.{intern}
use Rattle.cf_elab.specs.Operand.{Value, Part, evaluated}
use Rattle.cf_elab.specs.Expression.{elaborated}
use Rattle.cf_elab.specs.Names.{declare, scoped, is_file_scope}
use Rattle.cf_elab.specs.ClassScope.{has_name, open_class, declare_enum, declare_enumerator}

-- an enumerator as it is written
pub record Item : Type 0 where
  pub at : ℕ
  pub name : Name
  pub value : Option Part

abbrev pub item_of : Enumerator → Item
item_of e = record { at = e.at; name = e.name; value = option_map (λ (x : ℕ × Expr). elaborated x.1) e.value }

-- an enumerator and its value, if the expression is a constant
pub record Counted : Type 0 where
  pub at : ℕ
  pub name : Name
  pub number : Option ℤ

-- without an expression it is one more than the one before, from 0 on
abbrev pub number_of : Option ℤ → Option Value → Option ℤ
number_of next None = next
number_of next (Some v) = v.number

abbrev pub one_more : Option ℤ → Option ℤ
one_more None = None
one_more (Some z) = Some (z +ℤ pos 1)

abbrev pub number_or_zero : Option ℤ → ℤ
number_or_zero None = pos 0
number_or_zero (Some z) = z

-- what an enumerator counts as in the expressions behind it: one past int, which is refused at the end, as 0
abbrev pub int_or_zero : Option ℤ → ℤ
int_or_zero z = if fits kind.Int (number_or_zero z) then number_or_zero z else pos 0

-- its expression, in which it is known itself, without a value (3.2)
abbrev pub own_value : ℕ → Item → Elab (Option Value)
own_value t e = maybe (λ (x : Part). scoped (declare e.name (enumerator t None) >> evaluated x)) e.value

-- the expressions in order, each with the enumerators before it
abbrev pub counted : ℕ → Option ℤ → List Item → Elab (List Counted)
counted t next [] = gives []
counted t next (e ∷ es) = do
  v ← own_value t e
  declare e.name (enumerator t (Some (int_or_zero (number_of next v))))
  rest ← counted t (one_more (number_of next v)) es
  gives (record { at = e.at; name = e.name; number = number_of next v } ∷ rest)

-- what is declared already, in the scope or before in the list
abbrev pub needs_new : Name → ℕ → List Name → Elab (Unit {0})
needs_new name at before = do
  env ← known
  need (not (has_name env name) && not (list_any (bytes_eq name) before)) 8 at

abbrev pub all_new : List Name → List Counted → Elab (Unit {0})
all_new before [] = done
all_new before (c ∷ cs) = needs_new c.name c.at before >> all_new (c.name ∷ before) cs

abbrev pub all_constant : List Counted → Elab (Unit {0})
all_constant [] = done
all_constant (c ∷ cs) = need (is_some c.number) 19 c.at >> all_constant cs

-- a value past int is K5
abbrev pub all_ints : List Counted → Elab (Unit {0})
all_ints [] = done
all_ints (c ∷ cs) = need (fits kind.Int (number_or_zero c.number)) 5 c.at >> all_ints cs

abbrev pub declare_all : ℕ → List Counted → Elab (Unit {0})
declare_all t [] = done
declare_all t (c ∷ cs) = declare_enumerator c.name c.at t (number_or_zero c.number) >> declare_all t cs

abbrev pub own_names : Option (ℕ × Name) → List Name
own_names None = []
own_names (Some n) = n.1 ∷ []

abbrev pub label_name : Option (ℕ × Name) → Option Name → Name
label_name (Some n) alias = n.1
label_name None (Some name) = name
label_name None None = []

abbrev pub name_checked : Option (ℕ × Name) → Elab (Unit {0})
name_checked None = done
name_checked (Some n) = needs_new n.1 n.0 []

abbrev pub name_declared : ℕ → ℕ → Option (ℕ × Name) → Elab (Unit {0})
name_declared e t None = done
name_declared e t (Some n) = declare_enum n.1 n.0 e t

-- its own name is known in the expressions (3.2)
abbrev pub name_known : ℕ → Option (ℕ × Name) → Elab (Unit {0})
name_known e None = done
name_known e (Some n) = declare n.1 (enum_name e)

-- a new enumeration; without a name it has that of the `typedef` that it stands in
abbrev pub new_enum : Name → Elab ℕ
new_enum name = do
  env ← known
  changed (λ env. record env { classes = record env.classes { enums = env.classes.enums ++ record { name = name; outer = open_class env } ∷ [] } })
  gives (length env.classes.enums)

-- The expressions; then K48 for a named one in a block, K8, K19, K5. The type.
abbrev pub enumeration_row : Option Name → ℕ → Option (ℕ × Name) → List Item → Elab ℕ
enumeration_row alias at name list = do
  e ← new_enum (label_name name alias)
  t ← intern (ty.Enum e)
  cs ← scoped (name_known e name >> scoped (counted t (Some (pos 0)) list))
  env ← known
  need (is_file_scope env.scopes || not (is_some name)) 48 at
  name_checked name
  all_new (own_names name) cs
  all_constant cs
  all_ints cs
  name_declared e t name
  declare_all t cs
  gives t

abbrev pub enumeration : Option Name → EnumDef → Elab ℕ
enumeration alias d = enumeration_row alias d.at d.name (map item_of d.enumerators)
