-- The class whose members are being declared (9.2), and names that are declared in it or in a scope.
use Rattle.std.specs.Prelude.{ℕ, ◌+◌, Bool, true, false, if◌then◌else◌, List, [], ◌∷◌, ◌++◌, length, ℤ, Option, None, Some, is_some, bytes_eq}
use Rattle.std.specs.List.{list_any, find}
use Rattle.cf_classes.specs.declared.class.Access.{Access}
use Rattle.cf_classes.specs.declared.class.Access.TheVariants as access
use Rattle.cf_classes.specs.declared.class.Friend.{Friend}
use Rattle.cf_classes.specs.declared.class.MemberDef.{MemberDef}
use Rattle.cf_classes.specs.declared.class.What.{What}
use Rattle.cf_classes.specs.declared.class.What.TheVariants as what
use Rattle.cf_elab.specs.Env.{Env, Name, OpenClass, alias, class_name, enum_name, enumerator, static_body}
use Rattle.cf_elab.specs.Access.{Asker, inside}
use Rattle.cf_elab.specs.Answer.{Elab, ◌>>=◌, ◌>>◌, gives, done, known, changed, hand_changed}
use Rattle.cf_elab.specs.Names.{declare, declared_here}

abbrev pub in_class : Env → Bool
in_class env = elim env.open_classes [ [] ↦ false | o ∷ rest ↦ true ]

abbrev pub innermost_changed : (OpenClass → OpenClass) → List OpenClass → List OpenClass
innermost_changed f [] = []
innermost_changed f (o ∷ rest) = f o ∷ rest

abbrev pub class_changed : (OpenClass → OpenClass) → Elab (Unit {0})
class_changed f = changed (λ env. record env { open_classes = innermost_changed f env.open_classes })

abbrev pub members_so_far : Env → List MemberDef
members_so_far env = elim env.open_classes [ [] ↦ [] | o ∷ rest ↦ o.def.members ]

abbrev pub access_now : Env → Access
access_now env = elim env.open_classes [ [] ↦ access.Public | o ∷ rest ↦ o.access ]

abbrev pub open_class : Env → Option ℕ
open_class env = elim env.open_classes [ [] ↦ None | o ∷ rest ↦ Some o.class ]

-- whose uses of members are looked at from here on
abbrev pub asked_by : Asker → Elab (Unit {0})
asked_by who = hand_changed (λ h. record h { asker = who })

-- the member that is declared next asks
abbrev pub next_member : Asker → Asker
next_member (inside m) = inside (record m { index = m.index + 1 })
next_member other = other

-- a member is the next of its class
abbrev pub add_member : MemberDef → Elab ℕ
add_member m = do
  env ← known
  class_changed (λ o. record o { def = record o.def { members = o.def.members ++ m ∷ [] } })
  asked_by (next_member env.hand.asker)
  gives (length (members_so_far env))

abbrev pub add_friend : Friend → Elab (Unit {0})
add_friend f = class_changed (λ o. record o { def = record o.def { friends = o.def.friends ++ f ∷ [] } })

abbrev pub declares_member : Env → Name → Bool
declares_member env name = list_any (λ (m : MemberDef). bytes_eq m.name name) (members_so_far env)

-- the first member of the name
abbrev pub member_named : Env → Name → Option MemberDef
member_named env name = find (λ (m : MemberDef). bytes_eq m.name name) (members_so_far env)

-- whether the innermost scope, or the class whose members are declared, has the name
abbrev pub has_name : Env → Name → Bool
has_name env name = if in_class env then declares_member env name else is_some (declared_here env name)

abbrev pub plain_member : Env → Name → ℕ → What → ℕ → MemberDef
plain_member env name at w t = record {
  name = name;
  what = w;
  ty = t;
  access = access_now env;
  is_static = false;
  is_virtual = false;
  is_pure = false;
  is_inline = false;
  defaults = 0;
  at = at;
}

abbrev pub add_plain : Name → ℕ → What → ℕ → Elab (Unit {0})
add_plain name at w t = do
  env ← known
  i ← add_member (plain_member env name at w t)
  done

-- a name of a type
abbrev pub declare_alias : Name → ℕ → ℕ → Elab (Unit {0})
declare_alias name at t = known >>= (λ env. if in_class env then add_plain name at what.Alias t else declare name (alias t))

-- an enumeration's name
abbrev pub declare_enum : Name → ℕ → ℕ → ℕ → Elab (Unit {0})
declare_enum name at e t = known >>= (λ env. if in_class env then add_plain name at what.Alias t else declare name (enum_name e))

abbrev pub declare_enumerator : Name → ℕ → ℕ → ℤ → Elab (Unit {0})
declare_enumerator name at t z = known >>= (λ env. if in_class env then add_plain name at (what.Enumerator z) t else declare name (enumerator t (Some z)))

-- a class's name
abbrev pub declare_class : Name → ℕ → ℕ → ℕ → Elab (Unit {0})
declare_class name at c t = known >>= (λ env. if in_class env then add_plain name at (what.Nested c) t else declare name (class_name c))

-- the class whose scope a qualified declarator opens (9.3)
abbrev pub in_class_scope : {A : Type 0} → ℕ → Elab A → Elab A
in_class_scope c run = do
  before ← known
  hand_changed (λ h. record h { kind = static_body c; asker = inside (record { class = c; index = 0 }) })
  a ← run
  hand_changed (λ h. record h { kind = before.hand.kind; asker = before.hand.asker })
  gives a
