-- Specifiers and declarators to a type: bounds and parameters first, then K24, then K26 over the whole declarator, then K19 (7.1, 8.1, 8.2).
use Rattle.std.specs.Prelude.{ℕ, Bool, true, false, not, ◌&&◌, if◌then◌else◌, List, [], ◌∷◌, Option, None, Some, is_some}
use Rattle.cf_syntax.specs.declared.name.Name.{Name as WrittenName}
use Rattle.cf_syntax.specs.declared.specifier.ClassKey.{ClassKey}
use Rattle.cf_syntax.specs.declared.specifier.ClassKey.TheVariants as key
use Rattle.cf_syntax.specs.declared.specifier.Pointer.{Pointer}
use Rattle.cf_syntax.specs.declared.specifier.Pointer.TheVariants as pointer
use Rattle.cf_syntax.specs.declared.specifier.TypeSpecifier.{TypeSpecifier}
use Rattle.cf_syntax.specs.declared.specifier.TypeSpecifier.TheVariants as specifier
use Rattle.cf_syntax.specs.declared.declarator.DeclTree.TheOpen.{DeclTree-F}
use Rattle.cf_syntax.specs.declared.declarator.Param.{Param-F}
use Rattle.cf_syntax.specs.declared.declarator.TypeId.{TypeId-F}
use Rattle.cf_convert.specs.Constness as constness
use Rattle.cf_elab.specs.Env.{Env}
use Rattle.cf_elab.specs.Answer.{Elab, ◌>>=◌, ◌>>◌, gives, need, none_at, known, each, maybe, hand_changed}
use Rattle.cf_elab.specs.Made.{pointer_to}
use Rattle.cf_elab.specs.Operand.{Part, evaluated, Sort, array_sort, enumeral, class_sort, sort_of, is_void, is_function}
use Rattle.cf_elab.specs.Paths.{type_at_path, keyed_type, class_at_path}
use Rattle.cf_elab.specs.Specifiers.{Word, stored_as, const_word, basic_word, type_word, gathered, base_type, is_stored, parameter_conflict, type_conflict}
use Rattle.cf_elab.specs.Shape.{Given, Parameter, Shape, inner, pointing, referring, to_member, taking, holding, nowhere, Shaped, whole, unbounded, typed, bounds_constant}

-- ---- specifiers

-- `enum E` and `class A`: the type by that key, else K10 (7.1.6)
abbrev pub of_key : ClassKey → Sort → Bool
of_key key.Enum (enumeral e) = true
of_key key.Class (class_sort c) = true
of_key key.Struct (class_sort c) = true
of_key k s = false

abbrev pub elaborated : ℕ → ClassKey → ℕ → Elab ℕ
elaborated at k t = do
  env ← known
  need (of_key k (sort_of env.types t)) 10 at
  gives t

abbrev pub word_of : TypeSpecifier → Elab Word
word_of (specifier.Storage at s) = gives (stored_as at s)
word_of (specifier.Const at) = gives (const_word at)
word_of (specifier.Basic at b) = gives (basic_word at b)
word_of (specifier.Elaborated at k path) = do
  t ← keyed_type path
  u ← elaborated path.at k t
  gives (type_word at u)
word_of (specifier.Named path) = do
  t ← type_at_path path
  gives (type_word path.at t)

abbrev pub words_of : List TypeSpecifier → Elab (List Word)
words_of list = each word_of list

-- ---- declarators

-- what a declarator is to the declaration around it
pub record Declared : Type 0 where
  pub name : Option WrittenName
  pub shape : Elab Shape

abbrev pub pointed : Pointer → Shape → Elab Shape
pointed (pointer.To at is_const) s = gives (pointing at is_const s)
pointed (pointer.Reference at) s = gives (referring at s)
pointed (pointer.ToMember at path is_const) s = do
  c ← class_at_path path
  gives (to_member at c is_const s)

-- `(void)` has no parameters (8.2.5): the type alone, without const, a storage word, a name and a default argument
abbrev pub is_nothing : Env → Parameter → Bool
is_nothing env p =
    is_void (sort_of env.types p.type) && not (constness.is_const env.types p.type) && not p.is_stored && not (is_some p.name) && not (is_some p.default)

abbrev pub named_at : Parameter → ℕ
named_at p = elim p.name [ None ↦ p.at | Some n ↦ n.last_at ]

abbrev pub no_void : Parameter → Elab (Unit {0})
no_void p = known >>= (λ env. need (not (is_void (sort_of env.types p.type))) 26 (named_at p))

-- each is an object, before the next is looked at
abbrev pub object_parameter : Elab Parameter → Elab Parameter
object_parameter run = do
  p ← run
  no_void p
  gives p

abbrev pub only_parameter : Parameter → Elab (List Parameter)
only_parameter p = known >>= (λ env. if is_nothing env p then gives [] else (no_void p >> gives (p ∷ [])))

abbrev pub parameters : List (Elab Parameter) → Elab (List Parameter)
parameters (run ∷ []) = run >>= only_parameter
parameters runs = each object_parameter runs

abbrev pub declared_step : DeclTree-F Declared Part (Elab Parameter) (Elab ℕ) → Declared
declared_step DeclTree-F.Unnamed = record { name = None; shape = gives inner }
declared_step (DeclTree-F.Declared n) = record { name = Some n; shape = gives inner }
declared_step (DeclTree-F.Pointed p d) = record { name = d.name; shape = d.shape >>= pointed p }
declared_step (DeclTree-F.Bracketed at d) = d
declared_step (DeclTree-F.Function at d ps is_const) = record {
  name = d.name;
  shape = d.shape >>= (λ s. parameters ps >>= (λ qs. gives (taking at qs is_const s)));
}
declared_step (DeclTree-F.Array at d bound) = record {
  name = d.name;
  shape = d.shape >>= (λ s. maybe evaluated bound >>= (λ b. gives (holding at b s)));
}

-- ---- parameters

-- an array bound may be left out, and the type is that of a pointer (8.2.5)
abbrev pub as_object : Shaped → Elab ℕ
as_object (whole t) = known >>= (λ env. adjusted (sort_of env.types t) t)
  where
    array_as_pointer : ℕ → Sort → Elab ℕ
    array_as_pointer t (array_sort u n) = pointer_to u
    array_as_pointer t other = gives t

    adjusted : Sort → ℕ → Elab ℕ
    adjusted s t = elim (is_function s) [ true ↦ pointer_to t | false ↦ array_as_pointer t s ]
as_object (unbounded t) = pointer_to t

-- a default argument counts its literals from 0
abbrev pub given_value : ℕ → Part → Elab Given
given_value at e = do
  before ← known
  hand_changed (λ h. record h { literals = 0 })
  v ← evaluated e
  behind ← known
  hand_changed (λ h. record h { literals = before.hand.literals })
  gives (record { at = at; value = v; literals = behind.hand.literals })

abbrev pub parameter_step : Param-F Declared Part (Elab Parameter) (Elab ℕ) → Elab Parameter
parameter_step p = do
  ws ← words_of p.specifiers
  s ← p.declarator.shape
  none_at (parameter_conflict (gathered ws)) 24
  base ← base_type (gathered ws)
  t ← typed (record { unbounded = true; const_function = false }) s base
  bounds_constant s
  u ← as_object t
  d ← maybe (λ (x : ℕ × Part). given_value x.0 x.1) p.default
  gives (record { at = p.at; name = p.declarator.name; type = u; default = d; is_stored = is_stored (gathered ws) })

-- ---- types in brackets

abbrev pub only_whole : Shaped → Elab ℕ
only_whole (whole t) = gives t
only_whole (unbounded t) = gives t

abbrev pub type_from : List TypeSpecifier → Elab Shape → Elab ℕ
type_from specifiers shape = do
  ws ← words_of specifiers
  s ← shape
  none_at (type_conflict (gathered ws)) 24
  base ← base_type (gathered ws)
  t ← typed nowhere s base
  bounds_constant s
  only_whole t

abbrev pub type_id_step : TypeId-F Declared Part (Elab Parameter) (Elab ℕ) → Elab ℕ
type_id_step t = type_from t.specifiers t.declarator.shape
