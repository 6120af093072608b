-- Which entities have link names, and which entity a link name stands for.
use Rattle.std.specs.Prelude.{◌≡◌, ℕ, Bool, true, false, not, ◌&&◌, ◌||◌, nat_eq, nat_lt, is_none, List, [], ◌∷◌, codes, Option, None, Some, IsTrue, length, ◌^◌}
use Rattle.std.specs.Cmp.Lexicographic.{pointwise}
use Rattle.std.specs.List.{list_all}
use Rattle.cf_tokens.specs.Class.{is_letter, is_digit}
use Rattle.cf_tokens.specs.Name.{has_double, keyword_of}
use Rattle.cf_classes.specs.LinkName.{Code, Void, Integer, Named, Pointer, Reference, Const, Array, Function, Member, Codes, none, more, Called, Main, Variable, Plain, Operator, Constructor, Destructor, Conversion, Entity, link_name}

abbrev begins_name : List ℕ → Bool
begins_name [] = false
begins_name (b ∷ bs) = is_letter b

-- an identifier without `__`, of any length that memory holds (2.3)
abbrev pub is_identifier : List ℕ → Bool
is_identifier name = nat_lt (length name) (2 ^ 64) && begins_name name && list_all (λ b. is_letter b || is_digit b) name && not (has_double name) && is_none (keyword_of name)

abbrev pub nonempty : List (List ℕ) → Bool
nonempty [] = false
nonempty (x ∷ xs) = true

abbrev pub are_names : List (List ℕ) → Bool
are_names names = list_all is_identifier names

-- the names that lead to a class or enumeration
abbrev pub leads : List (List ℕ) → Bool
leads names = nonempty names && nat_lt (length names) (2 ^ 64) && are_names names

-- const of a const, of an array, of a reference and of a function is written otherwise
abbrev pub takes_const : Code → Bool
takes_const (Const t) = false
takes_const (Array n t) = false
takes_const (Reference t) = false
takes_const (Function c ps r) = false
takes_const other = true

-- whether a code is that of a type; a count of elements has 32 bits
abbrev mutual
  pub is_type : Code → Bool
  is_type Void = true
  is_type (Integer k) = true
  is_type (Named names) = leads names
  is_type (Pointer t) = is_type t
  is_type (Reference t) = is_type t
  is_type (Const t) = takes_const t && is_type t
  is_type (Array n t) = nat_lt n (2 ^ 32) && is_type t
  is_type (Function c ps r) = are_types ps && is_type r
  is_type (Member names t) = leads names && is_type t

  pub are_types : Codes → Bool
  are_types none = true
  are_types (more t ts) = is_type t && are_types ts

-- a parameter is not const itself, no array, no function and not `void` (8.2.5)
abbrev pub is_parameter : Code → Bool
is_parameter Void = false
is_parameter (Const t) = false
is_parameter (Array n t) = false
is_parameter (Function c ps r) = false
is_parameter other = true

abbrev pub are_parameters : Codes → Bool
are_parameters none = true
are_parameters (more t ts) = is_parameter t && is_type t && are_parameters ts

abbrev pub no_parameters : Codes → Bool
no_parameters none = true
no_parameters (more t ts) = false

-- a function outside classes may not be called `main`: that one is an entity of its own
abbrev pub is_main : List ℕ → Bool
is_main name = pointwise nat_eq name (codes "main")

abbrev pub same : Bool → Bool → Bool
same true b = b
same false b = not b

-- what each kind of entity asks
abbrev pub fits : Called → Entity → Bool
fits Main e = not (nonempty e.scope) && no_parameters e.params && not e.is_const && not e.is_static
fits (Variable name) e = is_identifier name && no_parameters e.params && not e.is_const && same e.is_static (nonempty e.scope)
fits (Plain name) e = is_identifier name && (nonempty e.scope || not (is_main name))
fits (Operator n) e = nat_lt n 38
fits Constructor e = nonempty e.scope
fits Destructor e = nonempty e.scope && no_parameters e.params
fits (Conversion t) e = nonempty e.scope && no_parameters e.params && is_type t

-- an entity that has a link name; const and static are not both set, and each needs a scope
abbrev pub is_well_formed : Entity → Bool
is_well_formed e =
    nat_lt (length e.scope) (2 ^ 64) && are_names e.scope && are_parameters e.params && fits e.what e && not (e.is_const && e.is_static) && (nonempty e.scope || not (e.is_const || e.is_static))

-- what a link name stands for: the well-formed entity that has it, or none where there is none
abbrev pub Decodes : List ℕ → Option Entity → Type 0
Decodes name (Some e) = IsTrue (is_well_formed e) × (link_name e ≡ name)
Decodes name None = (e : Entity) → IsTrue (is_well_formed e) → link_name e ≡ name → ⊥

-- entities that differ have link names that differ
abbrev pub AreApart : Type 0
AreApart = (e f : Entity) → IsTrue (is_well_formed e) → IsTrue (is_well_formed f) → link_name e ≡ link_name f → e ≡ f
