-- What actions name is known: the literals of their function, and what the file declares.
use Rattle.std.proofs.Common.{◌≡◌, ℕ, Bool, true, false, not, ◌||◌, List, [], ◌∷◌, ◌++◌, length, map, refl, ap, sym, subst, ◌∙◌, inl, inr, ◌⊎◌, ◌&&◌}
use Rattle.std.specs.Prelude.{Some, bytes_eq, codes}
use Rattle.std.specs.List.{list_any, flat_map}
use Rattle.std.proofs.lemmas.Bool.{or_cases}
use Rattle.cf_base.proofs.Tests.{both, same_bytes}
use Rattle.cf_core.specs.Types.{Name, SourceType}
use Rattle.cf_core.specs.Calls as source
use Rattle.cf_plain.specs.Plain as plain
use Rattle.cf_plain.specs.Plain.{Action, PlainFunction, PlainStatic, PlainFile}
use Rattle.cf_plain.specs.Named.{all_actions}
use Rattle.cc_whole.specs.declared.types.CVariableType.{CVariableType}
use Rattle.cc_whole.specs.declared.types.CVariableType.TheVariants as variable
use Rattle.cc_whole.specs.declared.unit.CInitialiser.TheVariants as initialiser
use Rattle.cc_whole.specs.declared.unit.CVariable.{CVariable}
use Rattle.cc_whole.specs.Types.{value_type}
use Rattle.cc_whole.specs.Known.{Meant, Named, function, object, lookup, is_main, is_helper, is_library}
use Rattle.cc_whole.specs.Plain.{Item, declares, declares_variable, defines_variable}
use Rattle.cc_whole.specs.Valid.{named_by}
use Rattle.cf_lower.specs.Written.{int_constant, variable_type, literal_name}
use Rattle.cf_lower.specs.Functions.{prototype_of, owner_of, but_last, literal_at, declared_at, lowered_static, literals, start_literals, own_prototypes, own_variables, named_in}
use Rattle.cf_lower_program.specs.Names.{own_fronts, is_own_name, begins_with_digit, ends_as_file, is_foreign, is_function_name, is_object_name, may_be_function, may_be_object}
use Rattle.cf_lower_program.specs.Lowerable.{Lowerable}
use Rattle.cf_lower_valid_body.specs.Scope.{NamesObject, NamesFunction}
use Rattle.cc_whole_sections.specs.Sections.{In, Every, Stands}
use Rattle.cc_whole_sections.proofs.Names.{in-left, in-right}
use Rattle.cf_lower_valid.proofs.Digits.{decimal-begins}
use Rattle.cf_lower_valid.proofs.Inner.{mapped-in}
use Rattle.cf_lower_valid.proofs.Spans.{none-any}
use Rattle.cf_lower_valid.proofs.Own.{in-flat}
use Rattle.cf_lower_valid.proofs.Scopes.{local_fronts, is_outer}
use Rattle.cf_lower_valid.proofs.Tests.{file_of, five-parts, tested, names-told}
use Rattle.cf_lower_valid.proofs.Once.{any-none, no-not}
use Rattle.cf_lower_valid.proofs.Agreeing.{is-object, is-function, same-signature}
use Rattle.cf_lower_valid.proofs.Known.{wanted}
use Rattle.cf_lower_valid.proofs.Constants.{Naming}

-- ---- names

-- a name of the source that is none of the C's own
pub record Foreign (y : Name) : Type 0 where
  pub outer : is_outer y ≡ false
  pub no_literal : is_own_name (codes "__s") y ≡ false
  pub no_helper : is_helper y ≡ false
  pub no_library : is_library y ≡ false
  pub no_main : is_main y ≡ false

-- the tests of a name but the last
pub foreign-parts : (y : Name) → is_foreign y ≡ true → (not (list_any (λ front. is_own_name front y) own_fronts) ≡ true) × (not (is_helper y) ≡ true)
    × (not (bytes_eq y (codes "__sti")) ≡ true) × (not (is_library y) ≡ true) × (not (is_main y) ≡ true)
foreign-parts y e =
    let a = not (list_any (λ front. is_own_name front y) own_fronts) in
    let b = not (is_helper y) in
    let c = not (bytes_eq y (codes "__sti")) in
    let d = not (is_library y) in
    five-parts a b c d (not (is_main y)) (both (a && b && c && d && not (is_main y)) (not (ends_as_file y)) e).0

foreign : (y : Name) → is_foreign y ≡ true → Foreign y
foreign y e =
    let all = foreign-parts y e in
    let apart = none-any (λ front. is_own_name front y) own_fronts (no-not (list_any (λ front. is_own_name front y) own_fronts) all.0) in
    record {
      outer = any-none (λ front. is_own_name front y) local_fronts (λ front h. apart front (in-left front local_fronts (codes "__s" ∷ []) h));
      no_literal = apart (codes "__s") (in-right (codes "__s") local_fronts (codes "__s" ∷ []) (inl refl));
      no_helper = no-not (is_helper y) all.1;
      no_library = no-not (is_library y) all.3;
      no_main = no-not (is_main y) all.4;
    }

pub function-foreign : (y : Name) → may_be_function y ≡ true → Foreign y
function-foreign y e = foreign y (both (is_foreign y) (is_function_name y) e).0

pub object-foreign : (y : Name) → may_be_object y ≡ true → Foreign y
object-foreign y e = foreign y (both (is_foreign y) (is_object_name y) e).0

-- of literals
literal-outer : (f : Name) (j : ℕ) → is_outer (literal_name f j) ≡ false
literal-outer f j = refl

pub literal-own : (f : Name) (j : ℕ) → is_own_name (codes "__s") (literal_name f j) ≡ true
literal-own f j =
    let b = decimal-begins j in
    ap (λ ds. begins_with_digit (ds ++ codes "__" ++ f)) b.is ∙ (let h = b.is_digit in h)

record MayBeCalled (y : Name) : Type 0 where
  outer : is_outer y ≡ false
  no_main : is_main y ≡ false

by-three : (P : Type 0) (a b c : Bool) → (a || b || c) ≡ true → (a ≡ true → P) → (b ≡ true → P) → (c ≡ true → P) → P
by-three P true b c e f g h = f refl
by-three P false true c e f g h = g refl
by-three P false false true e f g h = h refl
by-three P false false false e f g h = absurd (cc)

library-called : (y : Name) → source.is_library y ≡ true → MayBeCalled y
library-called y e =
    by-three (MayBeCalled y) (bytes_eq y (codes "putchar")) (bytes_eq y (codes "getchar")) (bytes_eq y (codes "exit")) e
    (λ h. is-it (codes "putchar") h (record { outer = refl; no_main = refl }))
    (λ h. is-it (codes "getchar") h (record { outer = refl; no_main = refl }))
    (λ h. is-it (codes "exit") h (record { outer = refl; no_main = refl }))
  where
    is-it : (z : Name) → bytes_eq y z ≡ true → MayBeCalled z → MayBeCalled y
    is-it z h m = subst MayBeCalled (sym (same_bytes y z h)) m

may-be-called : (y : Name) → (source.is_library y || may_be_function y) ≡ true → MayBeCalled y
may-be-called y e = go (or_cases (source.is_library y) (may_be_function y) e)
  where
    go : (source.is_library y ≡ true) ⊎ (may_be_function y ≡ true) → MayBeCalled y
    go (inl h) = library-called y h
    go (inr h) = let f = function-foreign y h in record { outer = f.outer; no_main = f.no_main }

-- ---- what the file declares

-- a literal of a function
abbrev literal_variable : Name → Bool → Bool → ℕ → List ℕ → CVariable
literal_variable f s l j b = record {
  is_shared = s;
  is_static = l;
  ty = variable.Chars (int_constant (length b));
  name = literal_name f j;
  initialiser = Some (initialiser.Text (but_last b));
}

module _ (fs : List PlainFunction) (xs : List PlainStatic) (low : Lowerable (file_of fs xs)) where
  abbrev file : PlainFile
  file = file_of fs xs

  abbrev of_functions : List Item
  of_functions = flat_map (λ (f : PlainFunction). flat_map (declared_at []) (all_actions f.body)) fs

  abbrev of_statics : List Item
  of_statics = flat_map (λ (x : PlainStatic). flat_map (declared_at []) (all_actions x.start)) xs

  abbrev variables : List CVariable
  variables = map (lowered_static []) xs ++ flat_map literals fs ++ flat_map start_literals xs

  -- what an action names stands among what was tested
  pub record Declared (owner : Name) (s l : Bool) (a : Action) : Type 0 where
    pub names : Every (λ i. In i (named_in file)) (declared_at [] a)
    pub texts : Every (λ v. In (defines_variable v) (tested fs xs low)) (literal_at owner s l a)

  variable-tested : (v : CVariable) → In v variables → In (defines_variable v) (tested fs xs low)
  variable-tested v h =
      in-left (defines_variable v) (own_prototypes file ++ own_variables file) (named_in file)
      (in-right (defines_variable v) (own_prototypes file) (own_variables file) (mapped-in defines_variable v variables h))

  pub declared-in-function : (f : PlainFunction) (a : Action) → In f fs → In a (all_actions f.body) → Declared f.name f.is_shared f.is_local a
  declared-in-function f a h m = record {
    names = λ i k.
        in-left i of_functions of_statics
        (in-flat (λ (f : PlainFunction). flat_map (declared_at []) (all_actions f.body)) f i fs h (in-flat (declared_at []) a i (all_actions f.body) m k));
    texts = λ v k.
        variable-tested v
        (in-left v (map (lowered_static []) xs ++ flat_map literals fs) (flat_map start_literals xs)
        (in-right v (map (lowered_static []) xs) (flat_map literals fs)
        (in-flat literals f v fs h (in-flat (literal_at f.name f.is_shared f.is_local) a v (all_actions f.body) m k))));
  }

  pub declared-in-static : (x : PlainStatic) (a : Action) → In x xs → In a (all_actions x.start) → Declared (owner_of x) x.is_shared (x.is_local || not x.is_shared) a
  declared-in-static x a h m = record {
    names = λ i k.
        in-right i of_functions of_statics
        (in-flat (λ (x : PlainStatic). flat_map (declared_at []) (all_actions x.start)) x i xs h (in-flat (declared_at []) a i (all_actions x.start) m k));
    texts = λ v k.
        variable-tested v
        (in-right v (map (lowered_static []) xs ++ flat_map literals fs) (flat_map start_literals xs)
        (in-flat start_literals x v xs h (in-flat (literal_at (owner_of x) x.is_shared (x.is_local || not x.is_shared)) a v (all_actions x.start) m k)));
  }

  named-tested : (i : Item) → In i (named_in file) → In i (tested fs xs low)
  named-tested i h = in-right i (own_prototypes file ++ own_variables file) (named_in file) h

  -- ---- names in front of which those of a function may stand

  module _ (names old : List Named) (there : Every (Stands old) (wanted fs xs low)) (same : (y : Name) → is_outer y ≡ false → lookup names y ≡ lookup old y) where
    object-named : (y : Name) (t : CVariableType) → is_outer y ≡ false → Stands old (record { name = y; meant = object t }) → NamesObject names y (value_type t)
    object-named y t outer s =
        let o = is-object s.meant t s.agrees_with in
        record { type = o.type; means = same y outer ∙ s.means ∙ ap (λ (m : Meant). Some m) o.is; value = o.value }

    function-named : (y : Name) (t : SourceType) → MayBeCalled y → Stands old (record { name = y; meant = function (prototype_of false y t) }) → NamesFunction names y t
    function-named y t may s =
        let o = is-function s.meant (prototype_of false y t) s.agrees_with in
        record {
          prototype = o.prototype;
          means = same y may.outer ∙ s.means ∙ ap (λ (m : Meant). Some m) o.is;
          signature = o.signature ∙ same-signature false y t;
          not_main = may.no_main;
        }

    stands-tested : (i : Item) → In i (tested fs xs low) → Stands old (named_by i)
    stands-tested i h = there (named_by i) (mapped-in named_by i (tested fs xs low) h)

    pub called-function : (y : Name) (t : SourceType) → In (declares (prototype_of false y t)) (named_in file) → NamesFunction names y t
    called-function y t h =
        function-named y t (may-be-called y ((names-told fs xs low).named (declares (prototype_of false y t)) h))
        (stands-tested (declares (prototype_of false y t)) (named-tested (declares (prototype_of false y t)) h))

    pub names-what : (owner : Name) (s l : Bool) (a : Action) → Declared owner s l a → Naming names owner a
    names-what owner s l (plain.text j b) d =
        let v = literal_variable owner s l j b in
        object-named (literal_name owner j) (variable.Chars (int_constant (length b))) (literal-outer owner j) (stands-tested (defines_variable v) (d.texts v (inl refl)))
    names-what owner s l (plain.static_object name t) d =
        let i : Item = declares_variable (variable_type [] t) name in
        object-named name (variable_type [] t) (object-foreign name ((names-told fs xs low).named i (d.names i (inl refl)))).outer
        (stands-tested i (named-tested i (d.names i (inl refl))))
    names-what owner s l (plain.function name t) d = called-function name t (d.names (declares (prototype_of false name t)) (inl refl))
    names-what owner s l a d = tt
