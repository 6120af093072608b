-- A file is built where the test finds nothing in it.
use Rattle.std.proofs.Common.{◌≡◌, ℕ, suc, ◌+◌, ◌==◌, Bool, true, false, not, ◌&&◌, ◌||◌, List, [], ◌∷◌, map, length, Option, Some, None, refl, ap, sym, ◌∙◌, arith}
use Rattle.std.specs.Prelude.{is_some, bytes_eq, codes, cond, find, if◌then◌else◌, nat_eq}
use Rattle.std.specs.List.{list_all, starts_with}
use Rattle.std.specs.Char.{is_ascii_digit}
use Rattle.std.proofs.lemmas.Bool.{eqb-true}
use Rattle.std.proofs.lemmas.List.{length-map}
use Rattle.cf_classes.specs.declared.class.ClassDef.{ClassDef}
use Rattle.cf_core.specs.declared.unit.CoreFn.{CoreFn}
use Rattle.cf_core.specs.declared.unit.CoreStatic.{CoreStatic}
use Rattle.cf_core.specs.declared.unit.Role.{Role}
use Rattle.cf_core.specs.declared.unit.Role.TheVariants as role
use Rattle.cf_core.specs.Types.{Name, SourceType, void, gives, parameters, is_class}
use Rattle.cf_core.specs.Core.{Function, Static}
use Rattle.cf_core.specs.Joined.{is_nothing}
use Rattle.cf_core.specs.NodePlace.{place}
use Rattle.cf_core.specs.FromTypes.{Tables, type_of, taking}
use Rattle.cf_core.specs.FromClasses.{signature_of, classes_in}
use Rattle.cf_core.specs.FromUnit.{Unit as CoreUnit, tables_of, file_of, function_of, static_of, role_of}
use Rattle.cf_sequence.specs.Built.{is_statement, is_chain, is_plain_role, is_none, is_built_function, is_built_static, is_built_file, has_mark, arms_fit, is_numeral, is_mark}
use Rattle.cf_sequence.specs.Statements.{type_of_static}
use Rattle.cf_sequence.proofs.StaticObjects.{type_found}
use Rattle.cf_sequence_built.specs.Unbuilt as unbuilt
use Rattle.cf_sequence_built.specs.Unbuilt.{Test, test, is_plain, takes_nothing, is_usual, in_function, in_functions, constant, sets_object, type_named, is_usual_object, in_static, in_statics, in_file, in_body}
use Rattle.cf_sequence_written.proofs.Parameters.{parameters-taking, result-taking}
use Rattle.cf_sequence_written.proofs.Constants.{sets-object, told}
use Rattle.cf_sequence_written.proofs.Tested.{clear, and-is, where-true, Tests, tested}

some-first : (n : ℕ) → (suc n == 0) ≡ false
some-first n = by (suc n == 0) refl
  where
    by : (b : Bool) → (suc n == 0) ≡ b → (suc n == 0) ≡ false
    by true e = let same : suc n ≡ 0 = eqb-true (suc n) 0 e in absurd (omega (arith, same))
    by false e = e

none-mapped : {A B : Type 0} (g : A → B) (xs : List A) → (length xs == 0) ≡ is_none (map g xs)
none-mapped g [] = refl
none-mapped g (x ∷ xs) = some-first (length xs)

chain-taking : (ps : List SourceType) (t : SourceType) (c : Bool) → is_chain (taking ps (gives t c)) ≡ true
chain-taking [] t c = refl
chain-taking (p ∷ ps) t c = chain-taking ps t c

-- the parts of the tests of a function, in either order
parts-are : (p m c s : Bool) → (p && (m && c)) && s ≡ p && (true && (m && (c && s)))
parts-are false m c s = refl
parts-are true false c s = refl
parts-are true true false s = refl
parts-are true true true s = refl

-- those of a static object
object-parts : (c s l : Bool) → c && (s && l) ≡ (c && s) && l
object-parts false s l = refl
object-parts true s l = refl

where-false : (at : ℕ) (b : Bool) → clear (if b then None else Some at) ≡ b
where-false at true = refl
where-false at false = refl

module _ (tables : Tables) where
  role-is : (r : Role) → is_plain r ≡ is_plain_role (role_of tables r)
  role-is role.Plain = refl
  role-is (role.Member c) = refl
  role-is (role.Constructor c) = refl
  role-is (role.Destructor c) = refl

  function-is : (f : CoreFn) → clear (in_function tables f) ≡ is_built_function (function_of tables f)
  function-is f =
      let F : Function = function_of tables f in
      let params : parameters F.type ≡ map (type_of tables) f.params = parameters-taking (map (type_of tables) f.params) (type_of tables f.result) false in
      let count : length f.params ≡ length (parameters F.type) = sym (length-map f.params (type_of tables)) ∙ ap length (sym params) in
      let all : length f.params + length f.locals ≡ length (parameters F.type) + length F.locals =
      ap (λ m. m + length f.locals) count ∙ ap (λ n. length (parameters F.type) + n) (sym (length-map f.locals (type_of tables))) in
      let named : Bool = not (bytes_eq f.name (codes "__main")) in
      let body : Bool = is_statement (length (parameters F.type)) F.body && arms_fit (length (parameters F.type) + length F.locals) F.body in
      let tests = tested tables (signature_of tables) f.body in
      where-true (place f.body) (is_usual tables f) (in_body tables f) body
      (and-is ((test tables f.body).statement (length f.params)) ((test tables f.body).unfit (length f.params + length f.locals)) (is_statement (length (parameters F.type)) F.body)
      (arms_fit (length (parameters F.type) + length F.locals) F.body)
      (Tests.statement tests (length f.params) ∙ ap (λ m. is_statement m F.body) count) (Tests.unfit tests (length f.params + length f.locals) ∙ ap (λ m. arms_fit m F.body) all))
      ∙ parts-are (is_plain f.role) (named || takes_nothing f) (not (is_class (type_of tables f.result))) body
      ∙ ap (λ p. p && (true && ((named || takes_nothing f) && (not (is_class (type_of tables f.result)) && body)))) (role-is f.role)
      ∙ ap (λ k. is_plain_role F.role && (k && ((named || takes_nothing f) && (not (is_class (type_of tables f.result)) && body))))
      (sym (chain-taking (map (type_of tables) f.params) (type_of tables f.result) false))
      ∙ ap (λ n. is_plain_role F.role && (is_chain F.type && ((named || n) && (not (is_class (type_of tables f.result)) && body))))
      (none-mapped (type_of tables) f.params ∙ ap is_none (sym params))
      ∙ ap (λ t. is_plain_role F.role && (is_chain F.type && ((named || is_none (parameters F.type)) && (not (is_class t) && body))))
      (sym (result-taking (map (type_of tables) f.params) (type_of tables f.result) false))

  functions-are : (fs : List CoreFn) → clear (in_functions tables fs) ≡ list_all is_built_function (map (function_of tables) fs)
  functions-are [] = refl
  functions-are (f ∷ fs) = and-is (in_function tables f) (in_functions tables fs) _ _ (function-is f) (functions-are fs)

  abbrev is_own : List Static → Static → Bool
  is_own all x = is_built_static all x && not (has_mark x.name)

  abbrev found_type : Option CoreStatic → SourceType
  found_type None = void
  found_type (Some x) = type_of tables x.ty

  abbrev statics_of : List CoreStatic → List Static
  statics_of xs = map (static_of tables) xs

  picked : (b : Bool) (x : CoreStatic) (new : Option CoreStatic) (old : Option Static) → found_type new ≡ type_found old → found_type (cond b (Some x) new) ≡ type_found (cond b (Some (static_of tables x)) old)
  picked true x new old e = refl
  picked false x new old e = e

  named-is : (xs : List CoreStatic) (name : Name) → type_named tables xs name ≡ type_of_static (statics_of xs) name
  named-is [] name = refl
  named-is (x ∷ xs) name =
      picked (bytes_eq x.name name) x (find (λ (y : CoreStatic). bytes_eq y.name name) xs) (find (λ (y : Static). bytes_eq y.name name) (statics_of xs)) (named-is xs name)

  numeral-is : (bytes : List ℕ) → unbuilt.is_numeral bytes ≡ is_numeral bytes
  numeral-is [] = refl
  numeral-is (b ∷ rest) = ap (λ v. not v && list_all is_ascii_digit (b ∷ rest)) (some-first (length rest))

  one-mark : (bytes : List ℕ) → unbuilt.is_mark bytes ≡ is_mark bytes
  one-mark (a ∷ b ∷ c ∷ rest) = ap (λ v. starts_with nat_eq (a ∷ b ∷ c ∷ rest) (codes "__u") && v) (numeral-is rest)
  one-mark bytes = refl

  mark-is : (bytes : List ℕ) → unbuilt.has_mark bytes ≡ has_mark bytes
  mark-is [] = refl
  mark-is (b ∷ rest) = ap (λ v. v || unbuilt.has_mark rest) (one-mark (b ∷ rest)) ∙ ap (λ v. is_mark (b ∷ rest) || v) (mark-is rest)

  object-is : (all : List CoreStatic) (x : CoreStatic) → clear (in_static tables all x) ≡ is_own (statics_of all) (static_of tables x)
  object-is all x =
      let X : Static = static_of tables x in
      let known : Test = test tables x.start in
      let T : SourceType = type_of_static (statics_of all) x.name in
      where-false (place x.start) (is_usual_object tables all x)
      ∙ ap (λ t. x.is_constant && ((known.is_blank || sets_object t (constant x.start)) && not (unbuilt.has_mark x.name))) (named-is all x.name)
      ∙ ap (λ m. x.is_constant && ((known.is_blank || sets_object T (constant x.start)) && not m)) (mark-is x.name)
      ∙ object-parts x.is_constant (known.is_blank || sets_object T (constant x.start)) (not (has_mark x.name))
      ∙ ap (λ b. (x.is_constant && (b || sets_object T (constant x.start))) && not (has_mark x.name)) (Tests.blank (tested tables (signature_of tables) x.start))
      ∙ ap (λ b. (x.is_constant && (is_nothing X.start || b)) && not (has_mark x.name)) (sets-object (constant x.start) X.start (told tables (signature_of tables) x.start) T)

  statics-are : (all xs : List CoreStatic) → clear (in_statics tables all xs) ≡ list_all (is_own (statics_of all)) (statics_of xs)
  statics-are all [] = refl
  statics-are all (x ∷ xs) = and-is (in_static tables all x) (in_statics tables all xs) _ _ (object-is all x) (statics-are all xs)

  classes-are : (ds : List (ℕ × ClassDef)) → (length ds == 0) ≡ is_none (classes_in tables ds)
  classes-are [] = refl
  classes-are (d ∷ ds) = some-first (length ds)

file-clear : (unit : CoreUnit) → clear (in_file unit) ≡ is_built_file (file_of unit)
file-clear unit =
    let tables = tables_of unit in
    let good = and-is (in_statics tables unit.statics unit.statics) (in_functions tables unit.functions) _ _ (statics-are tables unit.statics unit.statics) (functions-are tables unit.functions) in
    where-true 0 (length unit.classes.defined == 0) _ _ good
    ∙ ap (λ b. b && (list_all (is_own tables (file_of unit).statics) (file_of unit).statics && list_all is_built_function (file_of unit).functions)) (classes-are tables unit.classes.defined)

found : (o : Option ℕ) → is_some o ≡ not (clear o)
found None = refl
found (Some at) = refl

pub file-tested : (unit : CoreUnit) → is_some (in_file unit) ≡ not (is_built_file (file_of unit))
file-tested unit = found (in_file unit) ∙ ap not (file-clear unit)
