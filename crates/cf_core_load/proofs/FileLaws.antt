-- A file that has a form is the program that it is alone.
use Rattle.std.proofs.Common.{◌≡◌, ◌∙◌, ℕ, Bool, true, false, List, [], ◌∷◌, ◌++◌, map, Option, Some, None, Ok, Err, option_map, refl, ap, sym}
use Rattle.std.specs.Prelude.{◌||◌, ◌&&◌, ◌==◌, not, filter, find, bytes_eq, cond, slice_get, is_some, if◌then◌else◌, codes}
use Rattle.std.proofs.lemmas.Bool.{and_parts, eqb-true}
use Rattle.cf_base.proofs.Tests.{same_bytes}
use Rattle.cf_types.specs.declared.ty.Fun.{Fun}
use Rattle.cf_types.specs.Table.{Table}
use Rattle.cf_classes.specs.TypeTree.{fun_of}
use Rattle.cf_classes.specs.declared.class.ClassDef.{ClassDef}
use Rattle.cf_core.specs.Types.{Name, SourceType}
use Rattle.cf_core.specs.Classes.{Class}
use Rattle.cf_core.specs.FromTypes.{Tables, type_of}
use Rattle.cf_core.specs.FromClasses.{signature_of, classes_in}
use Rattle.cf_core.specs.FromUnit as whole
use Rattle.cf_core.specs.FromUnit.{Unit, IsValid, tables_of, file_of, units_mean}
use Rattle.cf_core.specs.View as view
use Rattle.cf_core.specs.Core as plain
use Rattle.cf_core.specs.Core.{Function, Static, Role as PlainRole, plain_function}
use Rattle.cf_core.specs.Calls as meaning
use Rattle.cf_core.specs.Program.{Mean}
use Rattle.cf_core.specs.Joined as joining
use Rattle.cf_core.specs.Joined.{renamed, name_in, in_file, local_names, function_in_file, static_in_file, new_functions, new_statics, new_classes, needs_initialiser, file_initialiser}
use Rattle.cf_core.specs.NodePlace.{place}
use Rattle.cf_core.specs.declared.unit.Role.{Role}
use Rattle.cf_core.specs.declared.unit.Role.TheVariants as role
use Rattle.cf_core.specs.declared.unit.CoreFn.{CoreFn}
use Rattle.cf_core.specs.declared.unit.CoreStatic.{CoreStatic}
use Rattle.cf_run_tree.specs.declared.shape.ObjectType.{ObjectType}
use Rattle.cf_run_tree.specs.declared.program.RunFn.{RunFn}
use Rattle.cf_run_tree.specs.declared.program.RunStatic.{RunStatic}
use Rattle.cf_run_tree.specs.declared.program.Program.{Program}
use Rattle.cf_run_tree.specs.declared.program.Signature.{Signature}
use Rattle.cf_run_tree.specs.Tree as tree
use Rattle.cf_run_tree.specs.Tree.{object_type, signature_type}
use Rattle.cf_core_shape.specs.Shapes.{each, joined, object_type_of, signature, function_signature, signature_of as signature_of_types}
use Rattle.cf_core_shape.proofs.TypeLaws.{IsOrdered, object-type, signature-type}
use Rattle.cf_core_node.specs.Formed.{Formed, placed, after, made, all}
use Rattle.cf_core_node.specs.Nodes.{node_of}
use Rattle.cf_core_node.specs.declared.defined.Defined.{Defined}
use Rattle.cf_core_node.specs.declared.defined.FunctionHead.{FunctionHead}
use Rattle.cf_core_node.specs.declared.defined.StaticHead.{StaticHead}
use Rattle.cf_core_node.specs.Defined.{has_head, agrees, agrees_object}
use Rattle.cf_core_node.proofs.NodeLaws.{Agreed, node_views}
use Rattle.cf_core_load.specs.Files.{own_name, own_functions, own_statics, own_names, function_head, static_head, defined, plain_head, function, starts_alone, object, program_of}
use Rattle.cf_core_load.specs.Loads.{first_class}

same : {A : Type 0} (a b : A) → Some a ≡ Some b → a ≡ b
same a b e = cc

abbrev ok : {A : Type 0} → A → Formed A
ok a = Ok a

same_ok : {A : Type 0} (a b : A) → ok a ≡ ok b → a ≡ b
same_ok a b e = cc

-- what two parts, one behind the other, were made of
record Both {A B : Type 0} (x : Formed A) (f : A → Formed B) (b : B) : Type 0 where
  one : A
  is : x ≡ Ok one
  behind : f one ≡ Ok b

both : {A B : Type 0} (x : Formed A) (f : A → Formed B) (b : B) → after x f ≡ Ok b → Both x f b
both (Ok a) f b e = record { one = a; is = refl; behind = e }
both (Err at) f b e = cc

record Built {A B : Type 0} (f : A → B) (x : Formed A) (b : B) : Type 0 where
  one : A
  is : x ≡ Ok one
  value : f one ≡ b

built : {A B : Type 0} (f : A → B) (x : Formed A) (b : B) → made f x ≡ Ok b → Built f x b
built f (Ok a) b e = record { one = a; is = refl; value = same_ok (f a) b e }
built f (Err at) b e = cc

found : {A : Type 0} (at : ℕ) (o : Option A) (a : A) → placed at o ≡ Ok a → o ≡ Some a
found at None a e = cc
found at (Some x) a e = ap Some (same_ok x a e)

-- parts one by one
all-parts : {A B C : Type 0} (f : A → Formed B) (g : B → C) (h : A → C) → ((a : A) (b : B) → f a ≡ Ok b → g b ≡ h a)
    → (xs : List A) (ys : List B) → all (map f xs) ≡ Ok ys → map g ys ≡ map h xs
all-parts f g h law [] ys e = ap (map g) (sym (same_ok [] ys e))
all-parts {B = B} f g h law (x ∷ xs) ys e = by (all-parts f g h law xs) (f x) refl (all (map f xs)) refl e
  where
    by : ((zs : List B) → all (map f xs) ≡ Ok zs → map g zs ≡ map h xs) → (u : Formed B) → f x ≡ u → (v : Formed (List B)) → all (map f xs) ≡ v
        → after u (λ a. made (λ rest. a ∷ rest) v) ≡ Ok ys → map g ys ≡ map h (x ∷ xs)
    by rest (Err at) p v q e = cc
    by rest (Ok b) p (Err at) q e = cc
    by rest (Ok b) p (Ok bs) q e =
        ap (map g) (sym (same_ok (b ∷ bs) ys e)) ∙ ap (λ c. c ∷ map g bs) (law x b p) ∙ ap (λ l. h x ∷ l) (rest bs q)

each-type : {A B C : Type 0} (f : A → Option B) (g : B → C) (h : A → C) → ((a : A) (b : B) → f a ≡ Some b → h a ≡ g b)
    → (xs : List A) (ys : List B) → each f xs ≡ Some ys → map g ys ≡ map h xs
each-type f g h law [] ys e = ap (map g) (sym (same [] ys e))
each-type {B = B} f g h law (x ∷ xs) ys e = by (each-type f g h law xs) (f x) refl (each f xs) refl e
  where
    by : ((zs : List B) → each f xs ≡ Some zs → map g zs ≡ map h xs) → (u : Option B) → f x ≡ u → (v : Option (List B)) → each f xs ≡ v
        → joined (λ y ys. y ∷ ys) u v ≡ Some ys → map g ys ≡ map h (x ∷ xs)
    by rest None p v q e = cc
    by rest (Some b) p None q e = cc
    by rest (Some b) p (Some bs) q e =
        ap (map g) (sym (same (b ∷ bs) ys e)) ∙ ap (λ c. c ∷ map g bs) (sym (law x b p)) ∙ ap (λ l. h x ∷ l) (rest bs q)

head-plain : (w : Role) (o : Option Signature) (s : Signature) → plain_head w o ≡ Some s → (w ≡ role.Plain) × (o ≡ Some s)
head-plain role.Plain o s e = (refl, e)
head-plain (role.Member c) o s e = cc
head-plain (role.Constructor c) o s e = cc
head-plain (role.Destructor c) o s e = cc

-- What a function or static object of the program is, by that of the file.
module _ (types : Table) (file : Defined) where
  function-head-is : (f : CoreFn) (g : RunFn) → function types file f ≡ Ok g → (g.name ≡ name_in 1 file.own f.name) × (signature types f.params f.result ≡ Some g.signature)
  function-head-is f g e =
      let at = place f.body in
      let head : Option Signature = plain_head f.role (signature types f.params f.result) in
      let x = both (placed at head) _ g e in
      let y = both (placed at (each (object_type_of types) f.locals)) _ g x.behind in
      let z = built _ (node_of types file f.body) g y.behind in
      let h = head-plain f.role (signature types f.params f.result) x.one (found at head x.one x.is) in (
        ap (λ (g : RunFn). g.name) (sym z.value),
        h.1 ∙ ap (λ (g : RunFn). Some g.signature) z.value,
      )

  chosen-some : {A : Type 0} (b : Bool) (o : Option A) (a : A) → (if b then o else None) ≡ Some a → o ≡ Some a
  chosen-some true o a e = e
  chosen-some false o a e = cc

  static-head-is : (x : CoreStatic) (g : RunStatic) → object types file x ≡ Ok g → (g.name ≡ name_in 1 file.own x.name) × (object_type_of types x.ty ≡ Some g.ty)
  static-head-is x g e =
      let at = place x.start in
      let choice : Option ObjectType = if starts_alone x then object_type_of types x.ty else None in
      let y = both (placed at choice) _ g e in
      let z = built _ (node_of types file x.start) g y.behind in (
        ap (λ (g : RunStatic). g.name) (sym z.value),
        chosen-some (starts_alone x) (object_type_of types x.ty) y.one (found at choice y.one y.is) ∙ ap (λ (g : RunStatic). Some g.ty) z.value,
      )

  module _ (n : Name) (t : ℕ) where
    abbrev tested : List CoreFn → Option FunctionHead
    tested fs = find (λ (h : FunctionHead). bytes_eq h.name n) (map (function_head file.own) fs)

    same-types : (f : CoreFn) (o : Option Fun) → has_head (function_head file.own f) o ≡ true → (s : Signature) → function_signature types o ≡ Some s
        → (u : Signature) → signature types f.params f.result ≡ Some u → u ≡ s
    same-types f None h s k u l = absurd (cc)
    same-types f (Some fun) h s k u l = by fun.is_const k
      where
        parts : ((f.result == fun.result) ≡ true) × (bytes_eq f.params fun.params ≡ true)
        parts = and_parts (f.result == fun.result) (bytes_eq f.params fun.params) h

        ids : signature types fun.params fun.result ≡ Some u
        ids = ap (λ r. signature types fun.params r) (sym (eqb-true f.result fun.result parts.0)) ∙ ap (λ ps. signature types ps f.result) (sym (same_bytes f.params fun.params parts.1)) ∙ l

        by : (b : Bool) → (if b then None else signature types fun.params fun.result) ≡ Some s → u ≡ s
        by true k = cc
        by false k = same u s (sym ids ∙ k)

    functions-agree : (fs : List CoreFn) (gs : List RunFn) → all (map (function types file) fs) ≡ Ok gs → (s : Signature) → signature_of_types types t ≡ Some s
        → agrees (tested fs) (fun_of types (slice_get types.types t)) ≡ true → tree.head_or (find (λ (g : RunFn). bytes_eq g.name n) gs) s ≡ s
    functions-agree [] gs e s h k = ap (λ (l : List RunFn). tree.head_or (find (λ (g : RunFn). bytes_eq g.name n) l) s) (sym (same_ok [] gs e))
    functions-agree (f ∷ fs) gs e s h k =
        let u = both (function types file f) _ gs e in
        let v = built _ (all (map (function types file) fs)) gs u.behind in
        let i = function-head-is f u.one u.is in
        ap (λ (l : List RunFn). tree.head_or (find (λ (g : RunFn). bytes_eq g.name n) l) s) (sym v.value)
        ∙ ap (λ m. tree.head_or (cond (bytes_eq m n) (Some u.one) (find (λ (g : RunFn). bytes_eq g.name n) v.one)) s) i.0
        ∙ by u.one i.1 v.one (functions-agree fs v.one v.is s h) (bytes_eq (name_in 1 file.own f.name) n) k
      where
        by : (g : RunFn) → signature types f.params f.result ≡ Some g.signature
            → (rest : List RunFn)
            → (agrees (tested fs) (fun_of types (slice_get types.types t)) ≡ true → tree.head_or (find (λ (g : RunFn). bytes_eq g.name n) rest) s ≡ s) → (b : Bool)
            → agrees (cond b (Some (function_head file.own f)) (tested fs)) (fun_of types (slice_get types.types t)) ≡ true
            → tree.head_or (cond b (Some g) (find (λ (g : RunFn). bytes_eq g.name n) rest)) s ≡ s
        by g i rest behind true k = same-types f (fun_of types (slice_get types.types t)) k s h g.signature i
        by g i rest behind false k = behind k

    abbrev objects-tested : List CoreStatic → Option StaticHead
    objects-tested xs = find (λ (x : StaticHead). bytes_eq x.name n) (map (static_head file.own) xs)

    statics-agree : (xs : List CoreStatic) (gs : List RunStatic) → all (map (object types file) xs) ≡ Ok gs → (o : ObjectType) → object_type_of types t ≡ Some o
        → agrees_object (objects-tested xs) t ≡ true → tree.type_or (find (λ (g : RunStatic). bytes_eq g.name n) gs) o ≡ o
    statics-agree [] gs e o h k = ap (λ (l : List RunStatic). tree.type_or (find (λ (g : RunStatic). bytes_eq g.name n) l) o) (sym (same_ok [] gs e))
    statics-agree (x ∷ xs) gs e o h k =
        let u = both (object types file x) _ gs e in
        let v = built _ (all (map (object types file) xs)) gs u.behind in
        let i = static-head-is x u.one u.is in
        ap (λ (l : List RunStatic). tree.type_or (find (λ (g : RunStatic). bytes_eq g.name n) l) o) (sym v.value)
        ∙ ap (λ m. tree.type_or (cond (bytes_eq m n) (Some u.one) (find (λ (g : RunStatic). bytes_eq g.name n) v.one)) o) i.0
        ∙ by u.one i.1 v.one (statics-agree xs v.one v.is o h) (bytes_eq (name_in 1 file.own x.name) n) k
      where
        by : (g : RunStatic) → object_type_of types x.ty ≡ Some g.ty → (rest : List RunStatic)
            → (agrees_object (objects-tested xs) t ≡ true → tree.type_or (find (λ (g : RunStatic). bytes_eq g.name n) rest) o ≡ o) → (b : Bool)
            → agrees_object (cond b (Some (static_head file.own x)) (objects-tested xs)) t ≡ true
            → tree.type_or (cond b (Some g) (find (λ (g : RunStatic). bytes_eq g.name n) rest)) o ≡ o
        by g i rest behind true k = same g.ty o (sym i ∙ ap (object_type_of types) (eqb-true x.ty t k) ∙ h)
        by g i rest behind false k = behind k

module _ (tables : Tables) (ordered : IsOrdered tables.types) (file : Defined) (p : Program) (agreed : Agreed tables.types file p) where
  -- a function that goes by its name here, with these parts
  abbrev function_with : CoreFn → PlainRole → SourceType → List SourceType → plain.Core → Function
  function_with f w t ts c = record { name = name_in 1 file.own f.name; role = w; type = t; locals = ts; body = c; is_shared = f.is_shared; is_local = f.is_local }

  function-parts : (f : CoreFn) (w u : PlainRole) (t v : SourceType) (ts vs : List SourceType) (c d : plain.Core) → w ≡ u → t ≡ v → ts ≡ vs → c ≡ d
      → function_with f w t ts c ≡ function_with f u v vs d
  function-parts f w u t v ts vs c d p q o s =
      ap (λ w. function_with f w t ts c) p ∙ ap (λ t. function_with f u t ts c) q ∙ ap (λ ts. function_with f u v ts c) o ∙ ap (λ c. function_with f u v vs c) s

  function-is : (f : CoreFn) (g : RunFn) → function tables.types file f ≡ Ok g → tree.function_of tables p g ≡ function_in_file (name_in 1 file.own) (whole.function_of tables f)
  function-is f g e =
      let at = place f.body in
      let head : Option Signature = plain_head f.role (signature tables.types f.params f.result) in
      let x = both (placed at head) _ g e in
      let y = both (placed at (each (object_type_of tables.types) f.locals)) _ g x.behind in
      let z = built _ (node_of tables.types file f.body) g y.behind in
      let h = head-plain f.role (signature tables.types f.params f.result) x.one (found at head x.one x.is) in
      ap (tree.function_of tables p) (sym z.value)
      ∙ function-parts f plain_function (whole.role_of tables f.role) (signature_type tables x.one) _ (map (object_type tables) y.one) (map (type_of tables) f.locals)
      (tree.core_of tables p z.one) (renamed (name_in 1 file.own) (view.core_of tables (signature_of tables) f.body))
      (ap (whole.role_of tables) (sym h.0)) (sym (signature-type tables ordered f.params f.result x.one h.1))
      (each-type (object_type_of tables.types) (object_type tables) (type_of tables) (object-type tables ordered) f.locals y.one (found at _ y.one y.is))
      (node_views tables ordered file (signature_of tables) p agreed f.body z.one z.is)

  abbrev object_with : CoreStatic → SourceType → plain.Core → Static
  object_with x t c = record {
    name = name_in 1 file.own x.name;
    type = t;
    start = c;
    owner = option_map (name_in 1 file.own) x.owner;
    is_constant = x.is_constant;
    is_shared = x.is_shared;
    is_local = x.is_local;
  }

  object-parts : (x : CoreStatic) (t v : SourceType) (c d : plain.Core) → t ≡ v → c ≡ d → object_with x t c ≡ object_with x v d
  object-parts x t v c d p q = ap (λ t. object_with x t c) p ∙ ap (λ c. object_with x v c) q

  chosen : {A : Type 0} (b : Bool) (o : Option A) (a : A) → (if b then o else None) ≡ Some a → (b ≡ true) × (o ≡ Some a)
  chosen true o a e = (refl, e)
  chosen false o a e = cc

  object-is : (x : CoreStatic) (g : RunStatic) → object tables.types file x ≡ Ok g
      → (tree.static_of tables p g ≡ static_in_file (name_in 1 file.own) (whole.static_of tables x)) × (starts_alone x ≡ true)
  object-is x g e =
      let at = place x.start in
      let choice : Option ObjectType = if starts_alone x then object_type_of tables.types x.ty else None in
      let y = both (placed at choice) _ g e in
      let z = built _ (node_of tables.types file x.start) g y.behind in
      let h = chosen (starts_alone x) (object_type_of tables.types x.ty) y.one (found at choice y.one y.is) in (
        ap (tree.static_of tables p) (sym z.value)
            ∙ object-parts x (object_type tables y.one) (type_of tables x.ty) (tree.core_of tables p z.one) (renamed (name_in 1 file.own) (view.core_of tables (signature_of tables) x.start))
            (sym (object-type tables ordered x.ty y.one h.1)) (node_views tables ordered file (signature_of tables) p agreed x.start z.one z.is),
        h.0,
      )

  -- none needs an initialiser that runs before `main`
  alone : (b c : Bool) → (b || c) ≡ true → (not b && not c) ≡ false
  alone true c e = refl
  alone false true e = refl
  alone false false e = cc

  is_some-map : {A B : Type 0} (f : A → B) (o : Option A) → is_some (option_map f o) ≡ is_some o
  is_some-map f None = refl
  is_some-map f (Some a) = refl

  needs-none : (x : CoreStatic) → starts_alone x ≡ true → needs_initialiser (static_in_file (name_in 1 file.own) (whole.static_of tables x)) ≡ false
  needs-none x e = ap (λ b. not x.is_constant && not b) (is_some-map (name_in 1 file.own) x.owner) ∙ alone x.is_constant (is_some x.owner) e

  all-alone : (xs : List CoreStatic) (ys : List RunStatic) → all (map (object tables.types file) xs) ≡ Ok ys
      → filter needs_initialiser (map (λ x. static_in_file (name_in 1 file.own) (whole.static_of tables x)) xs) ≡ []
  all-alone [] ys e = refl
  all-alone (x ∷ xs) ys e =
      let u = both (object tables.types file x) _ ys e in
      let v = built _ (all (map (object tables.types file) xs)) ys u.behind in
      ap (λ b. if b then static_in_file (name_in 1 file.own) (whole.static_of tables x) ∷ rest_of xs else rest_of xs) (needs-none x (object-is x u.one u.is).1) ∙ all-alone xs v.one v.is
    where
      rest_of : List CoreStatic → List Static
      rest_of xs = filter needs_initialiser (map (λ x. static_in_file (name_in 1 file.own) (whole.static_of tables x)) xs)

map-map : {A B C : Type 0} (f : A → B) (g : B → C) (xs : List A) → map (λ a. g (f a)) xs ≡ map g (map f xs)
map-map f g [] = refl
map-map f g (x ∷ xs) = ap (λ l. g (f x) ∷ l) (map-map f g xs)

first-functions : (fs : List Function) → new_functions [] fs ≡ fs
first-functions [] = refl
first-functions (f ∷ fs) = ap (λ l. f ∷ l) (first-functions fs)

first-statics : (xs : List Static) → new_statics [] xs ≡ xs
first-statics [] = refl
first-statics (x ∷ xs) = ap (λ l. x ∷ l) (first-statics xs)

function-names : (tables : Tables) (fs : List CoreFn)
    → map (λ (f : Function). f.name) (filter (λ (f : Function). f.is_local) (map (whole.function_of tables) fs)) ≡ own_functions fs
function-names tables [] = refl
function-names tables (f ∷ fs) = by (function-names tables fs) f.is_local
  where
    by : map (λ (f : Function). f.name) (filter (λ (f : Function). f.is_local) (map (whole.function_of tables) fs)) ≡ own_functions fs → (b : Bool)
        → map (λ (f : Function). f.name)
        (if b then whole.function_of tables f ∷ filter (λ (f : Function). f.is_local) (map (whole.function_of tables) fs) else filter (λ (f : Function). f.is_local) (map (whole.function_of tables) fs))
        ≡ own_name b f.name ++ own_functions fs
    by rest true = ap (λ l. f.name ∷ l) rest
    by rest false = rest

static-names : (tables : Tables) (xs : List CoreStatic)
    → map (λ (x : Static). x.name) (filter (λ (x : Static). x.is_local) (map (whole.static_of tables) xs)) ≡ own_statics xs
static-names tables [] = refl
static-names tables (x ∷ xs) = by (static-names tables xs) x.is_local
  where
    by : map (λ (x : Static). x.name) (filter (λ (x : Static). x.is_local) (map (whole.static_of tables) xs)) ≡ own_statics xs → (b : Bool)
        → map (λ (x : Static). x.name)
        (if b then whole.static_of tables x ∷ filter (λ (x : Static). x.is_local) (map (whole.static_of tables) xs) else filter (λ (x : Static). x.is_local) (map (whole.static_of tables) xs))
        ≡ own_name b x.name ++ own_statics xs
    by rest true = ap (λ l. x.name ∷ l) rest
    by rest false = rest

names-are : (unit : Unit) → local_names (file_of unit) ≡ own_names unit
names-are unit =
    ap (λ l. l ++ map (λ (x : Static). x.name) (filter (λ (x : Static). x.is_local) (map (whole.static_of (tables_of unit)) unit.statics))) (function-names (tables_of unit) unit.functions)
    ∙ ap (λ l. own_functions unit.functions ++ l) (static-names (tables_of unit) unit.statics)

no-class : (ds : List (ℕ × ClassDef)) → first_class ds ≡ None → ds ≡ []
no-class [] e = refl
no-class (d ∷ ds) e = cc

abbrev name : Name
name = in_file 1 (codes "__sti")

-- a program of these, whose initialisers these functions run
abbrev of_parts : List Class → List Function → List Static → List Function → meaning.Program
of_parts cs fs xs is = record { classes = cs; functions = fs; statics = xs; constants = tree.constants_of xs; initialisers = is }

-- the first file of a program
abbrev first : List Class → List Function → List Static → meaning.Program
first cs fs xs = of_parts (new_classes [] cs) (new_functions [] fs) (new_statics [] xs) (file_initialiser name (filter needs_initialiser (new_statics [] xs)))

first-is : (fs : List Function) (xs : List Static) → filter needs_initialiser xs ≡ [] → first [] fs xs ≡ of_parts [] fs xs []
first-is fs xs e =
    ap (λ fs. of_parts [] fs (new_statics [] xs) (file_initialiser name (filter needs_initialiser (new_statics [] xs)))) (first-functions fs)
    ∙ ap (λ xs. of_parts [] fs xs (file_initialiser name (filter needs_initialiser xs))) (first-statics xs)
    ∙ ap (λ l. of_parts [] fs xs (file_initialiser name l)) e

module _ (unit : Unit) (valid : IsValid unit) where
  abbrev T : Tables
  T = tables_of unit

  abbrev named : List Name → meaning.Program
  named names =
      first (classes_in T unit.classes.defined) (map (function_in_file (name_in 1 names)) (map (whole.function_of T) unit.functions))
      (map (static_in_file (name_in 1 names)) (map (whole.static_of T) unit.statics))

  alone-is : joining.program_of (file_of unit ∷ []) ≡ named (local_names (file_of unit))
  alone-is = refl

  pub program_is : (p : Program) → first_class unit.classes.defined ≡ None → program_of unit ≡ Ok p → tree.program_of T p ≡ joining.program_of (file_of unit ∷ [])
  program_is p none e =
      let own = own_names unit in
      let file = defined unit in
      let F : CoreFn → Function = λ f. function_in_file (name_in 1 own) (whole.function_of T f) in
      let S : CoreStatic → Static = λ x. static_in_file (name_in 1 own) (whole.static_of T x) in
      let u = both (all (map (function unit.types file) unit.functions)) _ p e in
      let v = built _ (all (map (object unit.types file) unit.statics)) p u.behind in
      let agreed : Agreed unit.types file p = record {
        functions = λ n t s h k. ap (λ (q : Program). tree.head_or (find (λ (g : RunFn). bytes_eq g.name n) q.functions) s) (sym v.value) ∙ functions-agree unit.types file n t unit.functions u.one u.is s h k;
        statics = λ n t o h k. ap (λ (q : Program). tree.type_or (find (λ (g : RunStatic). bytes_eq g.name n) q.statics) o) (sym v.value) ∙ statics-agree unit.types file n t unit.statics v.one v.is o h k;
      } in
      let fs = all-parts (function unit.types file) (tree.function_of T p) F (function-is T valid.names file p agreed) unit.functions u.one u.is in
      let xs = all-parts (object unit.types file) (tree.static_of T p) S (λ x g e. (object-is T valid.names file p agreed x g e).0) unit.statics v.one v.is in
      ap (λ (q : Program). of_parts [] (map (tree.function_of T p) q.functions) (map (tree.static_of T p) q.statics) []) (sym v.value)
      ∙ ap (λ l. of_parts [] l (map (tree.static_of T p) v.one) []) fs ∙ ap (λ l. of_parts [] (map F unit.functions) l []) xs
      ∙ sym (first-is (map F unit.functions) (map S unit.statics) (all-alone T valid.names file p agreed unit.statics v.one v.is))
      ∙ ap (λ l. first [] l (map S unit.statics)) (map-map (whole.function_of T) (function_in_file (name_in 1 own)) unit.functions)
      ∙ ap (λ l. first [] (map (function_in_file (name_in 1 own)) (map (whole.function_of T) unit.functions)) l) (map-map (whole.static_of T) (static_in_file (name_in 1 own)) unit.statics)
      ∙ ap (λ ds. first (classes_in T ds) (map (function_in_file (name_in 1 own)) (map (whole.function_of T) unit.functions))
      (map (static_in_file (name_in 1 own)) (map (whole.static_of T) unit.statics))) (sym (no-class unit.classes.defined none))
      ∙ ap named (sym (names-are unit)) ∙ sym alone-is

  pub meaning_is : (p : Program) → first_class unit.classes.defined ≡ None → program_of unit ≡ Ok p → (input : List ℕ) (heap depth n : ℕ)
      → Mean (tree.program_of T p) input heap depth n ≡ units_mean (unit ∷ []) input heap depth n
  meaning_is p none e input heap depth n = ap (λ P. Mean P input heap depth n) (program_is p none e)
