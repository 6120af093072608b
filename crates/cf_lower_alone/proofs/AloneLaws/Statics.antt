-- The static names of a lowered file: those of its local functions and objects, of literals, and of what is called before `main`.
use Rattle.std.proofs.Common.{◌≡◌, ℕ, Bool, true, false, not, ◌||◌, cond, List, [], ◌∷◌, ◌++◌, map, refl, ap, sym, subst, ◌∙◌, inl, inr}
use Rattle.std.specs.Prelude.{bytes_eq, codes, filter}
use Rattle.std.specs.List.{flat_map, list_any}
use Rattle.std.proofs.lemmas.Bool.{true≢false}
use Rattle.cf_base.proofs.Tests.{same_bytes, bytes_same}
use Rattle.cf_core.specs.Types.{Name}
use Rattle.cf_plain.specs.Plain as plain
use Rattle.cf_plain.specs.Plain.{Action, PlainFunction, PlainStatic, PlainFile}
use Rattle.cf_plain.specs.Joined.{local_names}
use Rattle.cf_plain.specs.Named.{all_actions}
use Rattle.cc_whole.specs.declared.unit.CVariable.{CVariable}
use Rattle.cc_whole.specs.Known.{is_in}
use Rattle.cc_whole.specs.Plain.{Statement, Item, declares, defines, defines_variable, name_of}
use Rattle.cc_whole.specs.Valid.{is_definition}
use Rattle.cc_whole.specs.ValidUnit.{is_static}
use Rattle.cc_whole_link.specs.Placed.{statics}
use Rattle.cf_lower.specs.Written.{literal_name}
use Rattle.cf_lower.specs.Functions.{prototype, lowered_function, literal_at, literals, lowered_static, owner_of, start_literals, library, constants_function, own_prototypes, own_variables, declared_at, named_in, defined_elsewhere, lowered_file}
use Rattle.cf_lower_program.specs.Lowerable.{Lowerable}
use Rattle.cc_whole_sections.specs.Sections.{In, Every}
use Rattle.cc_whole_sections.proofs.Names.{in-left, in-right}
use Rattle.cf_lower_valid.proofs.Differ.{append-in}
use Rattle.cf_lower_valid.proofs.Inner.{mapped-in, every-mapped, every-append}
use Rattle.cf_lower_valid.proofs.Own.{any-in}
use Rattle.cf_lower_valid.proofs.Others.{mapped-from}
use Rattle.cf_lower_valid.proofs.Once.{Differ, differ-named, differ-parts, Apart, from-flat}
use Rattle.cf_lower_valid.proofs.Tests.{file_of, names-told, valid-told}
use Rattle.cf_lower_valid.proofs.Naming.{Foreign, function-foreign, object-foreign}
use Rattle.cf_lower_valid.proofs.Scopes.{is_outer}
use Rattle.cf_lower_valid.proofs.Starts.{stores}
use Rattle.cf_lower_valid.proofs.Files.{elsewhere-from}
use Rattle.cf_lower_alone.proofs.AloneLaws.Items.{static-there, static-from}

-- ---- lists

pub any-there : {A : Type 0} (test : A → Bool) (xs : List A) (x : A) → In x xs → test x ≡ true → list_any test xs ≡ true
any-there test [] x h e = absurd h
any-there test (y ∷ ys) x (inl k) e = ap (λ b. b || list_any test ys) (ap test k ∙ e)
any-there test (y ∷ ys) x (inr h) e = go (test y) (any-there test ys x h e)
  where
    go : (b : Bool) → list_any test ys ≡ true → (b || list_any test ys) ≡ true
    go true k = refl
    go false k = k

pub record Passes {A : Type 0} (test : A → Bool) (xs : List A) (x : A) : Type 0 where
  pub there : In x xs
  pub passes : test x ≡ true

pub from-filter : {A : Type 0} (test : A → Bool) (xs : List A) (x : A) → In x (filter test xs) → Passes test xs x
from-filter test [] x h = absurd h
from-filter test (y ∷ ys) x h = go (test y) refl (from-filter test ys x) h
  where
    later : Passes test ys x → Passes test (y ∷ ys) x
    later p = record { there = inr p.there; passes = p.passes }

    go : (b : Bool) → test y ≡ b → (In x (filter test ys) → Passes test ys x) → In x (cond b (y ∷ filter test ys) (filter test ys)) → Passes test (y ∷ ys) x
    go true e again (inl k) = record { there = inl k; passes = ap test (sym k) ∙ e }
    go true e again (inr k) = later (again k)
    go false e again k = later (again k)

pub to-filter : {A : Type 0} (test : A → Bool) (xs : List A) (x : A) → In x xs → test x ≡ true → In x (filter test xs)
to-filter test [] x h e = h
to-filter test (y ∷ ys) x (inl k) e =
    subst (λ b. In x (cond b (y ∷ filter test ys) (filter test ys))) (sym (ap test k ∙ e)) (inl k)
to-filter test (y ∷ ys) x (inr h) e = go (test y) (to-filter test ys x h e)
  where
    go : (b : Bool) → In x (filter test ys) → In x (cond b (y ∷ filter test ys) (filter test ys))
    go true k = inr k
    go false k = k

-- of things with names that differ, two of one name are one
pub one-named : {A : Type 0} (n : A → Name) (xs : List A) (x y : A) → Differ n xs → In x xs → In y xs → bytes_eq (n x) (n y) ≡ true → x ≡ y
one-named n [] x y d h k e = absurd h
one-named n (z ∷ zs) x y d (inl h) (inl k) e = sym h ∙ k
one-named n (z ∷ zs) x y d (inl h) (inr k) e = absurd (true≢false (sym e ∙ ap (λ w. bytes_eq (n w) (n y)) (sym h) ∙ d.0 y k))
one-named n (z ∷ zs) x y d (inr h) (inl k) e =
    absurd (true≢false (sym (bytes_same (n z) (n x) (ap n k ∙ sym (same_bytes (n x) (n y) e))) ∙ d.0 x h))
one-named n (z ∷ zs) x y d (inr h) (inr k) e = one-named n zs x y d.1 h k e

pub cross-named : {A : Type 0} (n : A → Name) (xs ys : List A) (x y : A) → Differ n (xs ++ ys) → In x xs → In y ys → bytes_eq (n x) (n y) ≡ false
cross-named n [] ys x y d h k = absurd h
cross-named n (z ∷ zs) ys x y d (inl h) k = ap (λ w. bytes_eq (n w) (n y)) (sym h) ∙ d.0 y (in-right y zs ys k)
cross-named n (z ∷ zs) ys x y d (inr h) k = cross-named n zs ys x y d.1 h k

pub differ-left : {A : Type 0} (n : A → Name) (xs ys : List A) → Differ n (xs ++ ys) → Differ n xs
differ-left n [] ys d = tt
differ-left n (x ∷ xs) ys d = (λ y h. d.0 y (in-left y xs ys h), differ-left n xs ys d.1)

pub differ-right : {A : Type 0} (n : A → Name) (xs ys : List A) → Differ n (xs ++ ys) → Differ n ys
differ-right n [] ys d = d
differ-right n (x ∷ xs) ys d = differ-right n xs ys d.1

pub not-true : (b : Bool) → (b ≡ true → ⊥) → b ≡ false
not-true true h = absurd (h refl)
not-true false h = refl

-- ---- literals

-- a literal of this function
pub record LiteralOf (f : Name) (s l : Bool) (v : CVariable) : Type 0 where
  pub number : ℕ
  pub named : v.name ≡ literal_name f number
  pub shared : v.is_shared ≡ s
  pub static : v.is_static ≡ l

literal-of : (f : Name) (s l : Bool) (a : Action) → Every (LiteralOf f s l) (literal_at f s l a)
literal-of f s l (plain.text j b) v (inl e) = subst (LiteralOf f s l) e (record { number = j; named = refl; shared = refl; static = refl })
literal-of f s l (plain.text j b) v (inr k) = absurd k
literal-of f s l a v h = absurd h

pub literals-of : (f : Name) (s l : Bool) (acts : List Action) → Every (LiteralOf f s l) (flat_map (literal_at f s l) acts)
literals-of f s l acts v h = let x = from-flat (literal_at f s l) acts v h in literal-of f s l x.one v x.gives

-- a variable with the name of a literal
pub record LiteralNamed (v : CVariable) : Type 0 where
  pub owner : Name
  pub number : ℕ
  pub is : v.name ≡ literal_name owner number

-- ---- what is declared for other files

pub record Declared (i : Item) : Type 0 where
  pub no_definition : is_definition i ≡ false
  pub not_static : is_static i ≡ false

declared-one : (a : Action) → Every Declared (declared_at [] a)
declared-one (plain.static_object name t) i (inl k) = subst Declared k (record { no_definition = refl; not_static = refl })
declared-one (plain.static_object name t) i (inr k) = absurd k
declared-one (plain.function name t) i (inl k) = subst Declared k (record { no_definition = refl; not_static = refl })
declared-one (plain.function name t) i (inr k) = absurd k
declared-one (plain.call name t on is into) i (inl k) = subst Declared k (record { no_definition = refl; not_static = refl })
declared-one (plain.call name t on is into) i (inr k) = absurd k
declared-one a i h = absurd h

pub library-declared : Every Declared library
library-declared i (inl e) = subst Declared e (record { no_definition = refl; not_static = refl })
library-declared i (inr (inl e)) = subst Declared e (record { no_definition = refl; not_static = refl })
library-declared i (inr (inr (inl e))) = subst Declared e (record { no_definition = refl; not_static = refl })
library-declared i (inr (inr (inr h))) = absurd h

module _ (fs : List PlainFunction) (xs : List PlainStatic) (low : Lowerable (file_of fs xs)) where
  abbrev file : PlainFile
  file = file_of fs xs

  abbrev pub named_actions : List Item
  named_actions = named_in file

  named-declared : Every Declared (named_in file)
  named-declared =
      every-append Declared (flat_map (λ (f : PlainFunction). flat_map (declared_at []) (all_actions f.body)) fs)
      (flat_map (λ (x : PlainStatic). flat_map (declared_at []) (all_actions x.start)) xs)
      (λ i h.
      let f = from-flat (λ (f : PlainFunction). flat_map (declared_at []) (all_actions f.body)) fs i h in
      let a = from-flat (declared_at []) (all_actions f.one.body) i f.gives in
      declared-one a.one i a.gives)
      (λ i h.
      let x = from-flat (λ (x : PlainStatic). flat_map (declared_at []) (all_actions x.start)) xs i h in
      let a = from-flat (declared_at []) (all_actions x.one.start) i x.gives in
      declared-one a.one i a.gives)

  pub elsewhere-declared : Every Declared (defined_elsewhere file)
  elsewhere-declared i h = named-declared i (elsewhere-from fs xs low i h)

  -- ---- the parts of a lowered file

  abbrev pub own : List Item
  own = own_prototypes file

  abbrev pub other : List Item
  other = defined_elsewhere file

  abbrev pub variables : List CVariable
  variables = map (lowered_static []) xs ++ flat_map literals fs ++ flat_map start_literals xs

  abbrev pub vars : List Item
  vars = own_variables file

  abbrev pub functions : List Item
  functions = map (λ (f : PlainFunction). defines (lowered_function [] f)) fs

  abbrev pub helper : List Item
  helper = constants_function (stores fs xs low)

  abbrev pub lowered_items : List Item
  lowered_items = lowered_file file

  pub every-item : (P : Item → Type 0) → Every P library → Every P own → Every P other → Every P vars → Every P functions → Every P helper → Every P lowered_items
  every-item P a b c d e f =
      every-append P (library ++ own ++ other ++ vars ++ functions) helper
      (every-append P (library ++ own ++ other ++ vars) functions
      (every-append P (library ++ own ++ other) vars (every-append P (library ++ own) other (every-append P library own a b) c) d) e) f

  in-own : (i : Item) → In i own → In i lowered_items
  in-own i h =
      in-left i (library ++ own ++ other ++ vars ++ functions) helper
      (in-left i (library ++ own ++ other ++ vars) functions (in-left i (library ++ own ++ other) vars (in-left i (library ++ own) other (in-right i library own h))))

  in-vars : (i : Item) → In i vars → In i lowered_items
  in-vars i h =
      in-left i (library ++ own ++ other ++ vars ++ functions) helper
      (in-left i (library ++ own ++ other ++ vars) functions (in-right i (library ++ own ++ other) vars h))

  in-objects : (x : PlainStatic) → In x xs → In (lowered_static [] x) variables
  in-objects x h =
      in-left (lowered_static [] x) (map (lowered_static []) xs ++ flat_map literals fs) (flat_map start_literals xs)
      (in-left (lowered_static [] x) (map (lowered_static []) xs) (flat_map literals fs) (mapped-in (lowered_static []) x xs h))

  in-literals : (v : CVariable) → In v (flat_map literals fs) → In v variables
  in-literals v h =
      in-left v (map (lowered_static []) xs ++ flat_map literals fs) (flat_map start_literals xs) (in-right v (map (lowered_static []) xs) (flat_map literals fs) h)

  in-starts : (v : CVariable) → In v (flat_map start_literals xs) → In v variables
  in-starts v h = in-right v (map (lowered_static []) xs ++ flat_map literals fs) (flat_map start_literals xs) h

  -- ---- the static ones

  abbrev pub static_names : List Name
  static_names = statics lowered_items

  -- what has a static name
  pub data StaticAs (n : Name) : Type 0 where
    of_function : (f : PlainFunction) → In f fs → f.is_local ≡ true → f.name ≡ n → StaticAs n
    of_object : (x : PlainStatic) → In x xs → x.is_local ≡ true → x.name ≡ n → StaticAs n
    of_literal : (v : CVariable) → In v (flat_map literals fs) → v.is_static ≡ true → v.name ≡ n → StaticAs n
    of_start : (v : CVariable) → In v (flat_map start_literals xs) → v.is_static ≡ true → v.name ≡ n → StaticAs n
    of_helper : n ≡ codes "__hci" → StaticAs n

  abbrev Told : Item → Type 0
  Told i = is_static i ≡ true → StaticAs (name_of i)

  never : (i : Item) → Declared i → Told i
  never i d e = absurd (true≢false (sym e ∙ d.not_static))

  helper-told : (ss : List Statement) → Every Told (constants_function ss)
  helper-told [] i h = absurd h
  helper-told (s ∷ ss) i (inl e) = subst Told e (λ k. of_helper refl)
  helper-told (s ∷ ss) i (inr k) = absurd k

  static-as : Every Told lowered_items
  static-as =
      every-item Told (λ i h. never i (library-declared i h)) (every-mapped Told (λ (f : PlainFunction). declares (prototype f)) fs (λ f h e. of_function f h e refl))
      (λ i h. never i (elsewhere-declared i h))
      (every-mapped Told defines_variable variables
      (every-append (λ v. Told (defines_variable v)) (map (lowered_static []) xs ++ flat_map literals fs) (flat_map start_literals xs)
      (every-append (λ v. Told (defines_variable v)) (map (lowered_static []) xs) (flat_map literals fs)
      (every-mapped (λ v. Told (defines_variable v)) (lowered_static []) xs (λ x h e. of_object x h e refl)) (λ v h e. of_literal v h e refl))
      (λ v h e. of_start v h e refl)))
      (every-mapped Told (λ (f : PlainFunction). defines (lowered_function [] f)) fs (λ f h e. of_function f h e refl)) (helper-told (stores fs xs low))

  pub static-name : (n : Name) → is_in static_names n ≡ true → StaticAs n
  static-name n e = let x = static-from lowered_items n e in subst StaticAs x.named (static-as x.one x.there x.static)

  pub function-static : (f : PlainFunction) → In f fs → f.is_local ≡ true → is_in static_names f.name ≡ true
  function-static f h e =
      static-there lowered_items (declares (prototype f)) (in-own (declares (prototype f)) (mapped-in (λ (f : PlainFunction). declares (prototype f)) f fs h)) e

  variable-static : (v : CVariable) → In v variables → v.is_static ≡ true → is_in static_names v.name ≡ true
  variable-static v h e =
      static-there lowered_items (defines_variable v) (in-vars (defines_variable v) (mapped-in defines_variable v variables h)) e

  pub object-static : (x : PlainStatic) → In x xs → x.is_local ≡ true → is_in static_names x.name ≡ true
  object-static x h e = variable-static (lowered_static [] x) (in-objects x h) e

  pub literal-static-name : (v : CVariable) → In v (flat_map literals fs) → v.is_static ≡ true → is_in static_names v.name ≡ true
  literal-static-name v h e = variable-static v (in-literals v h) e

  pub start-static-name : (v : CVariable) → In v (flat_map start_literals xs) → v.is_static ≡ true → is_in static_names v.name ≡ true
  start-static-name v h e = variable-static v (in-starts v h) e

  -- ---- names of parts

  pub function-foreign-name : (f : PlainFunction) → In f fs → Foreign f.name
  function-foreign-name f h = function-foreign f.name ((names-told fs xs low).functions f h)

  pub object-foreign-name : (x : PlainStatic) → In x xs → Foreign x.name
  object-foreign-name x h = object-foreign x.name ((names-told fs xs low).statics x h)

  pub function-literal : (v : CVariable) → In v (flat_map literals fs) → LiteralNamed v
  function-literal v h =
      let f = from-flat literals fs v h in
      let l = literals-of f.one.name f.one.is_shared f.one.is_local (all_actions f.one.body) v f.gives in
      record { owner = f.one.name; number = l.number; is = l.named }

  pub start-literal : (v : CVariable) → In v (flat_map start_literals xs) → LiteralNamed v
  start-literal v h =
      let x = from-flat start_literals xs v h in
      let l = literals-of (owner_of x.one) x.one.is_shared (x.one.is_local || not x.one.is_shared) (all_actions x.one.start) v x.gives in
      record { owner = owner_of x.one; number = l.number; is = l.named }

  literal-outer : (v : CVariable) → LiteralNamed v → is_outer v.name ≡ false
  literal-outer v l = ap is_outer l.is ∙ refl

  -- none is one of the C's own names of locals
  pub static-outer : (n : Name) → StaticAs n → is_outer n ≡ false
  static-outer n (of_function f h e k) = ap is_outer (sym k) ∙ (function-foreign-name f h).outer
  static-outer n (of_object x h e k) = ap is_outer (sym k) ∙ (object-foreign-name x h).outer
  static-outer n (of_literal v h e k) = ap is_outer (sym k) ∙ literal-outer v (function-literal v h)
  static-outer n (of_start v h e k) = ap is_outer (sym k) ∙ literal-outer v (start-literal v h)
  static-outer n (of_helper k) = ap is_outer k ∙ refl

  -- ---- names that are local to the file

  abbrev pub locals : List Name
  locals = local_names file

  abbrev local_functions : List PlainFunction
  local_functions = filter (λ (f : PlainFunction). f.is_local) fs

  abbrev local_objects : List PlainStatic
  local_objects = filter (λ (x : PlainStatic). x.is_local) xs

  pub function-local : (f : PlainFunction) (n : Name) → In f fs → f.is_local ≡ true → f.name ≡ n → list_any (bytes_eq n) locals ≡ true
  function-local f n h e k =
      any-there (bytes_eq n) locals f.name
      (in-left f.name (map (λ (f : PlainFunction). f.name) local_functions) (map (λ (x : PlainStatic). x.name) local_objects)
      (mapped-in (λ (f : PlainFunction). f.name) f local_functions (to-filter (λ (f : PlainFunction). f.is_local) fs f h e)))
      (bytes_same n f.name (sym k))

  pub object-local : (x : PlainStatic) (n : Name) → In x xs → x.is_local ≡ true → x.name ≡ n → list_any (bytes_eq n) locals ≡ true
  object-local x n h e k =
      any-there (bytes_eq n) locals x.name
      (in-right x.name (map (λ (f : PlainFunction). f.name) local_functions) (map (λ (x : PlainStatic). x.name) local_objects)
      (mapped-in (λ (x : PlainStatic). x.name) x local_objects (to-filter (λ (x : PlainStatic). x.is_local) xs x h e)))
      (bytes_same n x.name (sym k))

  -- what has a name that is local
  pub data LocalAs (n : Name) : Type 0 where
    a_function : (f : PlainFunction) → In f fs → f.is_local ≡ true → f.name ≡ n → LocalAs n
    an_object : (x : PlainStatic) → In x xs → x.is_local ≡ true → x.name ≡ n → LocalAs n

  pub local-as : (n : Name) → list_any (bytes_eq n) locals ≡ true → LocalAs n
  local-as n e =
      let m = any-in (bytes_eq n) locals e in
      let same = sym (same_bytes n m.one m.passes) in
      append-in m.one (map (λ (f : PlainFunction). f.name) local_functions) (map (λ (x : PlainStatic). x.name) local_objects) (LocalAs n) m.there
      (λ h.
      let f = mapped-from (λ (f : PlainFunction). f.name) local_functions m.one h in
      let p = from-filter (λ (f : PlainFunction). f.is_local) fs f.one f.there in
      a_function f.one p.there p.passes (f.is ∙ same))
      (λ h.
      let x = mapped-from (λ (x : PlainStatic). x.name) local_objects m.one h in
      let p = from-filter (λ (x : PlainStatic). x.is_local) xs x.one x.there in
      an_object x.one p.there p.passes (x.is ∙ same))

  -- ---- names that are not shared by two

  abbrev variable_name : CVariable → Name
  variable_name v = v.name

  pub texts-differ : Differ variable_name (flat_map literals fs ++ flat_map start_literals xs)
  texts-differ = differ-named variable_name (flat_map literals fs ++ flat_map start_literals xs) low.literals

  pub names-parts : Apart (map (λ (f : PlainFunction). f.name) fs) (map (λ (x : PlainStatic). x.name) xs)
  names-parts = differ-parts (map (λ (f : PlainFunction). f.name) fs) (map (λ (x : PlainStatic). x.name) xs) (valid-told fs xs low).differ_all

  pub functions-differ : Differ (λ (f : PlainFunction). f.name) fs
  functions-differ = differ-named (λ (f : PlainFunction). f.name) fs names-parts.first

  pub objects-differ : Differ (λ (x : PlainStatic). x.name) xs
  objects-differ = differ-named (λ (x : PlainStatic). x.name) xs names-parts.second
