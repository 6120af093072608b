-- Names: what is so of all that a core defines and names is so of what its plain file does.
use Rattle.std.proofs.Common.{◌≡◌, Bool, true, ◌&&◌, ◌||◌, not, List, [], ◌∷◌, ◌++◌, map}
use Rattle.std.specs.Prelude.{Some, bytes_eq}
use Rattle.std.specs.List.{list_all, flat_map}
use Rattle.cf_base.proofs.Tests.{both, all_of}
use Rattle.cf_core.specs.Types.{Name, SourceType, parameters}
use Rattle.cf_core.specs.Classes.{Class}
use Rattle.cf_core.specs.Core.{Core, Function, Static, CoreFile}
use Rattle.cf_core.specs.Nodes.{nodes}
use Rattle.cf_plain.specs.Plain.{Action, PlainFunction, PlainStatic}
use Rattle.cf_plain.specs.Plain as plain
use Rattle.cf_plain.specs.Named.{all_actions}
use Rattle.cf_sequence.specs.Built.{is_built_file, is_built_static}
use Rattle.cf_sequence.specs.Statements.{type_of_static}
use Rattle.cf_sequence.specs.Sequenced.{sequenced_body, sequenced_start, sequenced_function, sequenced_static, sequenced_file}
use Rattle.cf_sequence.proofs.Calling.{never}
use Rattle.cc_whole.specs.declared.unit.CVariable.{CVariable}
use Rattle.cc_whole.specs.Plain.{Item, declares, declares_variable, defines_variable, name_of}
use Rattle.cc_whole.specs.Valid.{agrees, named_by}
use Rattle.cc_whole.specs.Spellable.{spellable_item, spellable_items}
use Rattle.cf_lower.specs.Functions.{literal_at, literals, start_literals, lowered_static, prototype, prototype_of, own_prototypes, own_variables, declared_at, named_in}
use Rattle.cf_lower.specs.Written.{variable_type}
use Rattle.cf_lower_program.specs.Names.{may_be_function, may_be_object, is_well_named, has_own_type, same_types, names_lowered}
use Rattle.cf_sequence_lowered.specs.Literals.{owner_name}
use Rattle.cf_sequence_lowered.specs.Names.{declared_by, variable_of, function_variables, static_variables, static_variable, core_named, core_items, core_names_fit}
use Rattle.cf_sequence_lowered.proofs.Each.{Each, each-two, each-left, each-right, each-as, each-of, all-of, each-both, each-flat, each-joined, each-mapped, each-unflat, each-unmapped, each-any}
use Rattle.cf_sequence_lowered.proofs.Files.{AnyLabels, BuiltFunction, built-functions, built-statics, function-actions, start-actions}
use Rattle.cf_sequence_lowered.proofs.Suits.{Suits, Declared, Passed, is_neutral}

-- whether two items agree on a name
abbrev alike : Item → Item → Bool
alike i j = not (bytes_eq (name_of j) (name_of i)) || agrees (Some (named_by j).meant) (named_by i).meant

-- P of what is named, Q of literals, those of the function f
module _ (P Q : Item → Type 0) (classes : List Class) (f : Name) (is_shared is_local : Bool) where
  abbrev Variables : List CVariable → Type 0
  Variables vs = Each Q (map defines_variable vs)

  abbrev pub Told : Action → Type 0
  Told a = Each P (declared_at classes a) × Variables (literal_at f is_shared is_local a)

  abbrev pub Node : Core → Type 0
  Node e = Each P (declared_by classes e) × Variables (variable_of f is_shared is_local e)

  neutral-told : (a : Action) → is_neutral a ≡ true → Told a
  neutral-told (plain.local i) ok = (tt, tt)
  neutral-told (plain.member r i) ok = (tt, tt)
  neutral-told (plain.read r) ok = (tt, tt)
  neutral-told (plain.dereference r) ok = (tt, tt)
  neutral-told (plain.decay r) ok = (tt, tt)
  neutral-told (plain.index r q) ok = (tt, tt)
  neutral-told (plain.truth r) ok = (tt, tt)
  neutral-told (plain.logical_not r) ok = (tt, tt)
  neutral-told (plain.pointer_operate op r q) ok = (tt, tt)
  neutral-told (plain.store r q) ok = (tt, tt)
  neutral-told (plain.first r q) ok = (tt, tt)
  neutral-told (plain.zeros r) ok = (tt, tt)
  neutral-told (plain.begin_list r) ok = (tt, tt)
  neutral-told (plain.end_list r) ok = (tt, tt)
  neutral-told (plain.reach name) ok = (tt, tt)
  neutral-told (plain.finish_static name) ok = (tt, tt)
  neutral-told a ok = never ok

  any-declared : (ts : List SourceType) → Each (Declared Told AnyLabels Node 0) ts
  any-declared [] = tt
  any-declared (t ∷ ts) = ((λ i. (tt, tt)), any-declared ts)

  pub any-passed : (ts : List SourceType) → Each (Passed Told AnyLabels Node 0) ts
  any-passed [] = tt
  any-passed (t ∷ ts) = ((λ i. ((tt, tt), (tt, tt))), any-passed ts)

  pub suits : Suits Told AnyLabels Node 0
  suits = record {
    neutral = neutral-told;
    counter = λ i. (tt, tt);
    number = λ z u. (tt, tt);
    text = λ j bytes u. (tt, u.1);
    static_object = λ name t u. (u.0, tt);
    function = λ name t u. (u.0, tt);
    convert = λ t e r u. (tt, tt);
    from_void = λ t e r u. (tt, tt);
    operate = λ op k a b r q u. (tt, tt);
    unary = λ op k e r u. (tt, tt);
    update = λ a b change r q u. (tt, tt);
    step = λ is_postfix change e r q u. (tt, tt);
    temporary = λ t e i u. ((tt, tt), (tt, tt));
    declare = λ t e i u. ((tt, tt), (tt, tt));
    held = λ t e i u. ((tt, tt), (tt, tt));
    call = λ name t args k into u le. (u.0, tt);
    called = λ name t args u. (u.0, tt);
    passed = λ name t args u. any-declared (parameters t);
    pointer_call = λ e t args r k into u le. (tt, tt);
    passed_on = λ e t args u. any-declared (parameters t);
    string = λ bytes r u. (tt, tt);
    switch = λ e es u. tt;
  }

module _ (file : CoreFile) (built : is_built_file file ≡ true) where
  abbrev function : Function → PlainFunction
  function f = sequenced_function file.classes file.statics f

  abbrev static : Static → PlainStatic
  static x = sequenced_static file.classes file.statics x

  module _ (P Q : Item → Type 0) where
    abbrev ToldOf : Function → Action → Type 0
    ToldOf f a = Told P Q file.classes f.name f.is_shared f.is_local a

    abbrev NodeOf : Function → Core → Type 0
    NodeOf f e = Node P Q file.classes f.name f.is_shared f.is_local e

    abbrev ToldStart : Static → Action → Type 0
    ToldStart x a = Told P Q file.classes (owner_name x) x.is_shared (x.is_local || not x.is_shared) a

    abbrev NodeStart : Static → Core → Type 0
    NodeStart x e = Node P Q file.classes (owner_name x) x.is_shared (x.is_local || not x.is_shared) e

    -- what is told of the actions of functions and static objects
    functions-told : Each (λ (f : Function). Each (NodeOf f) (nodes f.body)) file.functions
        → Each (λ (f : Function). Each (ToldOf f) (all_actions (sequenced_body file.classes file.statics f))) file.functions
    functions-told u =
        each-both BuiltFunction (λ (f : Function). Each (NodeOf f) (nodes f.body)) (λ (f : Function). Each (ToldOf f) (all_actions (sequenced_body file.classes file.statics f))) file.functions
        (λ f b n.
        function-actions (ToldOf f) (NodeOf f) (suits P Q file.classes f.name f.is_shared f.is_local) file f b
        (n, any-passed P Q file.classes f.name f.is_shared f.is_local (parameters f.type)))
        (built-functions file built) u

    abbrev StartNamed : Static → Type 0
    StartNamed x = Each (NodeStart x) (nodes x.start) × P (declares_variable (variable_type file.classes (type_of_static file.statics x.name)) x.name)

    statics-told : Each StartNamed file.statics → Each (λ (x : Static). Each (ToldStart x) (all_actions (sequenced_start file.classes file.statics x))) file.statics
    statics-told u =
        each-both (λ (x : Static). is_built_static file.statics x ≡ true) StartNamed (λ (x : Static). Each (ToldStart x) (all_actions (sequenced_start file.classes file.statics x))) file.statics
        (λ x b n.
        start-actions (ToldStart x) (NodeStart x) (suits P Q file.classes (owner_name x) x.is_shared (x.is_local || not x.is_shared)) file x b (n.0, ((n.1, tt), tt)))
        (built-statics file built) u

    -- the same of what they name, and of their literals
    functions-name : Each (λ (f : Function). Each (NodeOf f) (nodes f.body)) file.functions
        → Each P (flat_map (λ (f : PlainFunction). flat_map (declared_at file.classes) (all_actions f.body)) (map function file.functions))
    functions-name u =
        each-flat P (λ (f : PlainFunction). flat_map (declared_at file.classes) (all_actions f.body)) function file.functions
        (each-as (λ (f : Function). Each (ToldOf f) (all_actions (sequenced_body file.classes file.statics f)))
        (λ (f : Function). Each P (flat_map (declared_at file.classes) (all_actions (sequenced_body file.classes file.statics f)))) file.functions
        (λ f t.
        let xs : List Action = all_actions (sequenced_body file.classes file.statics f) in
        each-joined P (declared_at file.classes) xs (each-as (ToldOf f) (λ (a : Action). Each P (declared_at file.classes a)) xs (λ a p. p.0) t)) (functions-told u))

    statics-name : Each StartNamed file.statics → Each P (flat_map (λ (x : PlainStatic). flat_map (declared_at file.classes) (all_actions x.start)) (map static file.statics))
    statics-name u =
        each-flat P (λ (x : PlainStatic). flat_map (declared_at file.classes) (all_actions x.start)) static file.statics
        (each-as (λ (x : Static). Each (ToldStart x) (all_actions (sequenced_start file.classes file.statics x)))
        (λ (x : Static). Each P (flat_map (declared_at file.classes) (all_actions (sequenced_start file.classes file.statics x)))) file.statics
        (λ x t.
        let xs : List Action = all_actions (sequenced_start file.classes file.statics x) in
        each-joined P (declared_at file.classes) xs (each-as (ToldStart x) (λ (a : Action). Each P (declared_at file.classes a)) xs (λ a p. p.0) t)) (statics-told u))

    abbrev Defined : CVariable → Type 0
    Defined v = Q (defines_variable v)

    functions-have : Each (λ (f : Function). Each (NodeOf f) (nodes f.body)) file.functions → Each Defined (flat_map literals (map function file.functions))
    functions-have u =
        each-flat Defined literals function file.functions
        (each-as (λ (f : Function). Each (ToldOf f) (all_actions (sequenced_body file.classes file.statics f))) (λ (f : Function). Each Defined (literals (function f))) file.functions
        (λ f t.
        let xs : List Action = all_actions (sequenced_body file.classes file.statics f) in
        each-joined Defined (literal_at f.name f.is_shared f.is_local) xs
        (each-as (ToldOf f) (λ (a : Action). Each Defined (literal_at f.name f.is_shared f.is_local a)) xs
        (λ a p. each-unmapped Q defines_variable (literal_at f.name f.is_shared f.is_local a) p.1) t)) (functions-told u))

    statics-have : Each StartNamed file.statics → Each Defined (flat_map start_literals (map static file.statics))
    statics-have u =
        each-flat Defined start_literals static file.statics
        (each-as (λ (x : Static). Each (ToldStart x) (all_actions (sequenced_start file.classes file.statics x))) (λ (x : Static). Each Defined (start_literals (static x))) file.statics
        (λ x t.
        let xs : List Action = all_actions (sequenced_start file.classes file.statics x) in
        let is_static : Bool = x.is_local || not x.is_shared in
        each-joined Defined (literal_at (owner_name x) x.is_shared is_static) xs
        (each-as (ToldStart x) (λ (a : Action). Each Defined (literal_at (owner_name x) x.is_shared is_static a)) xs
        (λ a p. each-unmapped Q defines_variable (literal_at (owner_name x) x.is_shared is_static a) p.1) t)) (statics-told u))

    -- the nodes, by what the core names and its literals
    function-nodes : Each P (flat_map (λ (f : Function). flat_map (declared_by file.classes) (nodes f.body)) file.functions) → Each Defined (flat_map function_variables file.functions)
        → Each (λ (f : Function). Each (NodeOf f) (nodes f.body)) file.functions
    function-nodes names vars =
        each-both (λ (f : Function). Each P (flat_map (declared_by file.classes) (nodes f.body))) (λ (f : Function). Each Defined (function_variables f))
        (λ (f : Function). Each (NodeOf f) (nodes f.body)) file.functions
        (λ f n v.
        each-both (λ (e : Core). Each P (declared_by file.classes e)) (λ (e : Core). Each Defined (variable_of f.name f.is_shared f.is_local e)) (NodeOf f) (nodes f.body)
        (λ e a b. (a, each-mapped Q defines_variable (variable_of f.name f.is_shared f.is_local e) b)) (each-unflat P (declared_by file.classes) (nodes f.body) n)
        (each-unflat Defined (variable_of f.name f.is_shared f.is_local) (nodes f.body) v))
        (each-unflat P (λ (f : Function). flat_map (declared_by file.classes) (nodes f.body)) file.functions names) (each-unflat Defined function_variables file.functions vars)

    abbrev start_names : Static → List Item
    start_names x =
        declares_variable (variable_type file.classes (type_of_static file.statics x.name)) x.name ∷ flat_map (declared_by file.classes) (nodes x.start)

    static-nodes : Each P (flat_map start_names file.statics) → Each Defined (flat_map static_variables file.statics) → Each StartNamed file.statics
    static-nodes names vars =
        each-both (λ (x : Static). Each P (start_names x)) (λ (x : Static). Each Defined (static_variables x)) StartNamed file.statics
        (λ x n v.
        let is_static : Bool = x.is_local || not x.is_shared in (
          each-both (λ (e : Core). Each P (declared_by file.classes e)) (λ (e : Core). Each Defined (variable_of (owner_name x) x.is_shared is_static e)) (NodeStart x) (nodes x.start)
              (λ e a b. (a, each-mapped Q defines_variable (variable_of (owner_name x) x.is_shared is_static e) b)) (each-unflat P (declared_by file.classes) (nodes x.start) n.1)
              (each-unflat Defined (variable_of (owner_name x) x.is_shared is_static) (nodes x.start) v),
          n.0,
        ))
        (each-unflat P start_names file.statics names) (each-unflat Defined static_variables file.statics vars)

  -- what the plain file names
  named-as : (P : Item → Type 0) → Each P (core_named file) → Each P (named_in (sequenced_file file))
  named-as P u =
      let Q : Item → Type 0 = λ i. Unit {0} in
      let fs : List Item = flat_map (λ (f : Function). flat_map (declared_by file.classes) (nodes f.body)) file.functions in
      let xs : List Item = flat_map (start_names P Q) file.statics in
      each-two P (flat_map (λ (f : PlainFunction). flat_map (declared_at file.classes) (all_actions f.body)) (map function file.functions))
      (flat_map (λ (x : PlainStatic). flat_map (declared_at file.classes) (all_actions x.start)) (map static file.statics))
      (functions-name P Q (function-nodes P Q (each-left P fs xs u) (each-any (flat_map function_variables file.functions))))
      (statics-name P Q (static-nodes P Q (each-right P fs xs u) (each-any (flat_map static_variables file.statics))))

  abbrev items : List Item
  items = own_prototypes (sequenced_file file) ++ own_variables (sequenced_file file) ++ named_in (sequenced_file file)

  -- all that it defines and names
  items-as : (P : Item → Type 0) → Each P (core_items file) → Each P items
  items-as P u =
      let N : Item → Type 0 = λ i. Unit {0} in
      let D : CVariable → Type 0 = λ v. P (defines_variable v) in
      let ps : List Item = map (λ (f : Function). declares (prototype_of f.is_local f.name f.type)) file.functions in
      let os : List CVariable = map (static_variable file.classes) file.statics in
      let fs : List CVariable = flat_map function_variables file.functions in
      let xs : List CVariable = flat_map static_variables file.statics in
      let vs : List Item = map defines_variable (os ++ fs ++ xs) in
      let fn : List Item = flat_map (λ (f : Function). flat_map (declared_by file.classes) (nodes f.body)) file.functions in
      let xn : List Item = flat_map (start_names P P) file.statics in
      let front = each-left P (ps ++ vs) (fn ++ xn) u in
      let named = each-right P (ps ++ vs) (fn ++ xn) u in
      let vars : Each D (os ++ fs ++ xs) = each-unmapped P defines_variable (os ++ fs ++ xs) (each-right P ps vs front) in
      let first = each-left D (os ++ fs) xs vars in
      let function_nodes = function-nodes P P (each-left P fn xn named) (each-right D os fs first) in
      let static_nodes = static-nodes P P (each-right P fn xn named) (each-right D (os ++ fs) xs vars) in
      let plain_os : List CVariable = map (lowered_static file.classes) (map static file.statics) in
      let plain_fs : List CVariable = flat_map literals (map function file.functions) in
      let plain_xs : List CVariable = flat_map start_literals (map static file.statics) in
      each-two P (own_prototypes (sequenced_file file) ++ own_variables (sequenced_file file)) (named_in (sequenced_file file))
      (each-two P (own_prototypes (sequenced_file file)) (own_variables (sequenced_file file))
      (each-mapped P (λ (f : PlainFunction). declares (prototype f)) (map function file.functions)
      (each-mapped (λ (f : PlainFunction). P (declares (prototype f))) function file.functions
      (each-unmapped P (λ (f : Function). declares (prototype_of f.is_local f.name f.type)) file.functions (each-left P ps vs front))))
      (each-mapped P defines_variable (plain_os ++ plain_fs ++ plain_xs)
      (each-two D (plain_os ++ plain_fs) plain_xs
      (each-two D plain_os plain_fs
      (each-mapped D (lowered_static file.classes) (map static file.statics)
      (each-mapped (λ (x : PlainStatic). D (lowered_static file.classes x)) static file.statics
      (each-unmapped D (static_variable file.classes) file.statics (each-left D os fs first))))
      (functions-have P P function_nodes)) (statics-have P P static_nodes))))
      (named-as P named)

  pub names-lowered : core_names_fit file ≡ true → names_lowered (sequenced_file file) ≡ true
  names-lowered ok =
      let all : List Item = core_items file in
      let fs : Bool = list_all (λ (f : Function). may_be_function f.name) file.functions in
      let xs : Bool = list_all (λ (x : Static). may_be_object x.name) file.statics in
      let ns : Bool = list_all is_well_named (core_named file) in
      let os : Bool = list_all has_own_type all in
      let ss : Bool = list_all (same_types all) all in
      let one = both (fs && xs && ns && os && ss) (spellable_items all) ok in
      let two = both (fs && xs && ns && os) ss one.0 in
      let three = both (fs && xs && ns) os two.0 in
      let four = both (fs && xs) ns three.0 in
      let five = both fs xs four.0 in
      let plain_fs : List PlainFunction = map function file.functions in
      let plain_xs : List PlainStatic = map static file.statics in
      let f : Bool = list_all (λ (f : PlainFunction). may_be_function f.name) plain_fs in
      let x : Bool = list_all (λ (x : PlainStatic). may_be_object x.name) plain_xs in
      let n : Bool = list_all is_well_named (named_in (sequenced_file file)) in
      let o : Bool = list_all has_own_type items in
      let s : Bool = list_all (same_types items) items in
      all_of (f && x && n && o && s) (spellable_items items)
      (all_of (f && x && n && o) s
      (all_of (f && x && n) o
      (all_of (f && x) n
      (all_of f x
      (all-of (λ (f : PlainFunction). may_be_function f.name) plain_fs
      (each-mapped (λ (f : PlainFunction). may_be_function f.name ≡ true) function file.functions (each-of (λ (f : Function). may_be_function f.name) file.functions five.0)))
      (all-of (λ (x : PlainStatic). may_be_object x.name) plain_xs
      (each-mapped (λ (x : PlainStatic). may_be_object x.name ≡ true) static file.statics (each-of (λ (x : Static). may_be_object x.name) file.statics five.1))))
      (all-of is_well_named (named_in (sequenced_file file)) (named-as (λ i. is_well_named i ≡ true) (each-of is_well_named (core_named file) four.1))))
      (all-of has_own_type items (items-as (λ i. has_own_type i ≡ true) (each-of has_own_type all three.1))))
      (all-of (same_types items) items
      (items-as (λ i. same_types items i ≡ true)
      (each-as (λ i. same_types all i ≡ true) (λ i. same_types items i ≡ true) all
      (λ i ok. all-of (alike i) items (items-as (λ j. alike i j ≡ true) (each-of (alike i) all ok))) (each-of (same_types all) all two.1)))))
      (all-of spellable_item items (items-as (λ i. spellable_item i ≡ true) (each-of spellable_item all one.1)))
