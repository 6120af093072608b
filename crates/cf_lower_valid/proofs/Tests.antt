-- What the tests of a lowered file say of each of its functions, static objects, actions and names.
use Rattle.std.proofs.Common.{◌≡◌, ℕ, ◌+◌, ◌^◌, ◌≤◌, nat_le, Bool, true, false, not, ◌&&◌, ◌||◌, List, [], ◌∷◌, ◌++◌, length, map, refl, subst, inl, inr, arith, length-append}
use Rattle.std.specs.Prelude.{is_some}
use Rattle.std.specs.List.{list_all, flat_map}
use Rattle.std.proofs.lemmas.Bool.Decides.{nat_tests}
use Rattle.cf_base.proofs.Tests.{both, all_of}
use Rattle.cf_core.specs.Types.{SourceType, is_void, parameters, result as result_type}
use Rattle.cf_core.specs.Core.{Role, plain_function}
use Rattle.cf_core.specs.Classes.{Class}
use Rattle.cf_core.specs.Typing.{is_function}
use Rattle.cf_core.specs.Valid.{classes_fit, overriders_exist, all_differ, is_complete, role_fits, class_of_role, result_fits}
use Rattle.cf_lower_layout.specs.Sorts.{sort_of}
use Rattle.cf_plain.specs.Plain.{Action, PlainFunction, PlainStatic, PlainFile}
use Rattle.cf_plain.specs.Named.{all_actions}
use Rattle.cf_plain.specs.Valid.{all_fit, body_fits, function_fits, static_fits}
use Rattle.cf_plain_kept.specs.Kept.{function_kept}
use Rattle.cc_whole.specs.Plain.{Item}
use Rattle.cc_whole.specs.Spellable.{spellable_item}
use Rattle.cf_lower.specs.Constants.{nothing_known}
use Rattle.cf_lower.specs.Functions.{all_bound, all_nesting, owner_of, own_prototypes, own_variables, named_in}
use Rattle.cf_lower_kept.specs.Ready.{function_ready}
use Rattle.cf_lower_program.specs.Types.{is_laid, is_lowered, is_callable, file_actions, types_at, types_in, is_well_typed}
use Rattle.cf_lower_program.specs.Names.{may_be_function, may_be_object, is_well_named, has_own_type, same_types}
use Rattle.cf_lower_program.specs.Starts.{starts_known, owner_there, text_fits}
use Rattle.cf_lower_program.specs.Labels.{all_labels_fit}
use Rattle.cf_lower_program.specs.Counts.{function_counts}
use Rattle.cf_lower_program.specs.Lowerable.{is_plain, Lowerable}
use Rattle.cf_lower_valid_body.specs.Scope.{is_lowered_action}
use Rattle.cc_whole_sections.specs.Sections.{In, Every}
use Rattle.cc_whole_sections.proofs.Names.{in-left, in-right}
use Rattle.cf_lower_valid.proofs.Own.{in-flat}
use Rattle.cf_lower_valid.proofs.Once.{no-not}

-- ---- tests of lists

pub all-in : {A : Type 0} (test : A → Bool) (xs : List A) → list_all test xs ≡ true → Every (λ x. test x ≡ true) xs
all-in test [] e y k = absurd k
all-in test (x ∷ xs) e y (inl k) = subst (λ z. test z ≡ true) k (both (test x) (list_all test xs) e).0
all-in test (x ∷ xs) e y (inr k) = all-in test xs (both (test x) (list_all test xs) e).1 y k

pub in-all : {A : Type 0} (test : A → Bool) (xs : List A) → Every (λ x. test x ≡ true) xs → list_all test xs ≡ true
in-all test [] h = refl
in-all test (x ∷ xs) h = all_of (test x) (list_all test xs) (h x (inl refl)) (in-all test xs (λ y k. h y (inr k)))

pub three-parts : (a b c : Bool) → (a && b && c) ≡ true → (a ≡ true) × (b ≡ true) × (c ≡ true)
three-parts a b c h =
    let x = both (a && b) c h in
    let y = both a b x.0 in
    (y.0, y.1, x.1)

pub five-parts : (a b c d e : Bool) → (a && b && c && d && e) ≡ true → (a ≡ true) × (b ≡ true) × (c ≡ true) × (d ≡ true) × (e ≡ true)
five-parts a b c d e h =
    let x = both (a && b && c && d) e h in
    let y = both (a && b && c) d x.0 in
    let z = three-parts a b c y.0 in
    (z.0, z.1, z.2, y.1, x.1)

pub small : (n m : ℕ) → nat_le n m ≡ true → n ≤ m
small n m e = grind (arith, nat_tests, e)

-- the parts of `is_callable`
pub callable-few : (t : SourceType) → is_callable t ≡ true → length (parameters t) ≤ 2 ^ 64
callable-few t e =
    small (length (parameters t)) (2 ^ 64)
    (three-parts (nat_le (length (parameters t)) (2 ^ 64)) (list_all (λ p. is_some (sort_of p)) (parameters t)) (is_void (result_type t) || is_some (sort_of (result_type t))) e).0

pub callable-scalars : (t : SourceType) → is_callable t ≡ true → list_all (λ p. is_some (sort_of p)) (parameters t) ≡ true
callable-scalars t e =
    (three-parts (nat_le (length (parameters t)) (2 ^ 64)) (list_all (λ p. is_some (sort_of p)) (parameters t)) (is_void (result_type t) || is_some (sort_of (result_type t))) e).1

-- a file without classes
abbrev pub file_of : List PlainFunction → List PlainStatic → PlainFile
file_of fs xs = record { classes = []; functions = fs; statics = xs }

module _ (fs : List PlainFunction) (xs : List PlainStatic) (low : Lowerable (file_of fs xs)) where
  abbrev file : PlainFile
  file = file_of fs xs

  -- ---- names

  abbrev pub tested : List Item
  tested = own_prototypes file ++ own_variables file ++ named_in file

  pub record NamesTold : Type 0 where
    pub functions : Every (λ (f : PlainFunction). may_be_function f.name ≡ true) fs
    pub statics : Every (λ (x : PlainStatic). may_be_object x.name ≡ true) xs
    pub named : Every (λ i. is_well_named i ≡ true) (named_in file)
    pub own : Every (λ i. has_own_type i ≡ true) tested
    pub types : Every (λ i. same_types tested i ≡ true) tested
    pub spelled : Every (λ i. spellable_item i ≡ true) tested

  pub names-told : NamesTold
  names-told =
      let a = list_all (λ (f : PlainFunction). may_be_function f.name) fs in
      let b = list_all (λ (x : PlainStatic). may_be_object x.name) xs in
      let c = list_all is_well_named (named_in file) in
      let d = list_all has_own_type tested in
      let e = list_all (same_types tested) tested in
      let s = list_all spellable_item tested in
      let last = both (a && b && c && d && e) s low.names in
      let rest = five-parts a b c d e last.0 in
      record {
        functions = all-in (λ (f : PlainFunction). may_be_function f.name) fs rest.0;
        statics = all-in (λ (x : PlainStatic). may_be_object x.name) xs rest.1;
        named = all-in is_well_named (named_in file) rest.2;
        own = all-in has_own_type tested rest.3;
        types = all-in (same_types tested) tested rest.4;
        spelled = all-in spellable_item tested last.1;
      }

  -- ---- actions

  pub action-of-function : (f : PlainFunction) (a : Action) → In f fs → In a (all_actions f.body) → In a (file_actions file)
  action-of-function f a h m =
      in-left a (flat_map (λ (f : PlainFunction). all_actions f.body) fs) (flat_map (λ (x : PlainStatic). all_actions x.start) xs)
      (in-flat (λ (f : PlainFunction). all_actions f.body) f a fs h m)

  pub action-of-static : (x : PlainStatic) (a : Action) → In x xs → In a (all_actions x.start) → In a (file_actions file)
  action-of-static x a h m =
      in-right a (flat_map (λ (f : PlainFunction). all_actions f.body) fs) (flat_map (λ (x : PlainStatic). all_actions x.start) xs)
      (in-flat (λ (x : PlainStatic). all_actions x.start) x a xs h m)

  abbrev types_of_functions : List SourceType
  types_of_functions = flat_map (λ (f : PlainFunction). f.type ∷ f.locals) fs

  abbrev types_of_statics : List SourceType
  types_of_statics = flat_map (λ (x : PlainStatic). x.type ∷ x.locals) xs

  abbrev types_of_actions : List SourceType
  types_of_actions = flat_map types_at (file_actions file)

  record TypesTold : Type 0 where
    lowered : Every (λ t. is_lowered t ≡ true) (types_of_functions ++ types_of_statics ++ types_of_actions)
    actions : Every (λ a. is_well_typed a ≡ true) (file_actions file)
    functions : Every (λ (f : PlainFunction). (is_callable f.type && list_all is_laid (parameters f.type ++ f.locals)) ≡ true) fs
    statics : Every (λ (x : PlainStatic). is_laid x.type ≡ true) xs

  types-told : TypesTold
  types-told =
      let a = list_all is_lowered (types_in file) in
      let b = list_all is_well_typed (file_actions file) in
      let c = list_all (λ (f : PlainFunction). is_callable f.type && list_all is_laid (parameters f.type ++ f.locals)) fs in
      let d = list_all (λ (x : PlainStatic). is_laid x.type) xs in
      let all = three-parts a b (c && d) low.types in
      let laid = both c d all.2 in
      record {
        lowered = all-in is_lowered (types_in file) all.0;
        actions = all-in is_well_typed (file_actions file) all.1;
        functions = all-in (λ (f : PlainFunction). is_callable f.type && list_all is_laid (parameters f.type ++ f.locals)) fs laid.0;
        statics = all-in (λ (x : PlainStatic). is_laid x.type) xs laid.1;
      }

  pub action-typed : (a : Action) → In a (file_actions file) → is_well_typed a ≡ true
  action-typed a h = types-told.actions a h

  pub action-text : (a : Action) → In a (file_actions file) → text_fits a ≡ true
  action-text a h = all-in text_fits (file_actions file) low.texts a h

  pub action-lowered : (a : Action) → In a (file_actions file) → is_lowered_action a ≡ true
  action-lowered a h =
      all_of (list_all is_lowered (types_at a) && is_well_typed a) (text_fits a)
      (all_of (list_all is_lowered (types_at a)) (is_well_typed a)
      (in-all is_lowered (types_at a) (λ t k. types-told.lowered t
      (in-right t (types_of_functions ++ types_of_statics) types_of_actions (in-flat types_at a t (file_actions file) h k))))
      (action-typed a h))
      (action-text a h)

  -- ---- functions

  pub record FunctionTold (f : PlainFunction) : Type 0 where
    pub name : may_be_function f.name ≡ true
    pub kept : function_kept f ≡ true
    pub ready : function_ready f ≡ true
    pub fit : all_fit (parameters f.type ++ f.locals) false false f.body ≡ true
    pub labels : all_labels_fit f.body ≡ true
    pub callable : is_callable f.type ≡ true
    pub laid : list_all is_laid (parameters f.type ++ f.locals) ≡ true
    pub complete : list_all (is_complete []) (parameters f.type ++ f.locals) ≡ true
    pub lowered : is_lowered f.type ≡ true
    pub locals_lowered : list_all is_lowered f.locals ≡ true
    pub registers : all_bound f.body ≤ 2 ^ 64
    pub flags : all_nesting f.body ≤ 2 ^ 64
    pub few : length (parameters f.type) + length f.locals ≤ 2 ^ 64
    pub shared : (f.is_shared && f.is_local) ≡ false

  plain-body : (f : PlainFunction) (role : Role) → is_plain role ≡ true → body_fits (parameters f.type ++ f.locals) [] role f.body ≡ true
      → all_fit (parameters f.type ++ f.locals) false false f.body ≡ true
  plain-body f plain_function p e = e
  plain-body f role p e = absurd (cc)

  abbrev differ : Bool
  differ = all_differ (map (λ (f : PlainFunction). f.name) fs ++ map (λ (x : PlainStatic). x.name) xs)

  pub record ValidTold : Type 0 where
    pub differ_all : differ ≡ true
    pub functions : Every (λ f. function_fits file f ≡ true) fs
    pub statics : Every (λ x. static_fits file x ≡ true) xs

  pub valid-told : ValidTold
  valid-told =
      let all = five-parts (classes_fit [] []) (list_all (λ (c : Class). overriders_exist [] c.code) []) differ (list_all (function_fits file) fs) (list_all (static_fits file) xs) low.valid in
      record {
        differ_all = all.2;
        functions = all-in (function_fits file) fs all.3;
        statics = all-in (static_fits file) xs all.4;
      }

  pub function-told : (f : PlainFunction) → In f fs → FunctionTold f
  function-told f h =
      let ps = parameters f.type in
      let fit = five-parts (is_function f.type) (role_fits [] (class_of_role f.role)) (list_all (is_complete []) (ps ++ f.locals)) (result_fits [] (result_type f.type))
      (body_fits (ps ++ f.locals) [] f.role f.body) (valid-told.functions f h) in
      let laid = both (is_callable f.type) (list_all is_laid (ps ++ f.locals)) (types-told.functions f h) in
      let counts = three-parts (nat_le (all_bound f.body) (2 ^ 64)) (nat_le (all_nesting f.body) (2 ^ 64)) (nat_le (length (ps ++ f.locals)) (2 ^ 64)) (all-in function_counts fs low.counts f h) in
      let apart = both (list_all (λ (f : PlainFunction). not (f.is_shared && f.is_local)) fs) (list_all (λ (x : PlainStatic). not (x.is_shared && x.is_local)) xs) low.shared in
      let few = small (length (ps ++ f.locals)) (2 ^ 64) counts.2 in
      record {
        name = names-told.functions f h;
        kept = all-in function_kept fs low.kept f h;
        ready = all-in function_ready fs low.ready f h;
        fit = plain-body f f.role (all-in (λ (f : PlainFunction). is_plain f.role) fs low.roles f h) fit.4;
        labels = all-in (λ (f : PlainFunction). all_labels_fit f.body) fs low.labels f h;
        callable = laid.0;
        laid = laid.1;
        complete = fit.2;
        lowered = types-told.lowered f.type
            (in-left f.type (types_of_functions ++ types_of_statics) types_of_actions
            (in-left f.type types_of_functions types_of_statics
            (in-flat (λ (f : PlainFunction). f.type ∷ f.locals) f f.type fs h (inl refl))));
        locals_lowered = in-all is_lowered f.locals (λ t k. types-told.lowered t
            (in-left t (types_of_functions ++ types_of_statics) types_of_actions
            (in-left t types_of_functions types_of_statics
            (in-flat (λ (f : PlainFunction). f.type ∷ f.locals) f t fs h (inr k)))));
        registers = small (all_bound f.body) (2 ^ 64) counts.0;
        flags = small (all_nesting f.body) (2 ^ 64) counts.1;
        few = subst (λ n. n ≤ 2 ^ 64) (length-append ps f.locals) few;
        shared = no-not (f.is_shared && f.is_local) (all-in (λ (f : PlainFunction). not (f.is_shared && f.is_local)) fs apart.0 f h);
      }

  -- ---- static objects

  pub record StaticTold (x : PlainStatic) : Type 0 where
    pub name : may_be_object x.name ≡ true
    pub laid : is_laid x.type ≡ true
    pub known : starts_known x.start (owner_of x) nothing_known ≡ true
    pub shared : (x.is_shared && x.is_local) ≡ false

  pub static-told : (x : PlainStatic) → In x xs → StaticTold x
  static-told x h =
      let known = three-parts x.is_constant (starts_known x.start (owner_of x) nothing_known) (owner_there fs x)
      (all-in (λ (x : PlainStatic). x.is_constant && starts_known x.start (owner_of x) nothing_known && owner_there fs x) xs low.statics x h) in
      let apart = both (list_all (λ (f : PlainFunction). not (f.is_shared && f.is_local)) fs) (list_all (λ (x : PlainStatic). not (x.is_shared && x.is_local)) xs) low.shared in
      record {
        name = names-told.statics x h;
        laid = types-told.statics x h;
        known = known.1;
        shared = no-not (x.is_shared && x.is_local) (all-in (λ (x : PlainStatic). not (x.is_shared && x.is_local)) xs apart.1 x h);
      }
