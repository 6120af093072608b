-- What is copied from a core, and its literals and the operators of its initialisers.
use Rattle.std.proofs.Common.{◌≡◌, Bool, true, ◌&&◌, not, List, [], ◌∷◌, map, refl}
use Rattle.std.specs.List.{list_all, flat_map}
use Rattle.cf_base.proofs.Tests.{both, all_of}
use Rattle.cf_core.specs.Types.{SourceType, parameters}
use Rattle.cf_core.specs.Core.{Core, Role, plain_function, Function, Static, CoreFile}
use Rattle.cf_core.specs.Classes.{Class}
use Rattle.cf_core.specs.Nodes.{nodes}
use Rattle.cf_plain.specs.Plain.{Action, PlainFunction, PlainStatic}
use Rattle.cf_plain.specs.Plain as plain
use Rattle.cf_plain.specs.Named.{all_actions}
use Rattle.cf_sequence.specs.Built.{is_built_file, is_built_static, is_plain_role}
use Rattle.cf_sequence.specs.Built as built
use Rattle.cf_sequence.specs.Sequenced.{sequenced_function, sequenced_static, sequenced_start, sequenced_file}
use Rattle.cf_sequence.proofs.Calling.{never}
use Rattle.cf_lower_program.specs.Actions.{has_promoted, actions_lowered}
use Rattle.cf_lower_program.specs.Counts.{shared_apart}
use Rattle.cf_lower_program.specs.Lowerable.{is_none, is_plain}
use Rattle.cf_lower_program.specs.Starts.{text_fits, texts_fit}
use Rattle.cf_lower_program.specs.Types.{file_actions}
use Rattle.cf_sequence_lowered.specs.Counts.{none_shared_and_local}
use Rattle.cf_sequence_lowered.specs.Nodes.{in_functions, in_statics}
use Rattle.cf_sequence_lowered.specs.Operators.{operand_is_promoted, operands_are_promoted}
use Rattle.cf_sequence_lowered.specs.Texts.{literal_fits, literals_fit}
use Rattle.cf_sequence_lowered.proofs.Each.{Each, each-as, each-of, all-of, each-both, each-flat, each-mapped}
use Rattle.cf_sequence_lowered.proofs.Files.{AnyLabels, BuiltFunction, FunctionSuits, StaticSuits, no-classes, built-functions, built-statics, start-actions, actions-pass}
use Rattle.cf_sequence_lowered.proofs.Suits.{Suits, Declared, Passed, is_neutral}

-- ---- what is copied

no-class : (xs : List Class) → built.is_none xs ≡ true → is_none xs ≡ true
no-class [] ok = refl
no-class xs ok = never ok

pub has-no-classes : (file : CoreFile) → is_built_file file ≡ true → is_none (sequenced_file file).classes ≡ true
has-no-classes file ok = no-class file.classes (no-classes file ok)

plain-is : (r : Role) → is_plain_role r ≡ true → is_plain r ≡ true
plain-is plain_function ok = refl
plain-is r ok = never ok

pub all-plain : (file : CoreFile) → is_built_file file ≡ true → list_all (λ (f : PlainFunction). is_plain f.role) (sequenced_file file).functions ≡ true
all-plain file ok =
    all-of (λ (f : PlainFunction). is_plain f.role) (map (sequenced_function file.classes file.statics) file.functions)
    (each-mapped (λ (f : PlainFunction). is_plain f.role ≡ true) (sequenced_function file.classes file.statics) file.functions
    (each-as BuiltFunction (λ (f : Function). is_plain f.role ≡ true) file.functions (λ f b. plain-is f.role (BuiltFunction.plain_role b)) (built-functions file ok)))

pub shared-apart : (file : CoreFile) → none_shared_and_local file ≡ true → shared_apart (sequenced_file file) ≡ true
shared-apart file ok =
    let of_function : Function → Bool = λ f. not (f.is_shared && f.is_local) in
    let of_static : Static → Bool = λ x. not (x.is_shared && x.is_local) in
    let of_plain : PlainFunction → Bool = λ f. not (f.is_shared && f.is_local) in
    let of_object : PlainStatic → Bool = λ x. not (x.is_shared && x.is_local) in
    let fs : List PlainFunction = map (sequenced_function file.classes file.statics) file.functions in
    let xs : List PlainStatic = map (sequenced_static file.classes file.statics) file.statics in
    let p = both (list_all of_function file.functions) (list_all of_static file.statics) ok in
    all_of (list_all of_plain fs) (list_all of_object xs)
    (all-of of_plain fs
    (each-mapped (λ (f : PlainFunction). of_plain f ≡ true) (sequenced_function file.classes file.statics) file.functions (each-of of_function file.functions p.0)))
    (all-of of_object xs
    (each-mapped (λ (x : PlainStatic). of_object x ≡ true) (sequenced_static file.classes file.statics) file.statics (each-of of_static file.statics p.1)))

-- ---- literals

abbrev TextFits : Action → Type 0
TextFits a = text_fits a ≡ true

abbrev Literal : Core → Type 0
Literal e = literal_fits e ≡ true

neutral-texts : (a : Action) → is_neutral a ≡ true → TextFits a
neutral-texts (plain.local i) ok = refl
neutral-texts (plain.member r i) ok = refl
neutral-texts (plain.read r) ok = refl
neutral-texts (plain.dereference r) ok = refl
neutral-texts (plain.decay r) ok = refl
neutral-texts (plain.index r q) ok = refl
neutral-texts (plain.truth r) ok = refl
neutral-texts (plain.logical_not r) ok = refl
neutral-texts (plain.pointer_operate op r q) ok = refl
neutral-texts (plain.store r q) ok = refl
neutral-texts (plain.first r q) ok = refl
neutral-texts (plain.zeros r) ok = refl
neutral-texts (plain.begin_list r) ok = refl
neutral-texts (plain.end_list r) ok = refl
neutral-texts (plain.reach name) ok = refl
neutral-texts (plain.finish_static name) ok = refl
neutral-texts a ok = never ok

any-parameter : (ts : List SourceType) → Each (Declared TextFits AnyLabels Literal 0) ts
any-parameter [] = tt
any-parameter (t ∷ ts) = ((λ i. refl), any-parameter ts)

text-parameters : (ts : List SourceType) → Each (Passed TextFits AnyLabels Literal 0) ts
text-parameters [] = tt
text-parameters (t ∷ ts) = ((λ i. (refl, refl)), text-parameters ts)

texts-suit : Suits TextFits AnyLabels Literal 0
texts-suit = record {
  neutral = neutral-texts;
  counter = λ i. refl;
  number = λ z u. refl;
  text = λ j bytes u. u;
  static_object = λ name t u. refl;
  function = λ name t u. refl;
  convert = λ t e r u. refl;
  from_void = λ t e r u. refl;
  operate = λ op k a b r q u. refl;
  unary = λ op k e r u. refl;
  update = λ a b change r q u. refl;
  step = λ is_postfix change e r q u. refl;
  temporary = λ t e i u. (refl, refl);
  declare = λ t e i u. (refl, refl);
  held = λ t e i u. (refl, refl);
  call = λ name t args k into u le. refl;
  called = λ name t args u. refl;
  passed = λ name t args u. any-parameter (parameters t);
  pointer_call = λ e t args r k into u le. refl;
  passed_on = λ e t args u. any-parameter (parameters t);
  string = λ bytes r u. u;
  switch = λ e es u. tt;
}

pub texts-fit : (file : CoreFile) → is_built_file file ≡ true → literals_fit file ≡ true → texts_fit (sequenced_file file) ≡ true
texts-fit file built ok =
    let p = both (in_functions literal_fits file) (in_statics literal_fits file) ok in
    all-of text_fits (file_actions (sequenced_file file))
    (actions-pass TextFits Literal texts-suit file built
    (each-as (λ (f : Function). list_all literal_fits (nodes f.body) ≡ true) (FunctionSuits TextFits Literal texts-suit) file.functions
    (λ f ok. (each-of literal_fits (nodes f.body) ok, text-parameters (parameters f.type)))
    (each-of (λ (f : Function). list_all literal_fits (nodes f.body)) file.functions p.0))
    (each-as (λ (x : Static). list_all literal_fits (nodes x.start) ≡ true) (StaticSuits TextFits Literal texts-suit file.statics) file.statics
    (λ x ok. (each-of literal_fits (nodes x.start) ok, refl)) (each-of (λ (x : Static). list_all literal_fits (nodes x.start)) file.statics p.1)))

-- ---- the operators of initialisers

abbrev Promoted : Action → Type 0
Promoted a = has_promoted a ≡ true

abbrev Operand : Core → Type 0
Operand e = operand_is_promoted e ≡ true

neutral-promoted : (a : Action) → is_neutral a ≡ true → Promoted a
neutral-promoted (plain.local i) ok = refl
neutral-promoted (plain.member r i) ok = refl
neutral-promoted (plain.read r) ok = refl
neutral-promoted (plain.dereference r) ok = refl
neutral-promoted (plain.decay r) ok = refl
neutral-promoted (plain.index r q) ok = refl
neutral-promoted (plain.truth r) ok = refl
neutral-promoted (plain.logical_not r) ok = refl
neutral-promoted (plain.pointer_operate op r q) ok = refl
neutral-promoted (plain.store r q) ok = refl
neutral-promoted (plain.first r q) ok = refl
neutral-promoted (plain.zeros r) ok = refl
neutral-promoted (plain.begin_list r) ok = refl
neutral-promoted (plain.end_list r) ok = refl
neutral-promoted (plain.reach name) ok = refl
neutral-promoted (plain.finish_static name) ok = refl
neutral-promoted a ok = never ok

promoted-parameter : (ts : List SourceType) → Each (Declared Promoted AnyLabels Operand 0) ts
promoted-parameter [] = tt
promoted-parameter (t ∷ ts) = ((λ i. refl), promoted-parameter ts)

promoted-suit : Suits Promoted AnyLabels Operand 0
promoted-suit = record {
  neutral = neutral-promoted;
  counter = λ i. refl;
  number = λ z u. refl;
  text = λ j bytes u. refl;
  static_object = λ name t u. refl;
  function = λ name t u. refl;
  convert = λ t e r u. refl;
  from_void = λ t e r u. refl;
  operate = λ op k a b r q u. u;
  unary = λ op k e r u. u;
  update = λ a b change r q u. u;
  step = λ is_postfix change e r q u. u;
  temporary = λ t e i u. (refl, refl);
  declare = λ t e i u. (refl, refl);
  held = λ t e i u. (refl, refl);
  call = λ name t args k into u le. refl;
  called = λ name t args u. refl;
  passed = λ name t args u. promoted-parameter (parameters t);
  pointer_call = λ e t args r k into u le. refl;
  passed_on = λ e t args u. promoted-parameter (parameters t);
  string = λ bytes r u. refl;
  switch = λ e es u. tt;
}

pub actions-lowered : (file : CoreFile) → is_built_file file ≡ true → operands_are_promoted file ≡ true → actions_lowered (sequenced_file file) ≡ true
actions-lowered file built ok =
    all-of has_promoted (flat_map (λ (x : PlainStatic). all_actions x.start) (map (sequenced_static file.classes file.statics) file.statics))
    (each-flat Promoted (λ (x : PlainStatic). all_actions x.start) (sequenced_static file.classes file.statics) file.statics
    (each-both (λ (x : Static). is_built_static file.statics x ≡ true) (StaticSuits Promoted Operand promoted-suit file.statics)
    (λ (x : Static). Each Promoted (all_actions (sequenced_start file.classes file.statics x))) file.statics (start-actions Promoted Operand promoted-suit file) (built-statics file built)
    (each-as (λ (x : Static). list_all operand_is_promoted (nodes x.start) ≡ true) (StaticSuits Promoted Operand promoted-suit file.statics) file.statics
    (λ x ok. (each-of operand_is_promoted (nodes x.start) ok, refl)) (each-of (λ (x : Static). list_all operand_is_promoted (nodes x.start)) file.statics ok))))
