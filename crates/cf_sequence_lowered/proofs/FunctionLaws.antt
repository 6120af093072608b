-- The labels of switches, the numbers of registers, flags and locals, and the objects of calls' arguments.
use Rattle.std.proofs.Common.{◌≡◌, ℕ, suc, ◌+◌, ◌*◌, ◌^◌, ◌≤◌, Bool, true, ◌&&◌, nat_le, nat_lt, List, [], ◌∷◌, ◌++◌, map, length, length-append, ap, ◌∙◌, arith}
use Rattle.std.specs.Prelude.{ℤ}
use Rattle.std.specs.List.{list_all, flat_map}
use Rattle.std.proofs.lemmas.Bool.Decides.{nat_tests}
use Rattle.std.proofs.Math.Nat.{mul-le-mul_left}
use Rattle.cf_base.proofs.Tests.{both, all_of}
use Rattle.cf_core.specs.Types.{SourceType, parameters}
use Rattle.cf_core.specs.Core as core
use Rattle.cf_core.specs.Core.{Core, Function, CoreFile}
use Rattle.cf_core.specs.Nodes.{nodes}
use Rattle.cf_plain.specs.Plain.{Action, Plains, PlainFunction}
use Rattle.cf_plain.specs.Plain as plain
use Rattle.cf_plain.specs.Named.{all_actions}
use Rattle.cf_sequence.specs.Built.{is_built_file}
use Rattle.cf_sequence.specs.Made.{added, numbers}
use Rattle.cf_sequence.specs.Sequenced.{sequenced_body, sequenced_function, sequenced_file}
use Rattle.cf_sequence.proofs.Calling.{never}
use Rattle.cf_lower.specs.Functions.{all_bound, all_nesting, arguments_at}
use Rattle.cf_lower_program.specs.Counts.{function_counts, counts_fit}
use Rattle.cf_lower_program.specs.Labels.{one_kind, all_labels_fit, switches_fit}
use Rattle.cf_lower_program.specs.Passed.{behind_parameters, arguments_apart}
use Rattle.cf_sequence_lowered.specs.Counts.{is_small, all_small}
use Rattle.cf_sequence_lowered.specs.Nodes.{core_labels}
use Rattle.cf_sequence_lowered.specs.Labels.{labels_agree, all_labels_agree}
use Rattle.cf_sequence_lowered.proofs.Each.{Each, each-of, all-of, each-both, each-joined, each-mapped}
use Rattle.cf_sequence_lowered.proofs.Files.{AnyLabels, BuiltFunction, built-functions}
use Rattle.cf_sequence_lowered.proofs.Functions.{function-passes, registers_of, width_of, space-of}
use Rattle.cf_sequence_lowered.proofs.Suits.{Suits, Declared, Passed, is_neutral}
use Rattle.cf_sequence_lowered.proofs.Told.{all-actions-pass, bounds-within, nestings-within, all-labels-one}
use Rattle.cf_sequence_lowered.proofs.Walk.{AllPass}

-- a test of all functions
module _ (test : PlainFunction → Bool) (P : Function → Type 0) (file : CoreFile) where
  all-functions : Each P file.functions → is_built_file file ≡ true → ((f : Function) → BuiltFunction f → P f → test (sequenced_function file.classes file.statics f) ≡ true)
      → list_all test (sequenced_file file).functions ≡ true
  all-functions good built go =
      all-of test (map (sequenced_function file.classes file.statics) file.functions)
      (each-mapped (λ (f : PlainFunction). test f ≡ true) (sequenced_function file.classes file.statics) file.functions
      (each-both BuiltFunction P (λ (f : Function). test (sequenced_function file.classes file.statics f) ≡ true) file.functions go (built-functions file built) good))

-- ---- any actions

abbrev Any : Action → Type 0
Any a = Unit {0}

module _ (L : List ℤ → Type 0) (U : Core → Type 0) (labels : (e : Core) (es : core.Cores) → U (core.switch e es) → L (core_labels es)) where
  any-declared : (ts : List SourceType) → Each (Declared Any L U 0) ts
  any-declared [] = tt
  any-declared (t ∷ ts) = ((λ i. tt), any-declared ts)

  any-passed : (ts : List SourceType) → Each (Passed Any L U 0) ts
  any-passed [] = tt
  any-passed (t ∷ ts) = ((λ i. (tt, tt)), any-passed ts)

  any-suit : Suits Any L U 0
  any-suit = record {
    neutral = λ a ok. tt;
    counter = λ i. tt;
    number = λ z u. tt;
    text = λ j bytes u. tt;
    static_object = λ name t u. tt;
    function = λ name t u. tt;
    convert = λ t e r u. tt;
    from_void = λ t e r u. tt;
    operate = λ op k a b r q u. tt;
    unary = λ op k e r u. tt;
    update = λ a b change r q u. tt;
    step = λ is_postfix change e r q u. tt;
    temporary = λ t e i u. (tt, tt);
    declare = λ t e i u. (tt, tt);
    held = λ t e i u. (tt, tt);
    call = λ name t args k into u le. tt;
    called = λ name t args u. tt;
    passed = λ name t args u. any-declared (parameters t);
    pointer_call = λ e t args r k into u le. tt;
    passed_on = λ e t args u. any-declared (parameters t);
    string = λ bytes r u. tt;
    switch = labels;
  }

  any-body : (file : CoreFile) (f : Function) → BuiltFunction f → Each U (nodes f.body)
      → AllPass Any L (registers_of (nodes f.body)) (sequenced_body file.classes file.statics f) (length (nodes f.body))
  any-body file f built u =
      let es : List Core = nodes f.body in
      function-passes Any L U (registers_of es) 0 (width_of es) any-suit (length es) file.classes file.statics f (BuiltFunction.body built) u (any-passed (parameters f.type))
      (space-of 0 (length (parameters f.type) + length f.locals) es (omega arith))

-- ---- labels

abbrev Agrees : Core → Type 0
Agrees e = labels_agree e ≡ true

abbrev OneKind : List ℤ → Type 0
OneKind zs = one_kind zs ≡ true

pub labels-fit : (file : CoreFile) → is_built_file file ≡ true → all_labels_agree file ≡ true → switches_fit (sequenced_file file) ≡ true
labels-fit file built ok =
    all-functions (λ (f : PlainFunction). all_labels_fit f.body) (λ (f : Function). list_all labels_agree (nodes f.body) ≡ true) file
    (each-of (λ (f : Function). list_all labels_agree (nodes f.body)) file.functions ok) built
    (λ f b ok.
    all-labels-one Any (registers_of (nodes f.body)) (sequenced_body file.classes file.statics f) (length (nodes f.body))
    (any-body OneKind Agrees (λ e es u. u) file f b (each-of labels_agree (nodes f.body) ok)))

-- ---- numbers

every-node : (es : List Core) → Each (λ (e : Core). Unit {0}) es
every-node [] = tt
every-node (e ∷ es) = (tt, every-node es)

below : (n m : ℕ) → nat_lt n m ≡ true → suc n ≤ m
below n m ok = grind (arith, nat_tests)

at-most : (n m : ℕ) → n ≤ m → nat_le n m ≡ true
at-most n m le = grind (arith, nat_tests)

-- a product of two numbers that are not too large
few : (w n : ℕ) → w ≤ 2147483652 → n ≤ 2147483647 → 0 + w + 3 * n + w * n ≤ 18446744073709551616
few w n small few_nodes =
    let product = mul-le-mul_left w few_nodes in
    omega (arith, product)

small-counts : (file : CoreFile) (f : Function) → BuiltFunction f → is_small f ≡ true → function_counts (sequenced_function file.classes file.statics f) ≡ true
small-counts file f built ok =
    let es : List Core = nodes f.body in
    let ss : Plains = sequenced_body file.classes file.statics f in
    let locals : List SourceType = parameters f.type ++ (f.locals ++ added es) in
    let p = both (nat_lt (length es) (2 ^ 31)) (nat_lt (length locals) (2 ^ 31)) ok in
    let nodes_few : suc (length es) ≤ 2147483648 = below (length es) (2 ^ 31) p.0 in
    let locals_few : suc (length locals) ≤ 2147483648 = below (length locals) (2 ^ 31) p.1 in
    let sum : length locals ≡ length (parameters f.type) + (length f.locals + length (added es)) =
    length-append (parameters f.type) (f.locals ++ added es) ∙ ap (λ n. length (parameters f.type) + n) (length-append f.locals (added es)) in
    let passes = any-body AnyLabels (λ (e : Core). Unit {0}) (λ e es u. tt) file f built (every-node es) in
    let registers : all_bound ss ≤ registers_of es = bounds-within Any AnyLabels (registers_of es) ss (length es) passes in
    let deep : all_nesting ss ≤ length es = nestings-within Any AnyLabels (registers_of es) ss (length es) passes in
    let enough : registers_of es ≤ 18446744073709551616 = few (width_of es) (length es) (omega arith) (omega arith) in
    let first : nat_le (all_bound ss) (2 ^ 64) ≡ true = at-most (all_bound ss) 18446744073709551616 (omega arith) in
    let second : nat_le (all_nesting ss) (2 ^ 64) ≡ true = at-most (all_nesting ss) 18446744073709551616 (omega arith) in
    let third : nat_le (length locals) (2 ^ 64) ≡ true = at-most (length locals) 18446744073709551616 (omega arith) in
    all_of (nat_le (all_bound ss) (2 ^ 64) && nat_le (all_nesting ss) (2 ^ 64)) (nat_le (length locals) (2 ^ 64))
    (all_of (nat_le (all_bound ss) (2 ^ 64)) (nat_le (all_nesting ss) (2 ^ 64)) first second) third

pub counts-fit : (file : CoreFile) → is_built_file file ≡ true → all_small file ≡ true → counts_fit (sequenced_file file) ≡ true
counts-fit file built ok = all-functions function_counts (λ (f : Function). is_small f ≡ true) file (each-of is_small file.functions ok) built (small-counts file)

-- ---- the objects of arguments

module _ (p : ℕ) where
  abbrev Behind : Action → Type 0
  Behind a = Each (λ i. nat_le p i ≡ true) (arguments_at a)

  abbrev AnyNode : Core → Type 0
  AnyNode e = Unit {0}

  numbers-behind : (k : ℕ) (ts : List SourceType) → p ≤ k → Each (λ i. nat_le p i ≡ true) (numbers k ts)
  numbers-behind k [] le = tt
  numbers-behind k (t ∷ ts) le = (at-most p k le, numbers-behind (suc k) ts (omega arith))

  declared-behind : (ts : List SourceType) → Each (Declared Behind AnyLabels AnyNode p) ts
  declared-behind [] = tt
  declared-behind (t ∷ ts) = ((λ i. tt), declared-behind ts)

  passed-behind : (ts : List SourceType) → Each (Passed Behind AnyLabels AnyNode p) ts
  passed-behind [] = tt
  passed-behind (t ∷ ts) = ((λ i. (tt, tt)), passed-behind ts)

  neutral-behind : (a : Action) → is_neutral a ≡ true → Behind a
  neutral-behind (plain.local i) ok = tt
  neutral-behind (plain.member r i) ok = tt
  neutral-behind (plain.read r) ok = tt
  neutral-behind (plain.dereference r) ok = tt
  neutral-behind (plain.decay r) ok = tt
  neutral-behind (plain.index r q) ok = tt
  neutral-behind (plain.truth r) ok = tt
  neutral-behind (plain.logical_not r) ok = tt
  neutral-behind (plain.pointer_operate op r q) ok = tt
  neutral-behind (plain.store r q) ok = tt
  neutral-behind (plain.first r q) ok = tt
  neutral-behind (plain.zeros r) ok = tt
  neutral-behind (plain.begin_list r) ok = tt
  neutral-behind (plain.end_list r) ok = tt
  neutral-behind (plain.reach name) ok = tt
  neutral-behind (plain.finish_static name) ok = tt
  neutral-behind a ok = never ok

  behind-suit : Suits Behind AnyLabels AnyNode p
  behind-suit = record {
    neutral = neutral-behind;
    counter = λ i. tt;
    number = λ z u. tt;
    text = λ j bytes u. tt;
    static_object = λ name t u. tt;
    function = λ name t u. tt;
    convert = λ t e r u. tt;
    from_void = λ t e r u. tt;
    operate = λ op k a b r q u. tt;
    unary = λ op k e r u. tt;
    update = λ a b change r q u. tt;
    step = λ is_postfix change e r q u. tt;
    temporary = λ t e i u. (tt, tt);
    declare = λ t e i u. (tt, tt);
    held = λ t e i u. (tt, tt);
    call = λ name t args k into u le. numbers-behind k (parameters t) le;
    called = λ name t args u. tt;
    passed = λ name t args u. declared-behind (parameters t);
    pointer_call = λ e t args r k into u le. numbers-behind k (parameters t) le;
    passed_on = λ e t args u. declared-behind (parameters t);
    string = λ bytes r u. tt;
    switch = λ e es u. tt;
  }

behind-of : (file : CoreFile) (f : Function) → BuiltFunction f → behind_parameters (sequenced_function file.classes file.statics f) ≡ true
behind-of file f built =
    let es : List Core = nodes f.body in
    let ss : Plains = sequenced_body file.classes file.statics f in
    let n : ℕ = length (parameters f.type) in
    all-of (λ i. nat_le n i) (flat_map arguments_at (all_actions ss))
    (each-joined (λ i. nat_le n i ≡ true) arguments_at (all_actions ss)
    (all-actions-pass (Behind n) AnyLabels (registers_of es) ss (length es)
    (function-passes (Behind n) AnyLabels (AnyNode n) (registers_of es) n (width_of es) (behind-suit n) (length es) file.classes file.statics f (BuiltFunction.body built) (every-node es)
    (passed-behind n (parameters f.type)) (space-of n (n + length f.locals) es (omega arith)))))

pub arguments-apart : (file : CoreFile) → is_built_file file ≡ true → arguments_apart (sequenced_file file) ≡ true
arguments-apart file built =
    all-functions behind_parameters BuiltFunction file (built-functions file built) built (λ f b same. behind-of file f b)
