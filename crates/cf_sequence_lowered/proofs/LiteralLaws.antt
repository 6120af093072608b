-- Literals: where those of a core have names of their own, those of its plain file do.
use Rattle.std.proofs.Common.{◌≡◌, ℕ, ◌+◌, ◌≤◌, Bool, true, false, ◌||◌, not, List, [], ◌∷◌, ◌++◌, map, refl, sym, ap, ◌∙◌, subst, arith}
use Rattle.std.specs.Prelude.{bytes_eq}
use Rattle.std.specs.List.{list_any, flat_map}
use Rattle.std.proofs.lemmas.List.Concat.{flat_map-append}
use Rattle.cf_base.proofs.Tests.{both, all_of, bytes_same, same_bytes}
use Rattle.cf_core.specs.Types.{Name}
use Rattle.cf_core.specs.Core as core
use Rattle.cf_core.specs.Core.{Core, Function, Static, CoreFile}
use Rattle.cf_core.specs.Nodes.{nodes}
use Rattle.cf_core.specs.Valid.{all_differ}
use Rattle.cf_plain.specs.Plain.{Action, Plain, Plains, PlainParts, PlainFunction, PlainStatic, act, set, branch, loop, switch, case_label, default_label, leave, continue, give, parts, nothing, more, no_parts, part}
use Rattle.cf_plain.specs.Plain as plain
use Rattle.cf_plain.specs.Named.{actions, all_actions, part_actions}
use Rattle.cf_sequence.specs.Built.{is_built_file, is_built_static}
use Rattle.cf_sequence.specs.Sequenced.{sequenced_body, sequenced_start, sequenced_function, sequenced_static, sequenced_file}
use Rattle.cf_sequence.proofs.Calling.{never}
use Rattle.cc_whole.specs.declared.unit.CVariable.{CVariable}
use Rattle.cf_lower.specs.Functions.{literal_at, literals, start_literals}
use Rattle.cf_lower.specs.Written.{literal_name}
use Rattle.cf_lower_program.specs.Names.{literals_differ}
use Rattle.cf_sequence_lowered.specs.Literals.{literal_of, owner_name, core_literals_differ}
use Rattle.cf_sequence_lowered.proofs.Each.{Each}
use Rattle.cf_sequence_lowered.proofs.Files.{BuiltFunction, built-functions, built-statics}
use Rattle.cf_sequence_lowered.proofs.Weights.{weight, mass_of, mass, mass_of_parts, nodes_weight}
use Rattle.cf_sequence_lowered.proofs.WeightStatements.{light-body, light-static}

-- ---- how often a name stands in a list

abbrev one_if : Bool → ℕ
one_if true = 1
one_if false = 0

abbrev occurs : Name → List Name → ℕ
occurs n [] = 0
occurs n (x ∷ xs) = one_if (bytes_eq n x) + occurs n xs

occurs-two : (n : Name) (xs ys : List Name) → occurs n (xs ++ ys) ≡ occurs n xs + occurs n ys
occurs-two n [] ys = omega arith
occurs-two n (x ∷ xs) ys = let two = occurs-two n xs ys in omega arith

occurs-none : (n : Name) (xs : List Name) → list_any (bytes_eq n) xs ≡ false → occurs n xs ≡ 0
occurs-none n [] e = refl
occurs-none n (x ∷ xs) e = by (bytes_eq n x) e (λ e. occurs-none n xs e)
  where
    by : (b : Bool) → b || list_any (bytes_eq n) xs ≡ false → (list_any (bytes_eq n) xs ≡ false → occurs n xs ≡ 0) → one_if b + occurs n xs ≡ 0
    by true e go = never (sym e)
    by false e go = let later = go e in omega arith

occurs-some : (n : Name) (xs : List Name) → list_any (bytes_eq n) xs ≡ true → 1 ≤ occurs n xs
occurs-some n [] e = never e
occurs-some n (x ∷ xs) e = by (bytes_eq n x) e (λ e. occurs-some n xs e)
  where
    by : (b : Bool) → b || list_any (bytes_eq n) xs ≡ true → (list_any (bytes_eq n) xs ≡ true → 1 ≤ occurs n xs) → 1 ≤ one_if b + occurs n xs
    by true e go = omega arith
    by false e go = let later = go e in omega arith

negated : (b : Bool) → not b ≡ true → b ≡ false
negated true e = never e
negated false e = refl

-- names that differ stand there once at most
differ-once : (xs : List Name) → all_differ xs ≡ true → (n : Name) → occurs n xs ≤ 1
differ-once [] ok n = omega arith
differ-once (x ∷ xs) ok n = by (bytes_eq n x) refl (λ ok. differ-once xs ok n)
  where
    parts : (not (list_any (bytes_eq x) xs) ≡ true) × (all_differ xs ≡ true)
    parts = both (not (list_any (bytes_eq x) xs)) (all_differ xs) ok

    by : (b : Bool) → bytes_eq n x ≡ b → (all_differ xs ≡ true → occurs n xs ≤ 1) → one_if b + occurs n xs ≤ 1
    by true is go =
        let same : n ≡ x = same_bytes n x is in
        let none : occurs n xs ≡ 0 = occurs-none n xs (negated (list_any (bytes_eq n) xs) (subst (λ m. not (list_any (bytes_eq m) xs) ≡ true) (sym same) parts.0)) in
        omega arith
    by false is go = let later = go parts.1 in omega arith

once-differ : (xs : List Name) → ((n : Name) → occurs n xs ≤ 1) → all_differ xs ≡ true
once-differ [] once = refl
once-differ (x ∷ xs) once =
    all_of (not (list_any (bytes_eq x) xs)) (all_differ xs) (by (list_any (bytes_eq x) xs) refl)
    (once-differ xs (λ n. let here = once n in omega arith))
  where
    here : occurs x (x ∷ xs) ≡ 1 + occurs x xs
    here = ap (λ b. one_if b + occurs x xs) (bytes_same x x refl)

    by : (b : Bool) → list_any (bytes_eq x) xs ≡ b → not b ≡ true
    by true e = let some = occurs-some x xs e in let first = once x in let is = here in absurd (omega arith)
    by false e = refl

-- ---- literals

names-two : (vs ws : List CVariable) → map (λ (v : CVariable). v.name) (vs ++ ws) ≡ map (λ (v : CVariable). v.name) vs ++ map (λ (v : CVariable). v.name) ws
names-two [] ws = refl
names-two (v ∷ vs) ws = ap (λ ns. v.name ∷ ns) (names-two vs ws)

module _ (n : Name) where
  variables-two : (vs ws : List CVariable)
      → occurs n (map (λ (v : CVariable). v.name) (vs ++ ws)) ≡ occurs n (map (λ (v : CVariable). v.name) vs) + occurs n (map (λ (v : CVariable). v.name) ws)
  variables-two vs ws = ap (occurs n) (names-two vs ws) ∙ occurs-two n (map (λ (v : CVariable). v.name) vs) (map (λ (v : CVariable). v.name) ws)

  module _ (f : Name) (is_shared is_local : Bool) where
    abbrev g : ℕ → ℕ
    g j = one_if (bytes_eq n (literal_name f j))

    abbrev in_actions : List Action → ℕ
    in_actions xs = occurs n (map (λ (v : CVariable). v.name) (flat_map (literal_at f is_shared is_local) xs))

    actions-two : (xs ys : List Action) → in_actions (xs ++ ys) ≡ in_actions xs + in_actions ys
    actions-two xs ys =
        ap (λ vs. occurs n (map (λ (v : CVariable). v.name) vs)) (flat_map-append (literal_at f is_shared is_local) xs ys)
        ∙ variables-two (flat_map (literal_at f is_shared is_local) xs) (flat_map (literal_at f is_shared is_local) ys)

    alone : (a : Action) → in_actions (a ∷ []) ≡ weight g a
    alone (plain.text j bytes) = omega arith
    alone a = refl

    mutual
      statement-mass : (s : Plain) → in_actions (actions s) ≡ mass_of g s
      statement-mass (act a) = alone a
      statement-mass (set r a) = alone a
      statement-mass (branch r ss ts) = let two = actions-two (all_actions ss) (all_actions ts) in let a = statements-mass ss in let b = statements-mass ts in omega arith
      statement-mass (loop ss ts) = let two = actions-two (all_actions ss) (all_actions ts) in let a = statements-mass ss in let b = statements-mass ts in omega arith
      statement-mass (switch r ss) = statements-mass ss
      statement-mass (parts ps) = parts-mass ps
      statement-mass (case_label z) = refl
      statement-mass default_label = refl
      statement-mass leave = refl
      statement-mass continue = refl
      statement-mass (give r) = refl

      statements-mass : (ss : Plains) → in_actions (all_actions ss) ≡ mass g ss
      statements-mass nothing = refl
      statements-mass (more s ss) = let two = actions-two (actions s) (all_actions ss) in let a = statement-mass s in let b = statements-mass ss in omega arith

      parts-mass : (ps : PlainParts) → in_actions (part_actions ps) ≡ mass_of_parts g ps
      parts-mass no_parts = refl
      parts-mass (part w ss rest) = let two = actions-two (all_actions ss) (part_actions rest) in let a = statements-mass ss in let b = parts-mass rest in omega arith

    nodes-mass : (es : List Core) → occurs n (flat_map (literal_of f) es) ≡ nodes_weight g es
    nodes-mass [] = refl
    nodes-mass (e ∷ es) =
        let two = occurs-two n (literal_of f e) (flat_map (literal_of f) es) in
        let a = node-mass e in
        let b = nodes-mass es in
        omega arith
      where
        node-mass : (e : Core) → occurs n (literal_of f e) ≡ nodes_weight g (e ∷ [])
        node-mass (core.text j bytes) = refl
        node-mass e = refl

  module _ (file : CoreFile) where
    functions-once : (fs : List Function) → Each BuiltFunction fs
        → occurs n (map (λ (v : CVariable). v.name) (flat_map literals (map (sequenced_function file.classes file.statics) fs)))
        ≤ occurs n (flat_map (λ (f : Function). flat_map (literal_of f.name) (nodes f.body)) fs)
    functions-once [] u = omega arith
    functions-once (f ∷ fs) u =
        let h : Function → PlainFunction = sequenced_function file.classes file.statics in
        let two = variables-two (literals (h f)) (flat_map literals (map h fs)) in
        let core_two = occurs-two n (flat_map (literal_of f.name) (nodes f.body)) (flat_map (λ (f : Function). flat_map (literal_of f.name) (nodes f.body)) fs) in
        let a = statements-mass f.name f.is_shared f.is_local (sequenced_body file.classes file.statics f) in
        let b = light-body (g f.name f.is_shared f.is_local) file.classes file.statics f (BuiltFunction.body u.0) in
        let c = nodes-mass f.name f.is_shared f.is_local (nodes f.body) in
        let d = functions-once fs u.1 in
        omega arith

    statics-once : (xs : List Static) → Each (λ (x : Static). is_built_static file.statics x ≡ true) xs
        → occurs n (map (λ (v : CVariable). v.name) (flat_map start_literals (map (sequenced_static file.classes file.statics) xs)))
        ≤ occurs n (flat_map (λ (x : Static). flat_map (literal_of (owner_name x)) (nodes x.start)) xs)
    statics-once [] u = omega arith
    statics-once (x ∷ xs) u =
        let h : Static → PlainStatic = sequenced_static file.classes file.statics in
        let is_static : Bool = x.is_local || not x.is_shared in
        let two = variables-two (start_literals (h x)) (flat_map start_literals (map h xs)) in
        let core_two = occurs-two n (flat_map (literal_of (owner_name x)) (nodes x.start)) (flat_map (λ (x : Static). flat_map (literal_of (owner_name x)) (nodes x.start)) xs) in
        let a = statements-mass (owner_name x) x.is_shared is_static (sequenced_start file.classes file.statics x) in
        let b = light-static (g (owner_name x) x.is_shared is_static) file.classes file.statics x u.0 in
        let c = nodes-mass (owner_name x) x.is_shared is_static (nodes x.start) in
        let d = statics-once xs u.1 in
        omega arith

pub literals-differ : (file : CoreFile) → is_built_file file ≡ true → core_literals_differ file ≡ true → literals_differ (sequenced_file file) ≡ true
literals-differ file built ok =
    let P = sequenced_file file in
    let fs : List Name = flat_map (λ (f : Function). flat_map (literal_of f.name) (nodes f.body)) file.functions in
    let xs : List Name = flat_map (λ (x : Static). flat_map (literal_of (owner_name x)) (nodes x.start)) file.statics in
    once-differ (map (λ (v : CVariable). v.name) (flat_map literals P.functions ++ flat_map start_literals P.statics))
    (λ n.
    let two = variables-two n (flat_map literals P.functions) (flat_map start_literals P.statics) in
    let core_two = occurs-two n fs xs in
    let a = functions-once n file file.functions (built-functions file built) in
    let b = statics-once n file file.statics (built-statics file built) in
    let c = differ-once (fs ++ xs) ok n in
    omega arith)
