-- How often plain statements have a literal: no more often than their core has it. A literal has a weight by its number, all else has none.
use Rattle.std.proofs.Common.{◌≡◌, ℕ, zero, suc, ◌+◌, ◌-◌, ◌≤◌, Bool, true, false, ◌&&◌, not, nat_lt, if◌then◌else◌, List, [], ◌∷◌, ◌++◌, length, reverse, refl, sym, ap, subst, arith}
use Rattle.std.specs.Prelude.{pos, Option, None}
use Rattle.cf_base.proofs.Tests.{both}
use Rattle.cf_core.specs.Types.{SourceType, parameters, result, is_class, is_array, element, plain as unqualified}
use Rattle.cf_core.specs.Classes.{Class}
use Rattle.cf_core.specs.Core as core
use Rattle.cf_core.specs.Core.{Core, Cores, no_temporary, local_temporary, static_temporary, none, absent}
use Rattle.cf_core.specs.Joined.{is_nothing}
use Rattle.cf_core.specs.Nodes.{nodes, nodes_all}
use Rattle.cf_core.specs.Objects.{count, costs_tick}
use Rattle.cf_core.specs.Places.{is_reference}
use Rattle.cf_plain.specs.Plain.{Register, Action, Plain, Plains, PlainParts, act, set, branch, loop, switch, parts, leave, nothing, more, no_parts, part}
use Rattle.cf_plain.specs.Plain as plain
use Rattle.cf_sequence.specs.Built.{is_value, are_values, are_arguments, is_chain, is_start, is_filling, is_initial, is_row, is_list, is_element, are_elements, is_held, is_bound}
use Rattle.cf_sequence.specs.Made.{Local, Temporary, temporaries, width, width_all, numbers}
use Rattle.cf_sequence.specs.Expressions.{Full, flag, Destination, destination, value, values, arguments, whole, flags, ended, finished, settled, builds, result_register, used, elements, repeated, in_turn, part_in, part_type, parts_count, begun, built}
use Rattle.cf_sequence.specs.Statements.{started}
use Rattle.cf_sequence.proofs.Calling.{never, or-else}
use Rattle.cf_sequence.proofs.Constants.{constant-value}
use Rattle.cf_sequence.proofs.Filling.{fill, started-is}
use Rattle.cf_sequence.proofs.Fulls.{nothing-is, held_at}

module _ (g : ℕ → ℕ) where
  abbrev pub weight : Action → ℕ
  weight (plain.text j bytes) = g j
  weight a = 0

  abbrev mutual
    pub mass_of : Plain → ℕ
    mass_of (act a) = weight a
    mass_of (set r a) = weight a
    mass_of (branch r ss ts) = mass ss + mass ts
    mass_of (loop ss ts) = mass ss + mass ts
    mass_of (switch r ss) = mass ss
    mass_of (parts ps) = mass_of_parts ps
    mass_of s = 0

    pub mass : Plains → ℕ
    mass nothing = 0
    mass (more s ss) = mass_of s + mass ss

    pub mass_of_parts : PlainParts → ℕ
    mass_of_parts no_parts = 0
    mass_of_parts (part w ss rest) = mass ss + mass_of_parts rest

  abbrev pub node_weight : Core → ℕ
  node_weight (core.text j bytes) = g j
  node_weight e = 0

  abbrev pub nodes_weight : List Core → ℕ
  nodes_weight [] = 0
  nodes_weight (e ∷ es) = node_weight e + nodes_weight es

  pub weight-two : (xs ys : List Core) → nodes_weight (xs ++ ys) ≡ nodes_weight xs + nodes_weight ys
  weight-two [] ys = omega arith
  weight-two (x ∷ xs) ys = let two = weight-two xs ys in omega arith

  -- code of at most this weight before what stands behind it
  pub record Light (c : ℕ) (code : Plains → Plains) : Type 0 where
    pub light : (rest : Plains) → mass (code rest) ≤ c + mass rest

  pub light-none : Light 0 (λ rest. rest)
  light-none = record { light = λ rest. omega arith }

  pub light-then : (c d : ℕ) (F G : Plains → Plains) → Light c F → Light d G → Light (c + d) (λ rest. F (G rest))
  light-then c d F G p q = record { light = λ rest. let a = p.light (G rest) in let b = q.light rest in omega arith }

  pub light-more : (c d : ℕ) (F : Plains → Plains) → c ≤ d → Light c F → Light d F
  light-more c d F le p = record { light = λ rest. let a = p.light rest in omega arith }

  pub light-by : (c : ℕ) (F G : Plains → Plains) → ((rest : Plains) → F rest ≡ G rest) → Light c G → Light c F
  light-by c F G same p = record { light = λ rest. subst (λ ss. mass ss ≤ c + mass rest) (sym (same rest)) (p.light rest) }

  pub light-set : (n : Register) (a : Action) → Light (weight a) (λ rest. more (set n a) rest)
  light-set n a = record { light = λ rest. omega arith }

  pub light-act : (a : Action) → Light (weight a) (λ rest. more (act a) rest)
  light-act a = record { light = λ rest. omega arith }

  pub light-branch : (n : Register) (ss ts : Plains) → Light (mass ss + mass ts) (λ rest. more (branch n ss ts) rest)
  light-branch n ss ts = record { light = λ rest. omega arith }

  pub light-loop : (ss ts : Plains) → Light (mass ss + mass ts) (λ rest. more (loop ss ts) rest)
  light-loop ss ts = record { light = λ rest. omega arith }

  -- behind code without a literal
  pub light-first : (c : ℕ) (F G : Plains → Plains) → Light 0 F → Light c G → Light c (λ rest. F (G rest))
  light-first c F G p q = light-more (0 + c) c (λ rest. F (G rest)) (omega arith) (light-then 0 c F G p q)

  pub light-last : (c : ℕ) (F G : Plains → Plains) → Light c F → Light 0 G → Light c (λ rest. F (G rest))
  light-last c F G p q = light-more (c + 0) c (λ rest. F (G rest)) (omega arith) (light-then c 0 F G p q)

  pub light-settled : (e : Core) (p n : Register) → Light 0 (settled e p n)
  light-settled e p n = by-test (builds e)
    where
      by-test : (b : Bool) → Light 0 (λ rest. if b then rest else more (act (plain.first p n)) rest)
      by-test true = light-none
      by-test false = light-act (plain.first p n)

  pub light-finished : (xs : List Local) → Light 0 (finished xs)
  light-finished [] = light-none
  light-finished (x ∷ xs) = light-first 0 (λ rest. more (act (plain.finish x.type x.number)) rest) (finished xs) (light-act (plain.finish x.type x.number)) (light-finished xs)

  pub light-flags : (x : Full) (ts : List Temporary) → Light 0 (flags x ts)
  light-flags x [] = light-none
  light-flags x (t ∷ ts) = by t.in_branch (light-flags x ts)
    where
      by : (l : Bool) → Light 0 (flags x ts) → Light 0 (λ rest. elim l [ true ↦ more (set (flag x t.local.number) (plain.number (pos 0))) (flags x ts rest) | false ↦ flags x ts rest ])
      by true p = light-first 0 (λ rest. more (set (flag x t.local.number) (plain.number (pos 0))) rest) (flags x ts) (light-set (flag x t.local.number) (plain.number (pos 0))) p
      by false p = p

  pub light-ended : (x : Full) (ts : List Temporary) → Light 0 (ended x ts)
  light-ended x [] = light-none
  light-ended x (t ∷ ts) = by t.in_branch (light-ended x ts)
    where
      by : (l : Bool) → Light 0 (ended x ts) → Light 0 (λ rest. elim l [
        | true ↦ more (branch (flag x t.local.number) (finished (t.local ∷ []) nothing) nothing) (ended x ts rest)
        | false ↦ finished (t.local ∷ []) (ended x ts rest)
      ])
      by true p =
          light-first 0 (λ rest. more (branch (flag x t.local.number) (finished (t.local ∷ []) nothing) nothing) rest) (ended x ts)
          (light-branch (flag x t.local.number) (finished (t.local ∷ []) nothing) nothing) p
      by false p = light-first 0 (finished (t.local ∷ [])) (ended x ts) (light-finished (t.local ∷ [])) p

  module _ (classes : List Class) where
    abbrev pub LightValue : Core → Type 0
    LightValue e = (x : Full) (into : Option Destination) (n k : ℕ) → Light (nodes_weight (nodes e)) (value classes x e into n k)

    abbrev LightValues : Cores → Type 0
    LightValues es = (x : Full) (n k : ℕ) → Light (nodes_weight (nodes_all es)) (values classes x es n k)

    abbrev LightArguments : List SourceType → Cores → Type 0
    LightArguments ts es = (x : Full) (n i k : ℕ) → Light (nodes_weight (nodes_all es)) (arguments classes x ts es n i k)

    unary : (e a : Core) (x : Full) (n k : ℕ) (last : Action) → node_weight e ≡ 0 → weight last ≡ 0 → LightValue a
        → Light (nodes_weight (e ∷ nodes a)) (λ rest. value classes x a None n k (more (set n last) rest))
    unary e a x n k last no_node no_action good =
        record { light = λ rest. let p = Light.light (good x None n k) (more (set n last) rest) in omega arith }

    binary : (e a b : Core) (x : Full) (n k : ℕ) (last : Plains → Plains) → node_weight e ≡ 0 → Light 0 last → LightValue a → LightValue b
        → Light (nodes_weight (e ∷ nodes a ++ nodes b)) (λ rest. value classes x a None n k (used n (value classes x b None (suc n) (k + width a) (last rest))))
    binary e a b x n k last no_node q good_a good_b =
        record {
          light = λ rest.
              let behind = value classes x b None (suc n) (k + width a) (last rest) in
              let p = Light.light (good_a x None n k) (used n behind) in
              let r = Light.light (good_b x None (suc n) (k + width a)) (last rest) in
              let s = Light.light q rest in
              let two = weight-two (nodes a) (nodes b) in
              omega arith;
        }

    -- a test, and a branch of this weight
    tested : (a : Core) (c : ℕ) (x : Full) (n k : ℕ) (ss ts : Plains) → nodes_weight (nodes a) + (mass ss + mass ts) ≤ c → LightValue a
        → Light c (λ rest. value classes x a None n k (more (set n (plain.truth n)) (more (branch n ss ts) rest)))
    tested a c x n k ss ts le good =
        record { light = λ rest. let p = Light.light (good x None n k) (more (set n (plain.truth n)) (more (branch n ss ts) rest)) in omega arith }

    -- the second operand of `&&` and `||`
    second : (b : Core) (x : Full) (n k : ℕ) → LightValue b → mass (value classes x b None n k (more (set n (plain.truth n)) nothing)) ≤ nodes_weight (nodes b)
    second b x n k good = let p = Light.light (good x None n k) (more (set n (plain.truth n)) nothing) in omega arith

    alone : (b : Core) (x : Full) (n k : ℕ) → LightValue b → mass (value classes x b None n k nothing) ≤ nodes_weight (nodes b)
    alone b x n k good = let p = Light.light (good x None n k) nothing in omega arith

    mutual
      pub light-value : (e : Core) → is_value e ≡ true → LightValue e
      light-value (core.number z) ok x into n k = light-set n (plain.number z)
      light-value (core.local i) ok x into n k = light-set n (plain.local i)
      light-value (core.text j bytes) ok x into n k = light-more (g j) (nodes_weight (core.text j bytes ∷ [])) (λ rest. more (set n (plain.text j bytes)) rest) (omega arith) (light-set n (plain.text j bytes))
      light-value (core.static_object name t) ok x into n k = light-set n (plain.static_object name t)
      light-value (core.function name t) ok x into n k = light-set n (plain.function name t)
      light-value (core.read e) ok x into n k = unary (core.read e) e x n k (plain.read n) refl refl (light-value e ok)
      light-value (core.address e) ok x into n k =
          record { light = λ rest. let p = Light.light (light-value e ok x None n k) (used n rest) in omega arith }
      light-value (core.dereference e) ok x into n k = unary (core.dereference e) e x n k (plain.dereference n) refl refl (light-value e ok)
      light-value (core.decay e) ok x into n k = unary (core.decay e) e x n k (plain.decay n) refl refl (light-value e ok)
      light-value (core.from_void t e) ok x into n k = unary (core.from_void t e) e x n k (plain.from_void t n) refl refl (light-value e ok)
      light-value (core.index a b) ok x into n k =
          let q = both (is_value a) (is_value b) ok in
          binary (core.index a b) a b x n k (λ rest. more (set n (plain.index n (suc n))) rest) refl (light-set n (plain.index n (suc n))) (light-value a q.0) (light-value b q.1)
      light-value (core.pointer_operate op a b) ok x into n k =
          let q = both (is_value a) (is_value b) ok in
          binary (core.pointer_operate op a b) a b x n k (λ rest. more (set n (plain.pointer_operate op n (suc n))) rest) refl (light-set n (plain.pointer_operate op n (suc n)))
          (light-value a q.0) (light-value b q.1)
      light-value (core.convert t e) ok x into n k = unary (core.convert t e) e x n k (plain.convert t n) refl refl (light-value e ok)
      light-value (core.operate op kind a b) ok x into n k =
          let q = both (is_value a) (is_value b) ok in
          binary (core.operate op kind a b) a b x n k (λ rest. more (set n (plain.operate op kind n (suc n))) rest) refl (light-set n (plain.operate op kind n (suc n)))
          (light-value a q.0) (light-value b q.1)
      light-value (core.unary op kind e) ok x into n k = unary (core.unary op kind e) e x n k (plain.unary op kind n) refl refl (light-value e ok)
      light-value (core.logical_not e) ok x into n k = unary (core.logical_not e) e x n k (plain.logical_not n) refl refl (light-value e ok)
      light-value (core.logical_and a b) ok x into n k =
          let q = both (is_value a) (is_value b) ok in
          let right = value classes x b None n (k + width a) (more (set n (plain.truth n)) nothing) in
          let r = second b x n (k + width a) (light-value b q.1) in
          let two = weight-two (nodes a) (nodes b) in
          tested a (nodes_weight (core.logical_and a b ∷ nodes a ++ nodes b)) x n k right nothing (omega arith) (light-value a q.0)
      light-value (core.logical_or a b) ok x into n k =
          let q = both (is_value a) (is_value b) ok in
          let right = value classes x b None n (k + width a) (more (set n (plain.truth n)) nothing) in
          let r = second b x n (k + width a) (light-value b q.1) in
          let two = weight-two (nodes a) (nodes b) in
          tested a (nodes_weight (core.logical_or a b ∷ nodes a ++ nodes b)) x n k nothing right (omega arith) (light-value a q.0)
      light-value (core.conditional c a b) ok x into n k =
          let q = both (is_value c) (is_value a && is_value b) ok in
          let arms = both (is_value a) (is_value b) q.1 in
          let left = value classes x a None n (k + width c) nothing in
          let right = value classes x b None n (k + width c + width a) nothing in
          let l = alone a x n (k + width c) (light-value a arms.0) in
          let r = alone b x n (k + width c + width a) (light-value b arms.1) in
          let one = weight-two (nodes c ++ nodes a) (nodes b) in
          let two = weight-two (nodes c) (nodes a) in
          tested c (nodes_weight (core.conditional c a b ∷ nodes c ++ nodes a ++ nodes b)) x n k left right (omega arith) (light-value c q.0)
      light-value (core.comma es) ok x into n k = record { light = λ rest. let p = Light.light (light-values es ok x n k) rest in omega arith }
      light-value (core.store a b) ok x into n k =
          let q = both (is_value a) (is_value b) ok in
          binary (core.store a b) a b x n k (λ rest. more (act (plain.store n (suc n))) rest) refl (light-act (plain.store n (suc n))) (light-value a q.0) (light-value b q.1)
      light-value (core.update a change b) ok x into n k =
          let q = both (is_value a) (is_value b) ok in
          binary (core.update a change b) a b x n k
          (λ rest. used (suc n) (more (set (suc (suc n)) (plain.read n)) (more (set (suc n) (plain.changed change (suc (suc n)) (suc n))) (more (act (plain.store n (suc n))) rest)))) refl
          (record { light = λ rest. omega arith }) (light-value a q.0) (light-value b q.1)
      light-value (core.step false change e) ok x into n k =
          record {
            light = λ rest.
                let p = Light.light (light-value e ok x None n k)
                (more (set (suc n) (plain.read n)) (more (set (suc (suc n)) (plain.number (pos 1))) (more (set (suc n) (plain.changed change (suc n) (suc (suc n)))) (more (act (plain.store n (suc n))) rest)))) in
                omega arith;
          }
      light-value (core.step true change e) ok x into n k =
          record {
            light = λ rest.
                let p = Light.light (light-value e ok x None (suc n) k)
                (more (set n (plain.read (suc n))) (more (set (suc (suc n)) (plain.number (pos 1))) (more (set (suc (suc n)) (plain.changed change n (suc (suc n)))) (more (act (plain.store (suc n) (suc (suc n)))) rest)))) in
                omega arith;
          }
      light-value (core.temporary t e) ok x into n k =
          let is : is_value e ≡ true = (both (not (is_reference t)) (is_value e) ok).1 in
          record {
            light = λ rest.
                let last = more (set (flag x k) (plain.number (pos 1))) rest in
                let p = Light.light (light-value e is x (destination (suc n) t) (suc (suc n)) (suc k)) (settled e (suc n) (suc (suc n)) last) in
                let s = Light.light (light-settled e (suc n) (suc (suc n))) last in
                omega arith;
          }
      light-value (core.bind no_temporary e) ok x into n k = record { light = λ rest. let p = Light.light (light-value e ok x None n k) rest in omega arith }
      light-value (core.call name t absent args) ok x into n k =
          let given_args = (both (is_chain t) (are_arguments args) (both (not (is_class (result t))) (is_chain t && are_arguments args) ok).1).1 in
          record {
            light = λ rest.
                let p = Light.light (light-arguments (parameters t) args given_args x n k (k + length (parameters t) + 0))
                (more (set n (plain.call name t None (numbers k (parameters t)) (result_register t into))) rest) in
                omega arith;
          }
      light-value (core.pointer_call absent e t args) ok x into n k =
          let forms = both (not (is_class (result t))) (is_chain t && (is_value e && are_arguments args)) ok in
          let q = both (is_value e) (are_arguments args) (both (is_chain t) (is_value e && are_arguments args) forms.1).1 in
          record {
            light = λ rest.
                let l : ℕ = k + length (parameters t) + 0 in
                let last = more (set n (plain.pointer_call None n t (numbers k (parameters t)) (result_register t into))) rest in
                let behind = arguments classes x (parameters t) args (suc n) k (l + width e) last in
                let p = Light.light (light-value e q.0 x None n l) (used n behind) in
                let r = Light.light (light-arguments (parameters t) args q.1 x (suc n) k (l + width e)) last in
                let two = weight-two (nodes e) (nodes_all args) in
                omega arith;
          }
      light-value e ok x into n k = never ok

      light-values : (es : Cores) → are_values es ≡ true → LightValues es
      light-values none ok x n k = never ok
      light-values (core.more e none) ok x n k =
          record { light = λ rest. let p = Light.light (light-value e ok x None n k) rest in let two = weight-two (nodes e) [] in omega arith }
      light-values (core.more e (core.more f es)) ok x n k =
          let q = both (is_value e) (are_values (core.more f es)) ok in
          record {
            light = λ rest.
                let p = Light.light (light-value e q.0 x None n k) (values classes x (core.more f es) n (k + width e) rest) in
                let r = Light.light (light-values (core.more f es) q.1 x n (k + width e)) rest in
                let two = weight-two (nodes e) (nodes_all (core.more f es)) in
                omega arith;
          }

      light-arguments : (ts : List SourceType) (es : Cores) → are_arguments es ≡ true → LightArguments ts es
      light-arguments [] none ok x n i k = record { light = λ rest. omega arith }
      light-arguments [] (core.more e es) ok x n i k = record { light = λ rest. omega arith }
      light-arguments (t ∷ ts) none ok x n i k = record { light = λ rest. omega arith }
      light-arguments (t ∷ ts) (core.more e es) ok x n i k =
          let q = both (is_value e) (are_arguments es) ok in
          record {
            light = λ rest.
                let behind = arguments classes x ts es n (suc i) (k + width e) rest in
                let p = Light.light (light-value e q.0 x (destination n t) (suc n) k) (settled e n (suc n) behind) in
                let s = Light.light (light-settled e n (suc n)) behind in
                let r = Light.light (light-arguments ts es q.1 x n (suc i) (k + width e)) rest in
                let two = weight-two (nodes e) (nodes_all es) in
                omega arith;
          }

    -- a full expression, and then code without a literal
    pub light-whole : (e : Core) → is_value e ≡ true → (n k : ℕ) (c : ℕ) (go : Register → Plains → Plains) (rest : Register → Plains → Plains) → ((m : Register) → Light 0 (go m))
        → ((m : Register) → Light c (rest m)) → (into : Option Destination)
        → Light (nodes_weight (nodes e) + c) (λ last. whole e n k (λ x m rest. value classes x e into m k (go m rest)) (λ m. rest m last))
    light-whole e is n k c go rest p q into =
        let x : Full = record { first = k; base = n } in
        let m : ℕ = n + width e in
        let ts : List Temporary = temporaries false e k in
        let ends : Plains → Plains = λ last. ended x (reverse ts) (rest m last) in
        light-first (nodes_weight (nodes e) + c) (flags x ts) (λ last. value classes x e into m k (go m (ends last))) (light-flags x ts)
        (light-then (nodes_weight (nodes e)) c (value classes x e into m k) (λ last. go m (ends last)) (light-value e is x into m k)
        (light-first c (go m) ends (p m) (light-first c (ended x (reverse ts)) (rest m) (light-ended x (reverse ts)) (q m))))

    -- ---- initialisers

    pub light-fill : (e : Core) → is_filling e ≡ true → (n : Register) → Light 0 (λ rest. more (act (fill e n)) rest)
    light-fill core.zeros ok n = light-act (plain.zeros n)
    light-fill (core.string bytes) ok n = light-act (plain.bytes n bytes)
    light-fill e ok n = never ok

    abbrev pub LightStart : Core → Type 0
    LightStart e = (t : SourceType) (n k : ℕ) → Light (nodes_weight (nodes e)) (started classes t e n k)

    filling-start : (e : Core) → is_filling e ≡ true → LightStart e
    filling-start e ok t n k =
        light-more 0 (nodes_weight (nodes e)) (started classes t e n k) (omega arith)
        (light-by 0 (started classes t e n k) (λ rest. more (act (fill e n)) rest) (started-is classes t e ok n k) (light-fill e ok n))

    pub light-initial : (e : Core) → is_initial e ≡ true → LightStart e
    light-initial e ok t n k =
        or-else (is_filling e) (is_start e) ok (λ fills. filling-start e fills t n k)
        (λ starts. or-else (is_nothing e) (is_value e) starts
        (λ blank. light-more 0 (nodes_weight (nodes e)) (started classes t e n k) (omega arith)
        (light-by 0 (started classes t e n k) (λ rest. rest) (λ rest. ap (λ e. started classes t e n k rest) (nothing-is e blank)) light-none))
        (λ is. light-more (nodes_weight (nodes e) + 0) (nodes_weight (nodes e)) (started classes t e n k) (omega arith)
        (light-whole e is (suc n) k 0 (λ m. settled e n m) (λ m rest. rest) (λ m. light-settled e n m) (λ m. light-none) (destination n t))))

    light-part : (n q : Register) (t : SourceType) (i : ℕ) → Light 0 (part_in n q t i)
    light-part n q t i = by (is_array t)
      where
        by : (l : Bool) → Light 0 (λ rest. if l then more (set n (plain.decay q)) (more (set (suc n) (plain.number (pos i))) (more (set n (plain.index n (suc n))) rest)) else more (set n (plain.member q i)) rest)
        by true = record { light = λ rest. omega arith }
        by false = light-set n (plain.member q i)

    light-turn : (c : ℕ) (tick : Bool) (code : Plains → Plains) → Light c code → Light c (in_turn tick code)
    light-turn c true code p = record { light = λ rest. let a = Light.light p (more leave nothing) in omega arith }
    light-turn c false code p = p

    light-if : (l : Bool) (a : Action) → weight a ≡ 0 → Light 0 (λ rest. if l then more (act a) rest else rest)
    light-if true a zero_weight = record { light = λ rest. omega arith }
    light-if false a zero_weight = light-none

    light-repeated : (i j : ℕ) (code : ℕ → Plains → Plains) → ((i : ℕ) → Light 0 (code i)) → Light 0 (repeated i j code)
    light-repeated i zero code p = light-none
    light-repeated i (suc j) code p = light-first 0 (code i) (repeated (suc i) j code) (p i) (light-repeated (suc i) j code p)

    abbrev item_code : Bool → Core → Destination → ℕ → Register → ℕ → Plains → Plains
    item_code tick e to i n k = in_turn tick (λ rest. part_in n to.register to.type i (started classes (part_type classes to.type i) e n k rest))

    light-item : (c : ℕ) (tick : Bool) (e : Core) → ((t : SourceType) (n k : ℕ) → Light c (started classes t e n k)) → (to : Destination) (i n k : ℕ) → Light c (item_code tick e to i n k)
    light-item c tick e good to i n k =
        light-turn c tick (λ rest. part_in n to.register to.type i (started classes (part_type classes to.type i) e n k rest))
        (light-first c (part_in n to.register to.type i) (started classes (part_type classes to.type i) e n k) (light-part n to.register to.type i) (good (part_type classes to.type i) n k))

    abbrev LightElements : Cores → Type 0
    LightElements es = (x : Full) (to : Destination) (i n k : ℕ) → Light (nodes_weight (nodes_all es)) (elements classes x es to i n k)

    -- what is left out fills itself, as often as that is
    last-start : (e : Core) → is_filling e ≡ true → (t : SourceType) (n k : ℕ) → Light 0 (started classes t e n k)
    last-start e ok t n k = light-by 0 (started classes t e n k) (λ rest. more (act (fill e n)) rest) (started-is classes t e ok n k) (light-fill e ok n)

    list-of : (es : Cores) (last : Core) → LightElements es → is_filling last ≡ true → LightStart (core.list es last)
    list-of es last row fills t n k =
        let x : Full = record { first = k; base = suc n } in
        let to : Destination = record { register = n; type = t } in
        let m : Register = suc n + width (core.list es last) in
        let l : ℕ = k + width_all es in
        let c : ℕ = nodes_weight (nodes_all es) in
        let tick : Bool = is_array t && costs_tick last classes (part_type classes t 0) in
        let left : Plains → Plains = repeated (count es) (parts_count classes t - count es) (λ i. item_code tick last to i m l) in
        let two = weight-two (nodes_all es) (nodes last) in
        light-more c (nodes_weight (nodes (core.list es last))) (started classes t (core.list es last) n k) (omega arith)
        (light-first c (begun classes to) (λ rest. elements classes x es to 0 m k (left (built classes to rest))) (light-if (is_class t) (plain.begin_list n) refl)
        (light-last c (elements classes x es to 0 m k) (λ rest. left (built classes to rest)) (row x to 0 m k)
        (light-first 0 left (built classes to)
        (light-repeated (count es) (parts_count classes t - count es) (λ i. item_code tick last to i m l) (λ i. light-item 0 tick last (last-start last fills) to i m l))
        (light-if (is_class t) (plain.end_list n) refl))))

    row-of : (e : Core) (es : Cores) → LightStart e → LightElements es → LightElements (core.more e es)
    row-of e es good row x to i n k =
        let tick : Bool = is_array to.type && costs_tick e classes (part_type classes to.type i) in
        let c : ℕ = nodes_weight (nodes e) in
        let d : ℕ = nodes_weight (nodes_all es) in
        let two = weight-two (nodes e) (nodes_all es) in
        light-more (c + d) (nodes_weight (nodes e ++ nodes_all es)) (elements classes x (core.more e es) to i n k) (omega arith)
        (light-then c d (item_code tick e to i n k) (elements classes x es to (suc i) n (k + width e)) (light-item c tick e good to i n k) (row x to (suc i) n (k + width e)))

    mutual
      light-list : (t : SourceType) (e : Core) → is_list t e ≡ true → LightStart e
      light-list t (core.list es last) ok =
          let v : SourceType = element (unqualified t) in
          let q = both (are_elements v es) (is_filling last) (both (is_row t) (are_elements v es && is_filling last) ok).1 in
          list-of es last (light-elements v es q.0) q.1
      light-list t e ok = never ok

      light-elements : (t : SourceType) (es : Cores) → are_elements t es ≡ true → LightElements es
      light-elements t none ok = λ x to i n k. light-none
      light-elements t (core.more e es) ok =
          let q = both (is_element t e) (are_elements t es) ok in
          row-of e es (or-else (is_initial e) (is_list t e) q.0 (λ initial. light-initial e initial) (λ is. light-list t e is)) (light-elements t es q.1)

    pub light-element : (t : SourceType) (e : Core) → is_element t e ≡ true → LightStart e
    light-element t e ok = or-else (is_initial e) (is_list t e) ok (λ initial. light-initial e initial) (λ is. light-list t e is)

    -- what binds a static reference
    pub light-bound : (e : Core) → is_bound e ≡ true → LightStart e
    light-bound (core.bind no_temporary e) ok t n k = light-initial (core.bind no_temporary e) (constant-value e ok) t n k
    light-bound (core.bind (static_temporary name) e) ok t n k =
        let is : is_value e ≡ true = constant-value e ok in
        let m : Register = suc n + width e in
        let x : Full = record { first = k; base = suc n } in
        let ts : List Temporary = temporaries false e k in
        record {
          light = λ rest.
              let after = ended x (reverse ts) rest in
              let last = more (act (plain.first n m)) after in
              let placed = more (set m (plain.finish_static name)) (settled e m (suc m) last) in
              let a = Light.light (light-flags x ts) (value classes x e None (suc m) k placed) in
              let b = Light.light (light-value e is x None (suc m) k) placed in
              let c = Light.light (light-set m (plain.finish_static name)) (settled e m (suc m) last) in
              let d = Light.light (light-settled e m (suc m)) last in
              let h = Light.light (light-act (plain.first n m)) after in
              let j = Light.light (light-ended x (reverse ts)) rest in
              omega arith;
        }
    light-bound e ok t n k = never ok

    pub light-held : (i : ℕ) (e : Core) → is_held i e ≡ true → (t : SourceType) (k : ℕ) → Light (nodes_weight (nodes e)) (started classes t e 0 k)
    light-held i (core.bind (local_temporary j v) e) ok t k =
        let is : is_value e ≡ true = (both (not (is_reference v)) (is_value e) (both (nat_lt i j) (not (is_reference v) && is_value e) ok).1).1 in
        let n : Register = held_at e 0 in
        let x : Full = record { first = k; base = 1 } in
        let ts : List Temporary = temporaries false e k in
        record {
          light = λ rest.
              let after = ended x (reverse ts) rest in
              let last = more (act (plain.first 0 n)) after in
              let inside = value classes x e (destination (suc n) v) (suc (suc n)) k (settled e (suc n) (suc (suc n)) last) in
              let a = Light.light (light-flags x ts) (more (set (suc n) (plain.declare j v)) (more (set n (plain.local j)) inside)) in
              let b = Light.light (light-value e is x (destination (suc n) v) (suc (suc n)) k) (settled e (suc n) (suc (suc n)) last) in
              let c = Light.light (light-settled e (suc n) (suc (suc n))) last in
              let d = Light.light (light-act (plain.first 0 n)) after in
              let h = Light.light (light-ended x (reverse ts)) rest in
              omega arith;
        }
    light-held i e ok t k = never ok
