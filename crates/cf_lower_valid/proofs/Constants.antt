-- What constant initialisers store is typed by what is known before the run.
use Rattle.std.proofs.Common.{◌≡◌, ℕ, ◌+◌, ◌^◌, ◌≤◌, nat_le, nat_eq, Bool, true, false, ◌&&◌, if◌then◌else◌, List, [], ◌∷◌, ◌++◌, length, refl, inl, arith}
use Rattle.std.specs.Prelude.{ℤ, pos, negsuc, neg_ℤ, Option, Some, None, Result, Ok, Err}
use Rattle.std.proofs.lemmas.Bool.Decides.{nat_tests}
use Rattle.cf_base.specs.declared.kind.Kind.{Kind}
use Rattle.cf_base.specs.declared.kind.Kind.TheVariants.{Int}
use Rattle.cf_base.specs.declared.arith.Arith.{Arith}
use Rattle.cf_base.specs.declared.arith.Arith.TheVariants as op
use Rattle.cf_base.specs.Integers.{int_op, convert as converted}
use Rattle.cf_base.proofs.Tests.{both}
use Rattle.cf_core.specs.declared.operators.PointerOperator.{PointerOperator}
use Rattle.cf_core.specs.declared.operators.PointerOperator.TheVariants as pointer
use Rattle.cf_core.specs.declared.operators.UnaryOperator.TheVariants as sign
use Rattle.cf_core.specs.Types.{Name}
use Rattle.cf_core.specs.Objects.{character_kind}
use Rattle.cf_lower_layout.specs.Sorts.{Sort, number, address, code, sort_of}
use Rattle.cf_plain.specs.Plain as plain
use Rattle.cf_plain.specs.Plain.{Register, Action, Plain, Plains, act, set, branch, nothing, more}
use Rattle.cf_plain.specs.Named.{actions, all_actions}
use Rattle.cc_whole.specs.declared.types.CType.TheVariants as ty
use Rattle.cc_whole.specs.declared.types.CConstant.TheVariants as constants
use Rattle.cc_whole.specs.declared.types.CVariableType.{CVariableType}
use Rattle.cc_whole.specs.declared.unit.CPrototype.{CPrototype}
use Rattle.cc_whole.specs.Plain.{Statement, named, load, constant, address as address_of}
use Rattle.cc_whole.specs.Known.{Named}
use Rattle.cc_whole.specs.Known as c
use Rattle.cc_whole.specs.Types.{value_type}
use Rattle.cf_lower.specs.Written.{if_scalar, c_type, variable_type, literal_name}
use Rattle.cf_lower.specs.Expressions.{as_stored}
use Rattle.cf_lower.specs.Statements.{put}
use Rattle.cf_lower.specs.Constants.{Known, unknown, a_number, null, at, a_function, nothing_known, know, computed, holds_truth, truth_known, inverted, decayed, at_byte, moved, sum, pointer_known, converted_known, known_by, written, stored, stored_bytes, constant_done, known_after, all_known_after, constant_stores, constant_code}
use Rattle.cf_lower_program.specs.Starts.{is_known, is_value_of, starts_well, act_known, start_known, starts_known, text_fits}
use Rattle.cf_lower_valid_body.specs.Scope.{NamesObject, NamesFunction}
use Rattle.cf_lower_valid_body.proofs.Numbers.{int-fits}
use Rattle.cf_lower_valid_body.proofs.Typed.{Has, constant-has, function-has, address-has, binary-has, stored-cast, zero-stored}
use Rattle.cf_lower_valid_body.proofs.Stores.{AllChecked, all-append, put-checked, bytes-checked}
use Rattle.cc_whole_sections.specs.Sections.{Every}
use Rattle.cc_whole_sections.proofs.Names.{in-left, in-right}

-- what an action of an initialiser names, whose literals are those of this function
abbrev pub Naming : List Named → Name → Action → Type 0
Naming names f (plain.text j b) = NamesObject names (literal_name f j) ty.Pointer
Naming names f (plain.static_object name t) = NamesObject names name (value_type (variable_type [] t))
Naming names f (plain.function name t) = NamesFunction names name t
Naming names f a = Unit {0}

pub record StartsWith (names : List Named) (f : Name) (a : Action) : Type 0 where
  pub naming : Naming names f a
  pub text : text_fits a ≡ true

module _ (k : c.Known) where
  -- what is known names an object or a function
  abbrev Well : Known → Type 0
  Well (at n o t) = (type : CVariableType) × (c.lookup k.names n ≡ Some (c.object type))
  Well (a_function name) = (p : CPrototype) × (c.lookup k.names name ≡ Some (c.function p)) × (c.is_main name ≡ false)
  Well x = Unit {0}

  abbrev AllWell : (Register → Known) → Type 0
  AllWell g = (r : Register) → Well (g r)

  -- ---- what is known behind an action

  decayed-well : (x : Known) → Well x → Well (decayed x)
  decayed-well (at n o t) w = w
  decayed-well x w = w

  moved-well : (x : Known) (z : ℤ) → Well x → Well (moved [] x z)
  moved-well (at n o t) (pos m) w = w
  moved-well (at n o t) (negsuc m) w = w
  moved-well x z w = tt

  sum-well : (x y : Known) → Well x → Well y → Well (sum [] x y)
  sum-well (a_number z) y w v = moved-well y z v
  sum-well unknown (a_number z) w v = moved-well unknown z w
  sum-well unknown y w v = tt
  sum-well null (a_number z) w v = moved-well null z w
  sum-well null y w v = tt
  sum-well (at n o t) (a_number z) w v = moved-well (at n o t) z w
  sum-well (at n o t) y w v = tt
  sum-well (a_function name) (a_number z) w v = moved-well (a_function name) z w
  sum-well (a_function name) y w v = tt

  pointer-well : (o : PointerOperator) (x y : Known) → Well x → Well y → Well (pointer_known [] o x y)
  pointer-well pointer.Add x y w v = sum-well x y w v
  pointer-well pointer.Subtract x (a_number z) w v = moved-well x (neg_ℤ z) w
  pointer-well pointer.Subtract x y w v = tt
  pointer-well o x y w v = tt

  converted-well : (s : Option Sort) (x : Known) → Well x → Well (converted_known [] s x)
  converted-well (Some (number i)) (a_number z) w = tt
  converted-well (Some (address t)) (a_number z) w = tt
  converted-well (Some (code t)) (a_number z) w = tt
  converted-well (Some (address t)) (at n o u) w = w
  converted-well (Some (number i)) x w = w
  converted-well (Some (address t)) x w = w
  converted-well (Some (code t)) x w = w
  converted-well None x w = w

  computed-well : (r : Result ℤ ℕ) → Well (computed r)
  computed-well (Ok z) = tt
  computed-well (Err e) = tt

  truth-well : (o : Option Bool) → Well (truth_known o)
  truth-well None = tt
  truth-well (Some true) = tt
  truth-well (Some false) = tt

  -- two registers that hold this
  abbrev pair : Known → Known → Register → Known
  pair x y r = if nat_eq r 0 then x else y

  module _ (f : Name) where
    operated-well : (o : Arith) (i : Kind) (x y : Known) → Well (known_by [] f (pair x y) (plain.operate o i 0 1))
    operated-well o i (a_number x) (a_number y) = computed-well (int_op o i x y)
    operated-well o i (a_number x) y = tt
    operated-well o i x y = tt

    negated-well : (i : Kind) (x : Known) → Well (known_by [] f (pair x x) (plain.unary sign.Negate i 0))
    negated-well i (a_number x) = computed-well (int_op op.Subtract i (pos 0) x)
    negated-well i x = tt

    complement-well : (i : Kind) (x : Known) → Well (known_by [] f (pair x x) (plain.unary sign.Complement i 0))
    complement-well i (a_number x) = computed-well (int_op op.Xor i x (converted i (negsuc 0)))
    complement-well i x = tt

    known-well : (g : Register → Known) (a : Action) → AllWell g → Naming k.names f a → Well (known_by [] f g a)
    known-well g (plain.text j b) w m = (m.type, m.means)
    known-well g (plain.static_object name t) w m = (m.type, m.means)
    known-well g (plain.function name t) w m = (m.prototype, m.means, m.not_main)
    known-well g (plain.dereference r) w m = w r
    known-well g (plain.decay r) w m = decayed-well (g r) (w r)
    known-well g (plain.index r q) w m = sum-well (g r) (g q) (w r) (w q)
    known-well g (plain.convert t r) w m = converted-well (sort_of t) (g r) (w r)
    known-well g (plain.from_void t r) w m = converted-well (Some (address t)) (g r) (w r)
    known-well g (plain.operate o i r q) w m = operated-well o i (g r) (g q)
    known-well g (plain.unary sign.Negate i r) w m = negated-well i (g r)
    known-well g (plain.unary sign.Complement i r) w m = complement-well i (g r)
    known-well g (plain.truth r) w m = truth-well (holds_truth (g r))
    known-well g (plain.logical_not r) w m = truth-well (inverted (holds_truth (g r)))
    known-well g (plain.pointer_operate o r q) w m = pointer-well o (g r) (g q) (w r) (w q)
    known-well g a w m = tt

  know-well : (g : Register → Known) (r : Register) (x : Known) → AllWell g → Well x → AllWell (know g r x)
  know-well g r x w v q = go (nat_eq q r)
    where
      go : (b : Bool) → Well (if b then x else g q)
      go true = v
      go false = w q

  -- ---- stores

  at-has : (n : Name) (o : ℕ) (type : CVariableType) → c.lookup k.names n ≡ Some (c.object type) → Has k.names (at_byte n o) ty.Pointer
  at-has n o type e =
      binary-has k.names op.Add (address_of n) (constant (constants.Signed (converted Int (pos o)))) ty.Pointer ty.Int ty.Pointer (address-has k.names n type e)
      (constant-has k.names (constants.Signed (converted Int (pos o))) (int-fits (pos o))) refl refl

  written-has : (s : Sort) (x : Known) → Well x → is_value_of (Some s) x ≡ true → Has k.names (as_stored s (written [] x)) (c_type s)
  written-has (number i) (a_number z) w e =
      stored-cast k.names (number i) (written [] (a_number z)) (constant-has k.names (constants.Signed (converted Int z)) (int-fits z))
  written-has (address t) null w e = zero-stored k.names (address t)
  written-has (address t) (at n o u) w e = stored-cast k.names (address t) (at_byte n o) (at-has n o w.0 w.1)
  written-has (code t) null w e = zero-stored k.names (code t)
  written-has (code t) (a_function name) w e = stored-cast k.names (code t) (load (named name)) (function-has k.names name w.0 w.1 w.2)
  written-has (number i) x w e = absurd (cc)
  written-has (address t) x w e = absurd (cc)
  written-has (code t) x w e = absurd (cc)

  stored-checked : (x y : Known) → Well x → Well y → starts_well x y ≡ true → AllChecked (stored [] x y) k
  stored-checked (at n o t) y w v e = go (sort_of t) e
    where
      go : (s : Option Sort) → is_value_of s y ≡ true → AllChecked (if_scalar s [] (λ s. put s (at_byte n o) (written [] y) ∷ [])) k
      go None h = tt
      go (Some s) h = (put-checked k s (at_byte n o) (written [] y) (at-has n o w.0 w.1) (written-has s y v h), tt)
  stored-checked x y w v e = tt

  bytes-stored : (x : Known) (b : List ℕ) → Well x → nat_le (length b) (2 ^ 22) ≡ true → AllChecked (stored_bytes [] x b) k
  bytes-stored (at n o t) b w e = bytes-checked k (character_kind t) (at_byte n o) 0 b (at-has n o w.0 w.1) (let l : 0 + length b ≤ 2 ^ 22 = grind (arith, nat_tests, e) in l)
  bytes-stored x b w e = tt

  module _ (f : Name) where
    done-checked : (g : Register → Known) (a : Action) → AllWell g → text_fits a ≡ true → act_known g a ≡ true → AllChecked (constant_done [] g a) k
    done-checked g (plain.first r q) w m e =
        stored-checked (g r) (g q) (w r) (w q) (both (is_known (g r) && is_known (g q)) (starts_well (g r) (g q)) e).1
    done-checked g (plain.bytes r b) w m e = bytes-stored (g r) b (w r) m
    done-checked g a w m e = tt

    -- by the branch that is taken
    taken : (A : Type 0) (P : A → Type 0) (o : Option Bool) (n a b : A) (s t : Bool) → elim o [ None ↦ false | Some c ↦ elim c [ true ↦ s | false ↦ t ] ] ≡ true
        → (s ≡ true → P a) → (t ≡ true → P b) → P (elim o [ None ↦ n | Some c ↦ elim c [ true ↦ a | false ↦ b ] ])
    taken A P None n a b s t e h i = absurd (cc)
    taken A P (Some true) n a b s t e h i = h e
    taken A P (Some false) n a b s t e h i = i e

    abbrev Asked : List Action → Type 0
    Asked actions = Every (StartsWith k.names f) actions

    left-asked : (xs ys : List Action) → Asked (xs ++ ys) → Asked xs
    left-asked xs ys h a m = h a (in-left a xs ys m)

    right-asked : (xs ys : List Action) → Asked (xs ++ ys) → Asked ys
    right-asked xs ys h a m = h a (in-right a xs ys m)

    mutual
      after-well : (s : Plain) (g : Register → Known) → AllWell g → Asked (actions s) → start_known s f g ≡ true → AllWell (known_after [] s f g)
      after-well (set r a) g w m e = know-well g r (known_by [] f g a) w (known-well f g a w (m a (inl refl)).naming)
      after-well (branch r ss ts) g w m e =
          taken (Register → Known) AllWell (holds_truth (g r)) nothing_known (all_known_after [] ss f g) (all_known_after [] ts f g) (starts_known ss f g) (starts_known ts f g) e
          (λ h. all-after-well ss g w (left-asked (all_actions ss) (all_actions ts) m) h)
          (λ h. all-after-well ts g w (right-asked (all_actions ss) (all_actions ts) m) h)
      after-well s g w m e = w

      all-after-well : (ss : Plains) (g : Register → Known) → AllWell g → Asked (all_actions ss) → starts_known ss f g ≡ true
          → AllWell (all_known_after [] ss f g)
      all-after-well nothing g w m e = w
      all-after-well (more s ss) g w m e =
          let two = both (start_known s f g) (starts_known ss f (known_after [] s f g)) e in
          all-after-well ss (known_after [] s f g) (after-well s g w (left-asked (actions s) (all_actions ss) m) two.0)
          (right-asked (actions s) (all_actions ss) m) two.1

    mutual
      stores-checked : (s : Plain) (g : Register → Known) → AllWell g → Asked (actions s) → start_known s f g ≡ true → AllChecked (constant_stores [] s f g) k
      stores-checked (act a) g w m e = done-checked g a w (m a (inl refl)).text e
      stores-checked (branch r ss ts) g w m e =
          taken (List Statement) (λ xs. AllChecked xs k) (holds_truth (g r)) [] (constant_code [] ss f g) (constant_code [] ts f g) (starts_known ss f g) (starts_known ts f g) e
          (λ h. code-checked ss g w (left-asked (all_actions ss) (all_actions ts) m) h)
          (λ h. code-checked ts g w (right-asked (all_actions ss) (all_actions ts) m) h)
      stores-checked s g w m e = tt

      pub code-checked : (ss : Plains) (g : Register → Known) → AllWell g → Asked (all_actions ss) → starts_known ss f g ≡ true
          → AllChecked (constant_code [] ss f g) k
      code-checked nothing g w m e = tt
      code-checked (more s ss) g w m e =
          let two = both (start_known s f g) (starts_known ss f (known_after [] s f g)) e in
          all-append (constant_stores [] s f g) (constant_code [] ss f (known_after [] s f g)) k
          (stores-checked s g w (left-asked (actions s) (all_actions ss) m) two.0)
          (code-checked ss (known_after [] s f g) (after-well s g w (left-asked (actions s) (all_actions ss) m) two.0)
          (right-asked (actions s) (all_actions ss) m) two.1)

    -- an initialiser stores what is typed
    pub start-checked : (ss : Plains) → Every (StartsWith k.names f) (all_actions ss) → starts_known ss f nothing_known ≡ true
        → AllChecked (constant_code [] ss f nothing_known) k
    start-checked ss m e = code-checked ss nothing_known (λ r. tt) m e
