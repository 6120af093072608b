-- The names of a lowered file in the program: those of its functions and objects are the plain program's, and those of literals go with their functions.
use Rattle.std.proofs.Common.{◌≡◌, ℕ, Bool, true, false, ◌&&◌, ◌||◌, cond, List, [], ◌∷◌, ◌++◌, length, refl, ap, sym, subst, ◌∙◌, inl, inr, ◌⊎◌, append_assoc}
use Rattle.std.specs.Prelude.{Some, bytes_eq, codes, decimal}
use Rattle.std.specs.List.{flat_map, list_any}
use Rattle.std.proofs.lemmas.Bool.{true≢false, or_cases, eq-eqb}
use Rattle.cf_base.proofs.Tests.{bytes_same, same_bytes}
use Rattle.cf_core.specs.Types.{Name}
use Rattle.cf_core.specs.Joined.{in_file, name_in}
use Rattle.cf_core.specs.Calls as source
use Rattle.cf_lower_layout.specs.Sorts.{Sort, number, address, code}
use Rattle.cf_plain.specs.Plain as plain
use Rattle.cf_plain.specs.Plain.{Register, Action, PlainFunction, PlainStatic}
use Rattle.cf_plain.specs.Named.{all_actions}
use Rattle.cc_whole.specs.declared.types.CVariableType.TheVariants as variable
use Rattle.cc_whole.specs.declared.unit.CInitialiser.TheVariants as initialiser
use Rattle.cc_whole.specs.declared.unit.CVariable.{CVariable}
use Rattle.cc_whole.specs.Known.{is_in, is_helper}
use Rattle.cc_whole.specs.Plain.{Item, declares, declares_variable}
use Rattle.cc_whole_link.specs.Placed.{static_renaming, longer}
use Rattle.cc_whole_link.specs.Rename.{Renaming}
use Rattle.cf_lower.specs.Written.{register_name, literal_name, type_number, variable_type, int_constant}
use Rattle.cf_lower.specs.Functions.{prototype_of, but_last, literal_at, literals, start_literals}
use Rattle.cf_lower_program.specs.Names.{begins_with_digit, is_own_name, may_be_function}
use Rattle.cf_lower_program.specs.Lowerable.{Lowerable}
use Rattle.cc_whole_sections.specs.Sections.{In}
use Rattle.cf_lower_valid.proofs.Digits.{decimal-begins}
use Rattle.cf_lower_valid.proofs.Inner.{mapped-in}
use Rattle.cf_lower_valid.proofs.Own.{in-flat, letters}
use Rattle.cf_lower_valid.proofs.Scopes.{is_outer, local_fronts}
use Rattle.cf_lower_valid.proofs.Tests.{file_of, names-told}
use Rattle.cf_lower_valid.proofs.Naming.{Foreign, function-foreign, object-foreign, literal-own, declared-in-function}
use Rattle.cf_lower_alone.proofs.AloneLaws.Values.{KeepsOwn}
use Rattle.cf_lower_alone.proofs.AloneLaws.Statics.{any-there, one-named, cross-named, differ-left, differ-right, not-true, StaticAs, of_function, of_object, of_literal, of_start, of_helper, static_names, static-name, function-static, object-static, literal-static-name, function-foreign-name, object-foreign-name, function-literal, start-literal, static-outer, locals, function-local, object-local, LocalAs, a_function, an_object, local-as, texts-differ, names-parts, functions-differ, objects-differ}

-- ---- the C's own names

digit-begins : (n : ℕ) → begins_with_digit (decimal n) ≡ true
digit-begins n =
    let b = decimal-begins n in
    ap begins_with_digit b.is ∙ (let h = b.is_digit in h)

own-front : (c n : ℕ) → is_own_name (95 ∷ 95 ∷ c ∷ []) (95 ∷ 95 ∷ c ∷ decimal n) ≡ true
own-front c n = ap (λ b. b && begins_with_digit (decimal n)) (eq-eqb c c refl) ∙ digit-begins n

pub own-outer : (c n : ℕ) → In c letters → is_outer (95 ∷ 95 ∷ c ∷ decimal n) ≡ true
own-outer c n h =
    any-there (λ front. is_own_name front (95 ∷ 95 ∷ c ∷ decimal n)) local_fronts (95 ∷ 95 ∷ c ∷ []) (mapped-in (λ c. 95 ∷ 95 ∷ c ∷ []) c letters h) (own-front c n)

-- a name that is none of a literal's, of a helper, or of a C local
pub record IsPlain (n : Name) : Type 0 where
  pub outer : is_outer n ≡ false
  pub no_literal : is_own_name (codes "__s") n ≡ false
  pub no_helper : is_helper n ≡ false

pub foreign-plain : (n : Name) → Foreign n → IsPlain n
foreign-plain n f = record { outer = f.outer; no_literal = f.no_literal; no_helper = f.no_helper }

by-three : (P : Type 0) (a b c : Bool) → (a || b || c) ≡ true → (a ≡ true → P) → (b ≡ true → P) → (c ≡ true → P) → P
by-three P true b c e f g h = f refl
by-three P false true c e f g h = g refl
by-three P false false true e f g h = h refl
by-three P false false false e f g h = absurd (cc)

pub library-plain : (n : Name) → source.is_library n ≡ true → IsPlain n
library-plain n e =
    by-three (IsPlain n) (bytes_eq n (codes "putchar")) (bytes_eq n (codes "getchar")) (bytes_eq n (codes "exit")) e
    (λ h. is-it (codes "putchar") h (record { outer = refl; no_literal = refl; no_helper = refl }))
    (λ h. is-it (codes "getchar") h (record { outer = refl; no_literal = refl; no_helper = refl }))
    (λ h. is-it (codes "exit") h (record { outer = refl; no_literal = refl; no_helper = refl }))
  where
    is-it : (z : Name) → bytes_eq n z ≡ true → IsPlain z → IsPlain n
    is-it z h m = subst IsPlain (sym (same_bytes n z h)) m

pub called-plain : (n : Name) → (source.is_library n || may_be_function n) ≡ true → IsPlain n
called-plain n e = go (or_cases (source.is_library n) (may_be_function n) e)
  where
    go : (source.is_library n ≡ true) ⊎ (may_be_function n ≡ true) → IsPlain n
    go (inl h) = library-plain n h
    go (inr h) = foreign-plain n (function-foreign n h)

-- a longer name by its parts
pub longer-in-file : (n : Name) → longer 1 n ≡ in_file 1 n
longer-in-file n = sym (append_assoc n (codes "__u") (decimal 1))

pub longer-literal : (f : Name) (j : ℕ) → longer 1 (literal_name f j) ≡ literal_name (in_file 1 f) j
longer-literal f j =
    append_assoc (codes "__s" ++ decimal j ++ codes "__") f (codes "__u" ++ decimal 1) ∙ ap (λ n. codes "__s" ++ decimal j ++ codes "__" ++ n) (longer-in-file f)

module _ (fs : List PlainFunction) (xs : List PlainStatic) (low : Lowerable (file_of fs xs)) where
  abbrev S : List Name
  S = static_names fs xs low

  abbrev L : List Name
  L = locals fs xs low

  abbrev pub in_C : Renaming
  in_C = static_renaming 1 S

  abbrev pub in_plain : Name → Name
  in_plain = name_in 1 L

  -- ---- functions and objects

  local-too : (n : Name) → IsPlain n → StaticAs fs xs low n → list_any (bytes_eq n) L ≡ true
  local-too n p (of_function f i k s) = function-local fs xs low f n i k s
  local-too n p (of_object x i k s) = object-local fs xs low x n i k s
  local-too n p (of_literal v i k s) =
      let l = function-literal fs xs low v i in
      absurd (true≢false (sym (literal-own l.owner l.number) ∙ ap (is_own_name (codes "__s")) (sym l.is ∙ s) ∙ p.no_literal))
  local-too n p (of_start v i k s) =
      let l = start-literal fs xs low v i in
      absurd (true≢false (sym (literal-own l.owner l.number) ∙ ap (is_own_name (codes "__s")) (sym l.is ∙ s) ∙ p.no_literal))
  local-too n p (of_helper s) = absurd (true≢false (ap is_helper (sym s) ∙ p.no_helper))

  static-too : (n : Name) → LocalAs fs xs low n → is_in S n ≡ true
  static-too n (a_function f i k s) = ap (is_in S) (sym s) ∙ function-static fs xs low f i k
  static-too n (an_object x i k s) = ap (is_in S) (sym s) ∙ object-static fs xs low x i k

  -- a name is static in the unit where it is local to the file
  pub static-local : (n : Name) → IsPlain n → is_in S n ≡ list_any (bytes_eq n) L
  static-local n p = by (is_in S n) (list_any (bytes_eq n) L) refl refl
    where
      by : (a b : Bool) → is_in S n ≡ a → list_any (bytes_eq n) L ≡ b → a ≡ b
      by true true e h = refl
      by false false e h = refl
      by true false e h = absurd (true≢false (sym (local-too n p (static-name fs xs low n e)) ∙ h))
      by false true e h = absurd (true≢false (sym (static-too n (local-as fs xs low n h)) ∙ e))

  pub plain-goes : (n : Name) → IsPlain n → in_C n ≡ in_plain n
  plain-goes n p = ap (λ c. cond c (longer 1 n) n) (static-local n p) ∙ by (list_any (bytes_eq n) L)
    where
      by : (b : Bool) → cond b (longer 1 n) n ≡ cond b (in_file 1 n) n
      by true = longer-in-file n
      by false = refl

  -- ---- literals

  abbrev variable_name : CVariable → Name
  variable_name v = v.name

  -- the literal of a function that is not local has no static name
  pub literal-shown : (f : PlainFunction) (j : ℕ) (v : CVariable) → In f fs → In v (literals f) → v.name ≡ literal_name f.name j → v.is_static ≡ false
      → is_in S (literal_name f.name j) ≡ false
  literal-shown f j v h m named hidden = not-true (is_in S (literal_name f.name j)) (λ e. go (static-name fs xs low (literal_name f.name j) e))
    where
      there : In v (flat_map literals fs)
      there = in-flat literals f v fs h m

      no-foreign : (n : Name) → Foreign n → n ≡ literal_name f.name j → ⊥
      no-foreign n p s = true≢false (sym (literal-own f.name j) ∙ ap (is_own_name (codes "__s")) (sym s) ∙ p.no_literal)

      go : StaticAs fs xs low (literal_name f.name j) → ⊥
      go (of_function g i k s) = no-foreign g.name (function-foreign-name fs xs low g i) s
      go (of_object x i k s) = no-foreign x.name (object-foreign-name fs xs low x i) s
      go (of_literal w i k s) =
          let same : v ≡ w = one-named variable_name (flat_map literals fs) v w (differ-left variable_name (flat_map literals fs) (flat_map start_literals xs) (texts-differ fs xs low)) there i
          (bytes_same v.name w.name (named ∙ sym s)) in
          true≢false (sym k ∙ ap (λ (v : CVariable). v.is_static) (sym same) ∙ hidden)
      go (of_start w i k s) =
          true≢false (sym (bytes_same v.name w.name (named ∙ sym s))
          ∙ cross-named variable_name (flat_map literals fs) (flat_map start_literals xs) v w (texts-differ fs xs low) there i)
      go (of_helper s) = true≢false (sym (literal-own f.name j) ∙ ap (is_own_name (codes "__s")) s)

  -- a function that is not local keeps its name
  pub function-keeps : (f : PlainFunction) → In f fs → f.is_local ≡ false → list_any (bytes_eq f.name) L ≡ false
  function-keeps f h e = not-true (list_any (bytes_eq f.name) L) (λ k. go (local-as fs xs low f.name k))
    where
      go : LocalAs fs xs low f.name → ⊥
      go (a_function g i k s) =
          let same : g ≡ f = one-named (λ (f : PlainFunction). f.name) fs g f (functions-differ fs xs low) i h (bytes_same g.name f.name s) in
          true≢false (sym k ∙ ap (λ (f : PlainFunction). f.is_local) same ∙ e)
      go (an_object x i k s) =
          true≢false (sym (bytes_same f.name x.name (sym s))
          ∙ (names-parts fs xs low).cross f.name (mapped-in (λ (f : PlainFunction). f.name) f fs h) x.name (mapped-in (λ (x : PlainStatic). x.name) x xs i))

  -- nor does an object change it
  pub object-keeps : (x : PlainStatic) → In x xs → x.is_local ≡ false → list_any (bytes_eq x.name) L ≡ false
  object-keeps x h e = not-true (list_any (bytes_eq x.name) L) (λ k. go (local-as fs xs low x.name k))
    where
      go : LocalAs fs xs low x.name → ⊥
      go (a_function f i k s) =
          true≢false (sym (bytes_same f.name x.name s)
          ∙ (names-parts fs xs low).cross f.name (mapped-in (λ (f : PlainFunction). f.name) f fs i) x.name (mapped-in (λ (x : PlainStatic). x.name) x xs h))
      go (an_object y i k s) =
          let same : y ≡ x = one-named (λ (x : PlainStatic). x.name) xs y x (objects-differ fs xs low) i h (bytes_same y.name x.name s) in
          true≢false (sym k ∙ ap (λ (x : PlainStatic). x.is_local) same ∙ e)

  -- the literal of an initialiser that is not static has no static name
  pub start-shown : (v : CVariable) → In v (flat_map start_literals xs) → v.is_static ≡ false → is_in S v.name ≡ false
  start-shown v h e = not-true (is_in S v.name) (λ k. go (static-name fs xs low v.name k))
    where
      no-foreign : (n : Name) → Foreign n → n ≡ v.name → ⊥
      no-foreign n p s =
          let l = start-literal fs xs low v h in
          true≢false (sym (literal-own l.owner l.number) ∙ ap (is_own_name (codes "__s")) (sym l.is ∙ sym s) ∙ p.no_literal)

      go : StaticAs fs xs low v.name → ⊥
      go (of_function g i k s) = no-foreign g.name (function-foreign-name fs xs low g i) s
      go (of_object x i k s) = no-foreign x.name (object-foreign-name fs xs low x i) s
      go (of_literal w i k s) =
          true≢false (sym (bytes_same w.name v.name s)
          ∙ cross-named variable_name (flat_map literals fs) (flat_map start_literals xs) w v (texts-differ fs xs low) i h)
      go (of_start w i k s) =
          let same : w ≡ v = one-named variable_name (flat_map start_literals xs) w v
          (differ-right variable_name (flat_map literals fs) (flat_map start_literals xs) (texts-differ fs xs low)) i h (bytes_same w.name v.name s) in
          true≢false (sym k ∙ ap (λ (v : CVariable). v.is_static) same ∙ e)
      go (of_helper s) =
          let l = start-literal fs xs low v h in true≢false (sym (literal-own l.owner l.number) ∙ ap (is_own_name (codes "__s")) (sym l.is ∙ s))

  abbrev literal_variable : PlainFunction → ℕ → List ℕ → CVariable
  literal_variable f j b = record {
    is_shared = f.is_shared;
    is_static = f.is_local;
    ty = variable.Chars (int_constant (length b));
    name = literal_name f.name j;
    initialiser = Some (initialiser.Text (but_last b));
  }

  pub literal-goes : (f : PlainFunction) (j : ℕ) (b : List ℕ) → In f fs → In (plain.text j b) (all_actions f.body)
      → in_C (literal_name f.name j) ≡ literal_name (in_plain f.name) j
  literal-goes f j b h m = by f.is_local refl
    where
      own : In (literal_variable f j b) (literals f)
      own = in-flat (literal_at f.name f.is_shared f.is_local) (plain.text j b) (literal_variable f j b) (all_actions f.body) m (inl refl)

      by : (l : Bool) → f.is_local ≡ l → in_C (literal_name f.name j) ≡ literal_name (in_plain f.name) j
      by true e =
          ap (λ c. cond c (longer 1 (literal_name f.name j)) (literal_name f.name j)) (literal-static-name fs xs low (literal_variable f j b) (in-flat literals f (literal_variable f j b) fs h own) e)
          ∙ longer-literal f.name j
          ∙ ap (λ n. literal_name n j) (sym (ap (λ c. cond c (in_file 1 f.name) f.name) (function-local fs xs low f f.name h e refl)))
      by false e =
          ap (λ c. cond c (longer 1 (literal_name f.name j)) (literal_name f.name j)) (literal-shown f j (literal_variable f j b) h own refl e)
          ∙ ap (λ n. literal_name n j) (sym (ap (λ c. cond c (in_file 1 f.name) f.name) (function-keeps f h e)))

  -- ---- actions of a function

  -- what it names
  abbrev pub NamesPlain : Action → Type 0
  NamesPlain (plain.static_object n t) = IsPlain n
  NamesPlain (plain.function n t) = IsPlain n
  NamesPlain (plain.call n t object is into) = IsPlain n
  NamesPlain a = Unit {0}

  pub action-names : (f : PlainFunction) (a : Action) → In f fs → In a (all_actions f.body) → NamesPlain a
  action-names f (plain.static_object n t) h m =
      let i : Item = declares_variable (variable_type [] t) n in
      foreign-plain n (object-foreign n ((names-told fs xs low).named i ((declared-in-function fs xs low f (plain.static_object n t) h m).names i (inl refl))))
  action-names f (plain.function n t) h m =
      let i : Item = declares (prototype_of false n t) in
      called-plain n ((names-told fs xs low).named i ((declared-in-function fs xs low f (plain.function n t) h m).names i (inl refl)))
  action-names f (plain.call n t object is into) h m =
      let i : Item = declares (prototype_of false n t) in
      called-plain n ((names-told fs xs low).named i ((declared-in-function fs xs low f (plain.call n t object is into) h m).names i (inl refl)))
  action-names f a h m = tt

  -- ---- the C's own names

  own-stays : (c n : ℕ) → In c letters → in_C (95 ∷ 95 ∷ c ∷ decimal n) ≡ 95 ∷ 95 ∷ c ∷ decimal n
  own-stays c n h =
      let name : Name = 95 ∷ 95 ∷ c ∷ decimal n in
      ap (λ b. cond b (longer 1 name) name)
      (not-true (is_in S name) (λ e. true≢false (sym (own-outer c n h) ∙ static-outer fs xs low name (static-name fs xs low name e))))

  pub keeps-own : KeepsOwn in_C
  keeps-own = record {
    local = λ i. own-stays 108 i (inl refl);
    register = registers;
    flag = λ d. own-stays 119 d (inr (inr (inr (inr (inl refl)))));
    result = λ t. own-stays 118 (type_number t) (inr (inr (inr (inr (inr (inl refl))))));
  }
    where
      registers : (s : Sort) (i : Register) → in_C (register_name s i) ≡ register_name s i
      registers (number k) i = own-stays 105 i (inr (inl refl))
      registers (address t) i = own-stays 112 i (inr (inr (inl refl)))
      registers (code t) i = own-stays 102 i (inr (inr (inr (inl refl))))
