-- The C names of one linked file stand for its functions and literals.
use Rattle.std.proofs.Common.{◌≡◌, ℕ, zero, suc, ◌+◌, Bool, true, false, not, ◌||◌, ◌==◌, cond, List, [], ◌∷◌, ◌++◌, length, slice_get, map, refl, ap, sym, subst, ◌∙◌, inl, inr, ◌⊎◌, append_assoc, arith}
use Rattle.std.specs.Prelude.{Option, Some, None, option_map, bytes_eq, codes, is_some}
use Rattle.std.specs.List.{list_any, flat_map}
use Rattle.std.proofs.lemmas.Bool.{true≢false, or_cases, eqb-true}
use Rattle.std.proofs.lemmas.Bool.Decides.{nat_tests}
use Rattle.std.proofs.lemmas.List.Folds.{list_any-append}
use Rattle.cf_base.proofs.Tests.{same_bytes, bytes_same, all_of}
use Rattle.cf_core.specs.Types.{Name}
use Rattle.cf_core.specs.Core.{Role, plain_function}
use Rattle.cf_core.specs.Calls as calls
use Rattle.cf_plain.specs.Plain as plain
use Rattle.cf_plain.specs.Plain.{Action, PlainFunction, PlainStatic, PlainFile}
use Rattle.cf_plain.specs.Running.{plain_named, header}
use Rattle.cf_plain.specs.Named.{all_actions}
use Rattle.cf_plain_frames.specs.Simple.{is_plain, function_simple, all_simple}
use Rattle.cc_whole.specs.declared.unit.CProgram.{CProgram}
use Rattle.cc_whole.specs.declared.types.CVariableType.TheVariants as variable
use Rattle.cc_whole.specs.declared.unit.CInitialiser.TheVariants as initialiser
use Rattle.cc_whole.specs.declared.unit.CVariable.{CVariable}
use Rattle.cc_whole.specs.Known.{is_helper, is_main}
use Rattle.cc_whole.specs.Known as known
use Rattle.cc_whole.specs.Plain.{Function, Item, items_of, functions_of, variables_of}
use Rattle.cc_whole_mean.specs.declared.named.Named.{Named}
use Rattle.cc_whole_mean.specs.declared.named.Named.TheVariants as meant
use Rattle.cc_whole_mean.specs.declared.named.Shape.TheVariants.{Array as array}
use Rattle.cc_whole_mean.specs.Types.{variable_shape}
use Rattle.cc_whole_mean.specs.Scope.{Scope, no_names, bind_variables, function_names}
use Rattle.cc_whole_mean.specs.Start.{file_names, function_in}
use Rattle.cf_lower.specs.Written.{int_constant, literal_name}
use Rattle.cf_lower.specs.Functions.{but_last, literal_at, literals, start_literals, owner_of}
use Rattle.cf_lower_relate.specs.Map.{Numbered}
use Rattle.cf_lower_steps.specs.Lowering.{is_function}
use Rattle.cf_lower_turns.specs.Texts.{Text}
use Rattle.cf_lower_calls.specs.Returns.Called.{Programs, fixed}
use Rattle.cf_lower_calls.specs.Entered.Lowered.{Fitting}
use Rattle.cf_lower_program.specs.Names.{is_own_name}
use Rattle.cf_lower_program.specs.Lowerable as tests
use Rattle.cf_lower_program.specs.Lowerable.{Lowerable}
use Rattle.cc_whole_sections.specs.Sections.{In, Every}
use Rattle.cc_whole_sections.proofs.Names.{in-left, in-right}
use Rattle.cf_lower_valid.proofs.Inner.{mapped-in, every-mapped, every-append}
use Rattle.cf_lower_valid.proofs.Own.{in-flat}
use Rattle.cf_lower_valid.proofs.Once.{Differ, differ-named, differ-parts, any-none, either-way, told-apart, from-flat}
use Rattle.cf_lower_valid.proofs.Tests.{file_of, all-in, in-all, function-told}
use Rattle.cf_lower_valid.proofs.Naming.{Foreign, literal-own}
use Rattle.cf_lower_calls.specs.Entered.Linked.{linked_function}
use Rattle.cf_lower_alone.specs.Linked.{linked_static, linked_literals, linked_starts, shown_variable, linked_variable, in_program, main_function, LinkedAlone}
use Rattle.cf_lower_alone.proofs.AloneLaws.Statics.{any-there, differ-left, object-foreign-name, locals}
use Rattle.cf_lower_alone.proofs.AloneLaws.Names.{in_plain}
use Rattle.cf_lower_alone.proofs.AloneLaws.Variables.{object_there, function_there}
use Rattle.cf_lower_alone.specs.Programs.{variable_in, text_numbered, bytes_in, text_at, type_of_function, beside}
use Rattle.cf_lower_alone.proofs.FittingLaws.Bound.{unbound-functions, bound-functions, bound-variables}
use Rattle.cf_lower_alone.proofs.FittingLaws.Outer.{literal-there}
use Rattle.cf_lower_alone.proofs.FittingLaws.Simple.{kept-simple, all-same-simple}
use Rattle.cf_lower_alone.proofs.FittingLaws.Sides.{differ-unmapped, found-header, plain-found, joined, GS, XS, there-foreign}

-- ---- lists

pub slice-in : {A : Type 0} (xs : List A) (i : ℕ) (x : A) → slice_get xs i ≡ Some x → In x xs
slice-in [] i x e = absurd (cc)
slice-in (y ∷ ys) zero x e = inl (let same : y ≡ x = cc in same)
slice-in (y ∷ ys) (suc i) x e = inr (slice-in ys i x e)

pub some-same : {A : Type 0} {a b : A} → Some a ≡ Some b → a ≡ b
some-same e = cc

no-zero : (n i : ℕ) → n ≡ suc i → n == 0 ≡ false
no-zero n i e = grind (arith, nat_tests, e)

by-three : (P : Type 0) (a b c : Bool) → (a || b || c) ≡ true → (a ≡ true → P) → (b ≡ true → P) → (c ≡ true → P) → P
by-three P true b c e f g h = f refl
by-three P false true c e f g h = g refl
by-three P false false true e f g h = h refl
by-three P false false false e f g h = absurd (cc)

-- the library's functions of the source are the C's
library-named : (name : Name) → calls.is_library name ≡ true → list_any (bytes_eq name) known.library ≡ true
library-named name e =
    by-three (list_any (bytes_eq name) known.library ≡ true) (bytes_eq name (codes "putchar")) (bytes_eq name (codes "getchar")) (bytes_eq name (codes "exit")) e
    (λ h. is-it (codes "putchar") h refl) (λ h. is-it (codes "getchar") h refl) (λ h. is-it (codes "exit") h refl)
  where
    is-it : (z : Name) → bytes_eq name z ≡ true → list_any (bytes_eq z) known.library ≡ true → list_any (bytes_eq name) known.library ≡ true
    is-it z h m = subst (λ y. list_any (bytes_eq y) known.library ≡ true) (sym (same_bytes name z h)) m

pub role-plain : (r : Role) → tests.is_plain r ≡ true → r ≡ plain_function
role-plain plain_function e = refl
role-plain r e = absurd (true≢false (sym e))

-- ---- literals of a function

text-in : (j : ℕ) (acts : List Action) (b : List ℕ) → text_numbered j acts ≡ Some b → In (plain.text j b) acts
text-in j [] b e = absurd (cc)
text-in j (plain.text i c ∷ acts) b e = go (i == j) refl (λ k. text-in j acts b k) e
  where
    go : (t : Bool) → (i == j) ≡ t → (text_numbered j acts ≡ Some b → In (plain.text j b) acts) → cond t (Some c) (text_numbered j acts) ≡ Some b
        → In (plain.text j b) (plain.text i c ∷ acts)
    go true is again k = inl (ap (λ (n : ℕ). plain.text n c) (eqb-true i j is) ∙ ap (plain.text j) (some-same k))
    go false is again k = inr (again k)
text-in j (a ∷ acts) b e = inr (text-in j acts b e)

-- a literal of the program, with the function that names it
pub record TextThere (gs : List PlainFunction) (x : Option Named) (f : Name) (j : ℕ) (t : Text) : Type 0 where
  pub one : PlainFunction
  pub there : In one gs
  pub named : one.name ≡ f
  pub bytes : List ℕ
  pub stands : In (plain.text j bytes) (all_actions one.body)
  pub is : t ≡ record { block = variable_in x; bytes = bytes }

pub text-there : (gs : List PlainFunction) (x : Option Named) (f : Name) (j : ℕ) (t : Text) → text_at x (bytes_in (plain_named gs f) j) ≡ Some t → TextThere gs x f j t
text-there gs x f j t e = go (plain_named gs f) refl e
  where
    go : (o : Option PlainFunction) → plain_named gs f ≡ o → text_at x (bytes_in o j) ≡ Some t → TextThere gs x f j t
    go None is k = absurd (cc)
    go (Some g) is k = by (text_numbered j (all_actions g.body)) refl k
      where
        by : (o : Option (List ℕ)) → text_numbered j (all_actions g.body) ≡ o → text_at x o ≡ Some t → TextThere gs x f j t
        by None e k = absurd (cc)
        by (Some b) e k =
            let found = plain-found gs f g is in
            record {
              one = g;
              there = found.there;
              named = found.named;
              bytes = b;
              stands = text-in j (all_actions g.body) b e;
              is = sym (some-same k);
            }

-- ---- the program

module _ (fs : List PlainFunction) (xs : List PlainStatic) (low : Lowerable (file_of fs xs)) (program : CProgram)
    (A : LinkedAlone (file_of fs xs) program) where
  abbrev file : PlainFile
  file = file_of fs xs

  abbrev pub gs : List PlainFunction
  gs = GS fs xs low

  abbrev pub B : Programs
  B = beside gs (joined fs xs low) program

  abbrev items : List Item
  items = items_of program.items

  abbrev pub CF : List Function
  CF = functions_of items

  abbrev pub all_names : List Name
  all_names = function_names CF ++ known.library

  abbrev pub vs : List CVariable
  vs = variables_of items

  abbrev pub names : Scope
  names = file_names items

  abbrev pub rest : List Function
  rest = A.helpers ++ main_function A.helpers ∷ []

  abbrev function_name : Function → Name
  function_name f = f.prototype.name

  pub c-functions : CF ≡ map (linked_function []) gs ++ rest
  c-functions = A.functions ∙ append_assoc (map (linked_function []) gs) A.helpers (main_function A.helpers ∷ [])

  -- the names of the file's differ
  pub there-differ : Differ (λ (g : PlainFunction). g.name) gs
  there-differ =
      let apart = differ-parts (map function_name CF) (map (λ (v : CVariable). v.name) vs) A.once in
      differ-unmapped function_name (linked_function []) gs
      (differ-left function_name (map (linked_function []) gs) rest (subst (Differ function_name) c-functions (differ-named function_name CF apart.first)))

  -- the names of other functions
  abbrev pub IsOther : Name → Type 0
  IsOther n = (is_helper n ≡ true) ⊎ (is_main n ≡ true)

  pub rest-other : Every (λ (f : Function). IsOther f.prototype.name) rest
  rest-other =
      every-append (λ (f : Function). IsOther f.prototype.name) A.helpers (main_function A.helpers ∷ []) (λ f h. inl (A.helpers_named f h)) last
    where
      last : Every (λ (f : Function). IsOther f.prototype.name) (main_function A.helpers ∷ [])
      last f (inl e) = subst (λ (f : Function). IsOther f.prototype.name) e (inr refl)
      last f (inr k) = absurd k

  pub no-other : (n : Name) → Foreign n → IsOther n → ⊥
  no-other n f (inl e) = true≢false (sym e ∙ f.no_helper)
  no-other n f (inr e) = true≢false (sym e ∙ f.no_main)

  pub linked-in : (g : PlainFunction) → In g gs → In (linked_function [] g) CF
  linked-in g h =
      subst (In (linked_function [] g)) (sym c-functions) (in-left (linked_function [] g) (map (linked_function []) gs) rest (mapped-in (linked_function []) g gs h))

  function-called : (g : PlainFunction) → In g gs → list_any (bytes_eq g.name) (function_names CF) ≡ true
  function-called g h =
      any-there (bytes_eq g.name) (function_names CF) g.name (mapped-in (λ (f : Function). f.prototype.name) (linked_function [] g) CF (linked-in g h)) (bytes_same g.name g.name refl)

  in-either : (n : Name) (a b : Bool) → list_any (bytes_eq n) (function_names CF) ≡ a → list_any (bytes_eq n) known.library ≡ b → (a || b) ≡ true
      → list_any (bytes_eq n) all_names ≡ true
  in-either n a b e h k = list_any-append (bytes_eq n) (function_names CF) known.library ∙ ap (λ c. c || list_any (bytes_eq n) known.library) e ∙ ap (λ c. a || c) h ∙ k

  or-true : (a : Bool) → (a || true) ≡ true
  or-true true = refl
  or-true false = refl

  -- a function of the source by its name
  pub record InPlain (name : Name) : Type 0 where
    pub one : PlainFunction
    pub there : In one gs
    pub named : one.name ≡ name

  pub in-plain : (name : Name) → is_some (calls.function_named B.program name) ≡ true → InPlain name
  in-plain name e = go (plain_named gs name) refl (sym (ap is_some (found-header gs name)) ∙ e)
    where
      go : (o : Option PlainFunction) → plain_named gs name ≡ o → is_some (option_map header (plain_named gs name)) ≡ true → InPlain name
      go None is k = absurd (true≢false (sym k ∙ ap (λ o. is_some (option_map header o)) is))
      go (Some g) is k = let found = plain-found gs name g is in record { one = g; there = found.there; named = found.named }

  all-named : (name : Name) → is_function B.program name ≡ true → list_any (bytes_eq name) all_names ≡ true
  all-named name e = go (or_cases (calls.is_library name) (is_some (calls.function_named B.program name)) e)
    where
      go : (calls.is_library name ≡ true) ⊎ (is_some (calls.function_named B.program name) ≡ true) → list_any (bytes_eq name) all_names ≡ true
      go (inl h) =
          in-either name (list_any (bytes_eq name) (function_names CF)) true refl (library-named name h) (or-true (list_any (bytes_eq name) (function_names CF)))
      go (inr h) =
          let g = in-plain name h in
          in-either name true (list_any (bytes_eq name) known.library)
          (subst (λ n. list_any (bytes_eq n) (function_names CF) ≡ true) g.named (function-called g.one g.there)) refl refl

  -- a name with its number
  pub record HasNumber (name : Name) : Type 0 where
    pub place : ℕ
    pub stands : names name ≡ Some (meant.Function (suc place))
    pub at : slice_get all_names place ≡ Some name

  pub has-number : (name : Name) → is_function B.program name ≡ true → HasNumber name
  has-number name h =
      let x = bound-functions all_names 1 (bind_variables vs 0 no_names) name (all-named name h) in
      record {
        place = x.place;
        stands = x.is ∙ ap (λ (n : ℕ). Some (meant.Function n)) (let s : 1 + x.place ≡ suc x.place = omega arith in s);
        at = x.at;
      }

  suc-same : {i j : ℕ} → suc i ≡ suc j → i ≡ j
  suc-same e = omega (arith, e)

  numbered : Numbered (fixed B)
  numbered = record {
    some = λ f h. let x = has-number f h in no-zero (B.function f) x.place (ap function_in x.stands);
    apart = λ f g h k e.
        let x = has-number f h in
        let y = has-number g k in
        let same : x.place ≡ y.place = suc-same (sym (ap function_in x.stands) ∙ e ∙ ap function_in y.stands) in
        some-same (sym x.at ∙ ap (slice_get all_names) same ∙ y.at);
  }

  function-simple-there : Every (λ f. function_simple (function_there fs xs low f) ≡ true) fs
  function-simple-there f h =
      all_of (is_plain f.role) (all_simple (function_there fs xs low f).body)
      (ap is_plain (role-plain f.role (all-in (λ (f : PlainFunction). tests.is_plain f.role) fs low.roles f h)))
      (all-same-simple (in_plain fs xs low) f.body ∙ kept-simple f (function-told fs xs low f h).kept)

  -- ---- literals

  pub literal-no-function : (f : Name) (j : ℕ) → list_any (bytes_eq (literal_name f j)) all_names ≡ false
  literal-no-function f j =
      let n : Name = literal_name f j in
      let none : (k : Function) → (a : Name) → k.prototype.name ≡ a → Foreign a → bytes_eq n k.prototype.name ≡ false =
      λ k a e p. told-apart (is_own_name (codes "__s")) n k.prototype.name (literal-own f j) (ap (is_own_name (codes "__s")) e ∙ p.no_literal) in
      list_any-append (bytes_eq n) (function_names CF) known.library
      ∙ ap (λ b. b || list_any (bytes_eq n) known.library)
      (any-none (bytes_eq n) (function_names CF)
      (every-mapped (λ m. bytes_eq n m ≡ false) (λ (f : Function). f.prototype.name) CF
      (subst (Every (λ (k : Function). bytes_eq n k.prototype.name ≡ false)) (sym c-functions)
      (every-append (λ (k : Function). bytes_eq n k.prototype.name ≡ false) (map (linked_function []) gs) rest
      (every-mapped (λ (k : Function). bytes_eq n k.prototype.name ≡ false) (linked_function []) gs
      (λ g h. none (linked_function [] g) g.name refl (there-foreign fs xs low g h)))
      (λ k h. by-other k.prototype.name (rest-other k h))))))
    where
      by-other : (m : Name) → IsOther m → bytes_eq (literal_name f j) m ≡ false
      by-other m (inl e) = either-way m (literal_name f j) (told-apart is_helper m (literal_name f j) e refl)
      by-other m (inr e) = either-way m (literal_name f j) (told-apart is_main m (literal_name f j) e refl)

  abbrev HasArray : CVariable → Type 0
  HasArray v = is_own_name (codes "__s") v.name ≡ true → variable_shape v.ty ≡ array

  literal-array : (f : Name) (s l : Bool) (acts : List Action) → Every (λ (v : CVariable). variable_shape v.ty ≡ array) (flat_map (literal_at f s l) acts)
  literal-array f s l acts v h = let x = from-flat (literal_at f s l) acts v h in one x.one v x.gives
    where
      one : (a : Action) → Every (λ (v : CVariable). variable_shape v.ty ≡ array) (literal_at f s l a)
      one (plain.text j b) v (inl e) = subst (λ (v : CVariable). variable_shape v.ty ≡ array) e refl
      one (plain.text j b) v (inr k) = absurd k
      one a v h = absurd h

  -- a variable with the name of a literal is one
  variable-array : Every HasArray vs
  variable-array =
      subst (Every HasArray) (sym A.variables)
      (every-append HasArray (map linked_static (XS fs xs low) ++ flat_map linked_literals gs) (linked_starts file)
      (every-append HasArray (map linked_static (XS fs xs low)) (flat_map linked_literals gs)
      (every-mapped HasArray linked_static (XS fs xs low)
      (every-mapped (λ (x : PlainStatic). HasArray (linked_static x)) (object_there fs xs low) xs
      (λ x h e. absurd (true≢false (sym e ∙ literal-there (list_any (bytes_eq x.name) (locals fs xs low)) x.name (object-foreign-name fs xs low x h).no_literal)))))
      (λ v h.
      let g = from-flat linked_literals gs v h in
      every-mapped HasArray shown_variable (literals g.one)
      (λ w k e. literal-array g.one.name g.one.is_shared g.one.is_local (all_actions g.one.body) w k) v g.gives))
      (every-mapped HasArray (linked_variable (in_program file)) (flat_map start_literals xs)
      (λ v h e.
      let x = from-flat start_literals xs v h in
      literal-array (owner_of x.one) x.one.is_shared (x.one.is_local || not x.one.is_shared) (all_actions x.one.start) v x.gives)))

  abbrev pub the_literal : PlainFunction → ℕ → List ℕ → CVariable
  the_literal g j b = record {
    is_shared = g.is_shared;
    is_static = g.is_local;
    ty = variable.Chars (int_constant (length b));
    name = literal_name g.name j;
    initialiser = Some (initialiser.Text (but_last b));
  }

  -- the literal of a function is a variable
  pub literal-in : (g : PlainFunction) (j : ℕ) (b : List ℕ) → In g gs → In (plain.text j b) (all_actions g.body) → In (shown_variable (the_literal g j b)) vs
  literal-in g j b h m =
      let v : CVariable = the_literal g j b in
      let w : CVariable = shown_variable v in
      subst (In w) (sym A.variables)
      (in-left w (map linked_static (XS fs xs low) ++ flat_map linked_literals gs) (linked_starts file)
      (in-right w (map linked_static (XS fs xs low)) (flat_map linked_literals gs)
      (in-flat linked_literals g w gs h
      (mapped-in shown_variable v (literals g) (in-flat (literal_at g.name g.is_shared g.is_local) (plain.text j b) v (all_actions g.body) m (inl refl))))))

  literal-called : (g : PlainFunction) (j : ℕ) (b : List ℕ) → In g gs → In (plain.text j b) (all_actions g.body)
      → list_any (λ (v : CVariable). bytes_eq (literal_name g.name j) v.name) vs ≡ true
  literal-called g j b h m =
      any-there (λ (v : CVariable). bytes_eq (literal_name g.name j) v.name) vs (shown_variable (the_literal g j b)) (literal-in g j b h m)
      (bytes_same (literal_name g.name j) (literal_name g.name j) refl)

  pub record LiteralStands (f : Name) (j : ℕ) (x : Text) : Type 0 where
    pub one : CVariable
    pub at : slice_get vs x.block ≡ Some one
    pub named : one.name ≡ literal_name f j
    pub stands : names (literal_name f j) ≡ Some (meant.Variable x.block array)

  pub literal-stands : (f : Name) (j : ℕ) (x : Text) → B.texts f j ≡ Some x → LiteralStands f j x
  literal-stands f j x e =
      let n : Name = literal_name f j in
      let t = text-there gs (names n) f j x e in
      let y = bound-variables vs 0 no_names n
      (subst (λ m. list_any (λ (v : CVariable). bytes_eq (literal_name m j) v.name) vs ≡ true) t.named (literal-called t.one j t.bytes t.there t.stands)) in
      let place : 0 + y.place ≡ y.place = omega arith in
      let is : names n ≡ Some (meant.Variable y.place (variable_shape y.one.ty)) =
      unbound-functions all_names 1 (bind_variables vs 0 no_names) n (literal-no-function f j) ∙ y.is
      ∙ ap (λ (b : ℕ). Some (meant.Variable b (variable_shape y.one.ty))) place in
      let block : x.block ≡ y.place = ap (λ (t : Text). t.block) t.is ∙ ap variable_in is in
      record {
        one = y.one;
        at = ap (slice_get vs) block ∙ y.at;
        named = y.named;
        stands = is ∙ ap (λ (b : ℕ). Some (meant.Variable b (variable_shape y.one.ty))) (sym block)
            ∙ ap (λ s. Some (meant.Variable x.block s)) (variable-array y.one (slice-in vs y.place y.one y.at) (ap (is_own_name (codes "__s")) y.named ∙ literal-own f j));
      }

  pub fitting : Fitting B
  fitting = record {
    none = refl;
    simple = in-all function_simple gs (every-mapped (λ f. function_simple f ≡ true) (function_there fs xs low) fs function-simple-there);
    numbered = numbered;
    named = λ name h. let x = has-number name h in x.stands ∙ ap (λ (n : ℕ). Some (meant.Function n)) (sym (ap function_in x.stands));
    typed = λ name f e. ap (type_of_function name) e;
    literals = λ f j x e. (literal-stands f j x e).stands;
  }
