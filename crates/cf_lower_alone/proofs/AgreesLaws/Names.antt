-- What functions of one linked file name is there: functions by the rules of linking, and literals. So they pass the tests.
use Rattle.std.proofs.Common.{◌≡◌, ℕ, Bool, true, false, not, ◌&&◌, ◌||◌, ◌==◌, cond, List, [], ◌∷◌, ◌++◌, length, map, Ok, refl, ap, sym, subst, ◌∙◌, inl, inr, ◌⊎◌, arith}
use Rattle.std.specs.Prelude.{Option, Some, None, option_map, is_some, bytes_eq, codes}
use Rattle.std.specs.List.{flat_map, list_all, list_any}
use Rattle.std.proofs.lemmas.Bool.{true≢false, or_cases}
use Rattle.std.proofs.lemmas.Bool.Decides.{nat_tests}
use Rattle.cf_base.proofs.Tests.{same_bytes, bytes_same, both}
use Rattle.cf_core.specs.Types.{Name, SourceType}
use Rattle.cf_core.specs.Calls as calls
use Rattle.cf_core.specs.Joined.{in_file}
use Rattle.cf_plain.specs.Plain as plain
use Rattle.cf_plain.specs.Plain.{Action, PlainFunction, PlainStatic}
use Rattle.cf_plain.specs.Named.{all_actions}
use Rattle.cf_plain.specs.Joined.{renamed_action}
use Rattle.cf_plain.specs.Running.{plain_named, header}
use Rattle.cc_whole.specs.declared.types.CVariableType.TheVariants as variable
use Rattle.cc_whole.specs.declared.unit.CInitialiser.TheVariants as initialiser
use Rattle.cc_whole.specs.declared.unit.CProgram.{CProgram}
use Rattle.cc_whole.specs.declared.unit.CUnit.{CUnit}
use Rattle.cc_whole.specs.declared.unit.CVariable.{CVariable}
use Rattle.cc_whole.specs.Known.{is_in, is_helper, is_library, is_main}
use Rattle.cc_whole.specs.Plain.{Function, Item, declares, items_of, name_of}
use Rattle.cc_whole.specs.Uses.{uses_of_item}
use Rattle.cc_whole_link.specs.Link.{Links}
use Rattle.cf_lower.specs.Written.{int_constant, literal_name}
use Rattle.cf_lower.specs.Functions.{prototype_of, but_last, literal_at, literals, declared_at, named_in, lowered_file}
use Rattle.cf_lower_steps.specs.Lowering.{is_function}
use Rattle.cf_lower_place.specs.Named.{library_type}
use Rattle.cf_lower_program.specs.Names.{own_fronts, is_own_name, ends_as_file, is_foreign, is_function_name, may_be_function, own_names}
use Rattle.cf_lower_program.specs.Lowerable.{Lowerable}
use Rattle.cf_lower_actions.specs.Leaf.{is_text}
use Rattle.cf_lower_calls.specs.Returns.Called.{Programs}
use Rattle.cf_lower_tested.specs.Named.{passes, ActionThere, ActionsThere, NamesTyped, AllNamesThere}
use Rattle.cf_lower_tested.specs.Tested.{AllTested}
use Rattle.cf_lower_tested.proofs.Joined.{of-library, files-pass, types-shaped}
use Rattle.cf_lower_tested.proofs.Named.{named-tested}
use Rattle.cc_whole_sections.specs.Sections.{In, Every}
use Rattle.cf_lower_valid.proofs.Inner.{mapped-in}
use Rattle.cf_lower_valid.proofs.Others.{mapped-from}
use Rattle.cf_lower_valid.proofs.Once.{Differ, differ-parts, differ-named, no-not}
use Rattle.cf_lower_valid.proofs.Own.{in-flat}
use Rattle.cf_lower_valid.proofs.Naming.{Foreign, function-foreign, declared-in-function}
use Rattle.cf_lower_valid.proofs.Tests.{file_of, all-in, names-told}
use Rattle.cf_lower_alone.specs.Linked.{linked_static, linked_literals, linked_starts, shown_variable, LinkedAlone}
use Rattle.cf_lower_alone.specs.Programs.{text_numbered, bytes_in, text_at, type_of_function}
use Rattle.cf_lower_alone.proofs.AloneLaws.After.{all-actions-renamed}
use Rattle.cf_lower_alone.proofs.AloneLaws.Statics.{differ-left, differ-right, not-true, lowered_items, function-foreign-name, object-foreign-name, locals, LocalAs, a_function, an_object, local-as}
use Rattle.cf_lower_alone.proofs.AloneLaws.Names.{in_plain}
use Rattle.cf_lower_alone.proofs.AloneLaws.Uses.{function-owned, function-of-file, passing}
use Rattle.cf_lower_alone.proofs.AloneLaws.Variables.{function_there}
use Rattle.cf_lower_alone.proofs.FittingLaws.Sides.{found-header, plain-found, from-file, there-foreign, differ-unmapped, joined-only, XS}
use Rattle.cf_lower_alone.proofs.FittingLaws.Lowered.{named-itself}
use Rattle.cf_lower_alone.proofs.FittingLaws.Numbers.{source-library}
use Rattle.cf_lower_alone.proofs.FittingLaws.Fits.{gs, B, CF, vs, names, there-differ, fitting}

-- ---- literals

abbrev variable_name : CVariable → Name
variable_name v = v.name

abbrev text_variable : Name → Bool → Bool → ℕ → List ℕ → CVariable
text_variable f s l j b = record {
  is_shared = s;
  is_static = l;
  ty = variable.Chars (int_constant (length b));
  name = literal_name f j;
  initialiser = Some (initialiser.Text (but_last b));
}

-- of literals with names that differ, the one of a number is found
text-first : (f : Name) (s l : Bool) (acts : List Action) (j : ℕ) (b : List ℕ) → Differ variable_name (flat_map (literal_at f s l) acts) → In (plain.text j b) acts
    → text_numbered j acts ≡ Some b
text-first f s l [] j b d h = absurd h
text-first f s l (plain.text i c ∷ acts) j b d (inl e) =
    let number : i ≡ j = same-number e in
    let bytes : c ≡ b = same-bytes e in
    ap (λ t. cond t (Some c) (text_numbered j acts)) (let t : i == j ≡ true = grind (arith, nat_tests, number) in t) ∙ ap (λ (c : List ℕ). Some c) bytes
  where
    same-number : plain.text i c ≡ plain.text j b → i ≡ j
    same-number e = cc

    same-bytes : plain.text i c ≡ plain.text j b → c ≡ b
    same-bytes e = cc
text-first f s l (plain.text i c ∷ acts) j b d (inr h) = go (i == j) refl (text-first f s l acts j b d.1 h)
  where
    go : (t : Bool) → i == j ≡ t → text_numbered j acts ≡ Some b → cond t (Some c) (text_numbered j acts) ≡ Some b
    go true is rest =
        let same : i ≡ j = grind (arith, nat_tests, is) in
        absurd (true≢false (sym (bytes_same (literal_name f i) (literal_name f j) (ap (literal_name f) same))
        ∙ d.0 (text_variable f s l j b) (in-flat (literal_at f s l) (plain.text j b) (text_variable f s l j b) acts h (inl refl))))
    go false is rest = rest
text-first f s l (a ∷ acts) j b d (inl e) = absurd (cc)
text-first f s l (a ∷ acts) j b d (inr h) = text-first f s l acts j b d h

differ-flat : {A : Type 0} (g : A → List CVariable) (xs : List A) (x : A) → Differ variable_name (flat_map g xs) → In x xs → Differ variable_name (g x)
differ-flat g [] x d h = absurd h
differ-flat g (y ∷ ys) x d (inl e) = subst (λ y. Differ variable_name (g y)) e (differ-left variable_name (g y) (flat_map g ys) d)
differ-flat g (y ∷ ys) x d (inr h) = differ-flat g ys x (differ-right variable_name (g y) (flat_map g ys) d) h

-- ---- names

pub foreign-ends : (y : Name) → is_foreign y ≡ true → ends_as_file y ≡ false
foreign-ends y e =
    let five =
    not (list_any (λ front. is_own_name front y) own_fronts) && not (is_helper y) && not (bytes_eq y (codes "__sti")) && not (is_library y) && not (is_main y) in
    no-not (ends_as_file y) (both five (not (ends_as_file y)) e).1

or-left : (a b : Bool) → a ≡ true → (a || b) ≡ true
or-left a b e = ap (λ c. c || b) e

or-right : (a b : Bool) → b ≡ true → (a || b) ≡ true
or-right true b e = refl
or-right false b e = e

module _ (fs : List PlainFunction) (xs : List PlainStatic) (low : Lowerable (file_of fs xs)) (u : CUnit) (program : CProgram)
    (e : items_of u.items ≡ lowered_items fs xs low) (links : Links (u ∷ []) (Ok program)) (A : LinkedAlone (file_of fs xs) program) where
  abbrev G : List PlainFunction
  G = gs fs xs low program A

  abbrev P : Programs
  P = B fs xs low program A

  abbrev q : Name → Name
  q = in_plain fs xs low

  -- ---- functions

  -- none of the library is the file's
  pub library-apart : (n : Name) → calls.is_library n ≡ true → (f : Name) → Foreign f → f ≡ n → ⊥
  library-apart n h f p same = true≢false (sym h ∙ ap calls.is_library (sym same) ∙ source-library f p)

  pub library-stays : (n : Name) → calls.is_library n ≡ true → q n ≡ n
  library-stays n h = ap (λ c. cond c (in_file 1 n) n) (not-true (list_any (bytes_eq n) (locals fs xs low)) (λ k. go (local-as fs xs low n k)))
    where
      go : LocalAs fs xs low n → ⊥
      go (a_function f i l same) = library-apart n h f.name (function-foreign-name fs xs low f i) same
      go (an_object x i l same) = library-apart n h x.name (object-foreign-name fs xs low x i) same

  own-there : (n : Name) → list_any (λ (f : PlainFunction). bytes_eq f.name n) fs ≡ true → is_some (calls.function_named P.program (q n)) ≡ true
  own-there n k =
      let p = passing (λ (f : PlainFunction). bytes_eq f.name n) fs k in
      let g : PlainFunction = function_there fs xs low p.one in
      let there : In g G = mapped-in (function_there fs xs low) p.one fs p.there in
      let found : plain_named G g.name ≡ Some g = named-itself G g (there-differ fs xs low program A) there in
      let same : g.name ≡ q n = ap q (same_bytes p.one.name n p.passes) in
      ap is_some (found-header G (q n) ∙ ap (option_map header) (ap (plain_named G) (sym same) ∙ found))

  -- what an action of a function of the file declares
  declared-there : (f : PlainFunction) → In f fs → (a : Action) → In a (all_actions f.body) → (n : Name) (t : SourceType) → In (declares (prototype_of false n t)) (declared_at [] a)
      → is_function P.program (q n) ≡ true
  declared-there f h a m n t d =
      let i : Item = declares (prototype_of false n t) in
      let named : In i (named_in (file_of fs xs)) = (declared-in-function fs xs low f a h m).names i d in
      go named (or_cases (calls.is_library n) (may_be_function n) ((names-told fs xs low).named i named))
    where
      -- the file defines it, or uses it
      in-file : Foreign n → is_function_name n ≡ true → ends_as_file n ≡ false
          → (is_in (own_names (file_of fs xs)) n ≡ true) ⊎ (is_in (flat_map uses_of_item (lowered_file (file_of fs xs))) n ≡ true)
          → list_any (λ (f : PlainFunction). bytes_eq f.name n) fs ≡ true
      in-file foreign is_named other (inl own) = function-owned fs xs low u program e links n foreign is_named other own
      in-file foreign is_named other (inr used) = function-of-file fs xs low u program e links n foreign is_named other used

      go : In (declares (prototype_of false n t)) (named_in (file_of fs xs)) → (calls.is_library n ≡ true) ⊎ (may_be_function n ≡ true) → is_function P.program (q n) ≡ true
      go named (inl k) =
          or-left (calls.is_library (q n)) (is_some (calls.function_named P.program (q n))) (ap calls.is_library (library-stays n k) ∙ k)
      go named (inr k) =
          let two = both (is_foreign n) (is_function_name n) k in
          or-right (calls.is_library (q n)) (is_some (calls.function_named P.program (q n)))
          (own-there n
          (in-file (function-foreign n k) two.1 (foreign-ends n two.0)
          (or_cases (is_in (own_names (file_of fs xs)) n) (is_in (flat_map uses_of_item (lowered_file (file_of fs xs))) n)
          (all-in (λ i. is_in (own_names (file_of fs xs)) (name_of i) || is_in (flat_map uses_of_item (lowered_file (file_of fs xs))) (name_of i))
          (named_in (file_of fs xs)) low.used (declares (prototype_of false n t)) named))))

  -- by its name in the program
  abbrev IsThere : Name → Type 0
  IsThere n = is_function P.program n ≡ true

  function-there : (f : PlainFunction) → In f fs → (a : Action) → In a (all_actions f.body) → (name : Name) (t : SourceType) → renamed_action q a ≡ plain.function name t → IsThere name
  function-there f h (plain.function n v) m name t k = subst IsThere (same-name k) (declared-there f h (plain.function n v) m n v (inl refl))
    where
      same-name : plain.function (q n) v ≡ plain.function name t → q n ≡ name
      same-name k = cc
  function-there f h (plain.static_object n v) m name t k = absurd (cc)
  function-there f h (plain.function_pointer v) m name t k = absurd (cc)
  function-there f h (plain.is_reached n) m name t k = absurd (cc)
  function-there f h (plain.reach n) m name t k = absurd (cc)
  function-there f h (plain.finish_static n) m name t k = absurd (cc)
  function-there f h (plain.call n v object is into) m name t k = absurd (cc)
  function-there f h (plain.build n v p is) m name t k = absurd (cc)
  function-there f h a m name t k = absurd (cc)

  call-there : (f : PlainFunction) → In f fs → (a : Action) → In a (all_actions f.body) → (name : Name) (t : SourceType) (object : Option plain.Register) (is : List ℕ)
      (into : Option plain.Register) → renamed_action q a ≡ plain.call name t object is into → IsThere name
  call-there f h (plain.call n v o us w) m name t object is into k = subst IsThere (same-name k) (declared-there f h (plain.call n v o us w) m n v (inl refl))
    where
      same-name : plain.call (q n) v o us w ≡ plain.call name t object is into → q n ≡ name
      same-name k = cc
  call-there f h (plain.static_object n v) m name t object is into k = absurd (cc)
  call-there f h (plain.function n v) m name t object is into k = absurd (cc)
  call-there f h (plain.function_pointer v) m name t object is into k = absurd (cc)
  call-there f h (plain.is_reached n) m name t object is into k = absurd (cc)
  call-there f h (plain.reach n) m name t object is into k = absurd (cc)
  call-there f h (plain.finish_static n) m name t object is into k = absurd (cc)
  call-there f h (plain.build n v p us) m name t object is into k = absurd (cc)
  call-there f h a m name t object is into k = absurd (cc)

  -- ---- literals

  texts-apart : Differ variable_name (flat_map linked_literals G)
  texts-apart =
      let apart = differ-parts (map (λ (f : Function). f.prototype.name) (CF fs xs low program A)) (map variable_name (vs fs xs low program A)) A.once in
      let all : Differ variable_name (vs fs xs low program A) = differ-named variable_name (vs fs xs low program A) apart.second in
      let parts : Differ variable_name (map linked_static (XS fs xs low) ++ flat_map linked_literals G ++ linked_starts (file_of fs xs)) = subst (Differ variable_name) A.variables all in
      differ-right variable_name (map linked_static (XS fs xs low)) (flat_map linked_literals G)
      (differ-left variable_name (map linked_static (XS fs xs low) ++ flat_map linked_literals G) (linked_starts (file_of fs xs)) parts)

  text-there : (g : PlainFunction) → In g G → (j : ℕ) (b : List ℕ) → In (plain.text j b) (all_actions g.body) → ActionThere P g.name (plain.text j b)
  text-there g h j b m =
      let found : plain_named G g.name ≡ Some g = named-itself G g (there-differ fs xs low program A) h in
      let own : Differ variable_name (literals g) =
      differ-unmapped variable_name shown_variable (literals g) (differ-flat linked_literals G g texts-apart h) in
      let first = text-first g.name g.is_shared g.is_local (all_actions g.body) j b own m in
      ap (λ o. is_text (text_at (names fs xs low program A (literal_name g.name j)) o) b) (ap (λ o. bytes_in o j) found ∙ first)
      ∙ bytes_same b b refl

  -- ---- all

  action-there : (g : PlainFunction) → In g G → Every (ActionThere P g.name) (all_actions g.body)
  action-there g h a m = go a m
    where
      one : (a : Action) → In a (all_actions g.body) → (name : Name) (t : SourceType) → a ≡ plain.function name t → IsThere name
      one a m name t k =
          let f = from-file fs xs low g h in
          let acts : In a (map (renamed_action q) (all_actions f.one.body)) =
          subst (In a) (all-actions-renamed q f.one.body) (subst (λ (g : PlainFunction). In a (all_actions g.body)) (sym f.is) m) in
          let x = mapped-from (renamed_action q) (all_actions f.one.body) a acts in
          function-there f.one f.there x.one x.there name t (x.is ∙ k)

      two : (a : Action) → In a (all_actions g.body) → (name : Name) (t : SourceType) (object : Option plain.Register) (is : List ℕ) (into : Option plain.Register)
          → a ≡ plain.call name t object is into → IsThere name
      two a m name t object is into k =
          let f = from-file fs xs low g h in
          let acts : In a (map (renamed_action q) (all_actions f.one.body)) =
          subst (In a) (all-actions-renamed q f.one.body) (subst (λ (g : PlainFunction). In a (all_actions g.body)) (sym f.is) m) in
          let x = mapped-from (renamed_action q) (all_actions f.one.body) a acts in
          call-there f.one f.there x.one x.there name t object is into (x.is ∙ k)

      go : (a : Action) → In a (all_actions g.body) → ActionThere P g.name a
      go (plain.text j b) m = text-there g h j b m
      go (plain.function name t) m = one (plain.function name t) m name t refl
      go (plain.call name t object is into) m = two (plain.call name t object is into) m name t object is into refl
      go a m = tt

  actions-there : (f : Name) (acts : List Action) → Every (ActionThere P f) acts → ActionsThere P f acts
  actions-there f [] h = tt
  actions-there f (a ∷ acts) h = (h a (inl refl), actions-there f acts (λ b k. h b (inr k)))

  all-pass : list_all (λ (f : PlainFunction). passes f) G ≡ true
  all-pass = subst (λ l. list_all (λ (f : PlainFunction). passes f) l ≡ true) (joined-only fs xs low) (files-pass (file_of fs xs ∷ []) (low, tt))

  names-there : AllNamesThere P
  names-there f k =
      let found = plain-found G f.name f k in
      record { passed = all-in (λ (f : PlainFunction). passes f) G all-pass f found.there; there = actions-there f.name (all_actions f.body) (action-there f found.there) }

  library-none : (n : Name) → calls.is_library n ≡ true → plain_named G n ≡ None
  library-none n h = go (plain_named G n) refl
    where
      go : (o : Option PlainFunction) → plain_named G n ≡ o → o ≡ None
      go None is = refl
      go (Some g) is = let found = plain-found G n g is in absurd (library-apart n h g.name (there-foreign fs xs low g found.there) found.named)

  library-typed : (n : Name) → calls.is_library n ≡ true → P.signature n ≡ type_of_function n None
  library-typed n h = ap (type_of_function n) (found-header G n ∙ ap (option_map header) (library-none n h))

  pub names-typed : NamesTyped P
  names-typed = record {
    library = λ name h. of-library (λ n. P.signature n ≡ library_type n) name h (library-typed (codes "putchar") refl) (library-typed (codes "getchar") refl)
        (library-typed (codes "exit") refl);
    functions = types-shaped G all-pass;
  }

  pub all-tested : AllTested P
  all-tested f found = named-tested P (fitting fs xs low program A) names-typed f (names-there f found)
