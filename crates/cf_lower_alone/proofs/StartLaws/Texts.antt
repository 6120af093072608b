-- The literals of one linked file stand in the variables of their names.
use Rattle.std.proofs.Common.{◌≡◌, ℕ, suc, ◌*◌, ◌≤◌, ◌<◌, ◌^◌, nat_lt, nat_le, true, ◌&&◌, List, [], ◌∷◌, ◌++◌, length, slice_get, map, refl, ap, sym, subst, ◌∙◌, inl, arith}
use Rattle.std.specs.Prelude.{Some, bytes_eq, codes}
use Rattle.std.specs.List.{flat_map, list_any}
use Rattle.std.proofs.lemmas.Bool.{true≢false}
use Rattle.std.proofs.lemmas.Bool.Decides.{nat_tests}
use Rattle.std.proofs.lemmas.List.{map-append}
use Rattle.cf_base.proofs.Tests.{both, bytes_same}
use Rattle.cf_core.specs.Types.{Name}
use Rattle.cf_core.specs.Core.{Static}
use Rattle.cf_lower_layout.specs.Layout.{LaidOut}
use Rattle.cf_plain.specs.Plain as plain
use Rattle.cf_plain.specs.Plain.{Action, PlainFunction, PlainStatic}
use Rattle.cf_plain.specs.Joined.{renamed_action}
use Rattle.cf_plain.specs.Named.{all_actions}
use Rattle.cc_whole.specs.declared.unit.CProgram.{CProgram}
use Rattle.cc_whole.specs.declared.unit.CVariable.{CVariable}
use Rattle.cc_whole_memory.specs.Blocks.{Memory, no_memory}
use Rattle.cc_whole_mean.specs.Start.{laid_out}
use Rattle.cf_lower.specs.Functions.{literal_at}
use Rattle.cf_lower_turns.specs.Texts.{Text, text_type, NewText, TextsLaid}
use Rattle.cf_lower_calls.specs.Returns.Called.{fixed}
use Rattle.cf_lower_program.specs.Names.{is_own_name}
use Rattle.cf_lower_program.specs.Starts.{is_text, text_fits}
use Rattle.cf_lower_program.specs.Lowerable.{Lowerable}
use Rattle.cc_whole_sections.specs.Sections.{In}
use Rattle.cf_lower_valid.proofs.Others.{mapped-from}
use Rattle.cf_lower_valid.proofs.Own.{in-flat}
use Rattle.cf_lower_valid.proofs.Once.{Differ}
use Rattle.cf_lower_valid.proofs.Tests.{file_of, action-of-function, action-text}
use Rattle.cf_lower_valid.proofs.Naming.{literal-own}
use Rattle.cf_lower.specs.Written.{literal_name}
use Rattle.cf_lower_alone.specs.Linked.{shown_variable, linked_static, linked_literals, linked_starts, LinkedAlone}
use Rattle.cf_lower_alone.proofs.AloneLaws.After.{all-actions-renamed}
use Rattle.cf_lower_alone.proofs.AloneLaws.Statics.{one-named, differ-left, differ-right, object-foreign-name, locals}
use Rattle.cf_lower_alone.proofs.AloneLaws.Names.{in_plain}
use Rattle.cf_lower_alone.proofs.AloneLaws.Variables.{object_there}
use Rattle.cf_lower_alone.proofs.FittingLaws.Outer.{literal-there}
use Rattle.cf_lower_alone.proofs.FittingLaws.Sides.{differ-unmapped, XS, from-file}
use Rattle.cf_lower_alone.proofs.FittingLaws.Fits.{slice-in, some-same, gs, names, the_literal, literal-in, text-there, literal-stands}
use Rattle.cf_lower_begun.specs.Begun.{static_map}
use Rattle.cf_lower_begun.proofs.Texts.{literal-begins}
use Rattle.cf_lower_begun.proofs.Variables.{laid-next}
use Rattle.cf_lower_begun.proofs.Begin.{static-at}
use Rattle.cf_lower_alone.proofs.StartLaws.Statics.{P, V, variables-differ, static-of, slice-short}

-- ---- actions by other names

pub text-back : (q : Name → Name) (j : ℕ) (b : List ℕ) (a : Action) → renamed_action q a ≡ plain.text j b → a ≡ plain.text j b
text-back q j b (plain.static_object n t) e = absurd (cc)
text-back q j b (plain.function n t) e = absurd (cc)
text-back q j b (plain.function_pointer t) e = absurd (cc)
text-back q j b (plain.is_reached n) e = absurd (cc)
text-back q j b (plain.reach n) e = absurd (cc)
text-back q j b (plain.finish_static n) e = absurd (cc)
text-back q j b (plain.call n t on is into) e = absurd (cc)
text-back q j b (plain.build n t p is) e = absurd (cc)
text-back q j b a e = e

-- ---- literals with what they are of

record Key : Type 0 where
  owner : Name
  number : ℕ
  variable : CVariable

abbrev variable_of : ℕ → Name → CVariable → Key
variable_of j f v = record { owner = f; number = j; variable = shown_variable v }

abbrev keyed : PlainFunction → Action → List Key
keyed g (plain.text j b) = map (variable_of j g.name) (literal_at g.name g.is_shared g.is_local (plain.text j b))
keyed g a = []

abbrev keys : PlainFunction → List Key
keys g = flat_map (keyed g) (all_actions g.body)

abbrev key_variable : Key → CVariable
key_variable k = k.variable

keyed-same : (g : PlainFunction) (a : Action) → map key_variable (keyed g a) ≡ map shown_variable (literal_at g.name g.is_shared g.is_local a)
keyed-same g (plain.text j b) = refl
keyed-same g a = refl

flat-same : {A B C D : Type 0} (f : B → D) (g : C → D) (a : A → List B) (b : A → List C) → ((x : A) → map f (a x) ≡ map g (b x)) → (xs : List A)
    → map f (flat_map a xs) ≡ map g (flat_map b xs)
flat-same f g a b h [] = refl
flat-same f g a b h (x ∷ xs) =
    map-append f (a x) (flat_map a xs) ∙ ap (λ l. l ++ map f (flat_map a xs)) (h x) ∙ ap (λ l. map g (b x) ++ l) (flat-same f g a b h xs)
    ∙ sym (map-append g (b x) (flat_map b xs))

keys-same : (gs : List PlainFunction) → map key_variable (flat_map keys gs) ≡ flat_map linked_literals gs
keys-same [] = refl
keys-same (g ∷ gs) =
    map-append key_variable (keys g) (flat_map keys gs)
    ∙ ap (λ l. l ++ map key_variable (flat_map keys gs)) (flat-same key_variable shown_variable (keyed g) (literal_at g.name g.is_shared g.is_local) (keyed-same g) (all_actions g.body))
    ∙ ap (λ l. linked_literals g ++ l) (keys-same gs)

-- ---- the program

module _ (fs : List PlainFunction) (xs : List PlainStatic) (low : Lowerable (file_of fs xs)) (program : CProgram)
    (A : LinkedAlone (file_of fs xs) program) where
  abbrev G : List PlainFunction
  G = gs fs xs low program A

  abbrev W : List CVariable
  W = V fs xs low program A

  abbrev N : CVariable → Name
  N v = v.name

  abbrev m : Memory
  m = laid_out (names fs xs low program A) W no_memory

  -- names of literals differ
  literals-differ : Differ N (flat_map linked_literals G)
  literals-differ =
      differ-right N (map linked_static (XS fs xs low)) (flat_map linked_literals G)
      (differ-left N (map linked_static (XS fs xs low) ++ flat_map linked_literals G) (linked_starts (file_of fs xs))
      (subst (Differ N) A.variables (variables-differ fs xs low program A)))

  keys-differ : Differ (λ (k : Key). k.variable.name) (flat_map keys G)
  keys-differ = differ-unmapped N key_variable (flat_map keys G) (subst (Differ N) (sym (keys-same G)) literals-differ)

  -- ---- one literal

  pub record OfProgram (f : Name) (j : ℕ) (x : Text) : Type 0 where
    pub one : PlainFunction
    pub there : In one G
    pub named : one.name ≡ f
    pub acts : In (plain.text j x.bytes) (all_actions one.body)
    pub variable : slice_get W x.block ≡ Some (shown_variable (the_literal fs xs low program A one j x.bytes))
    pub text : is_text x.bytes ≡ true
    pub short : length x.bytes ≤ 2 ^ 22

  text-tested : (g : PlainFunction) (j : ℕ) (b : List ℕ) → In g G → In (plain.text j b) (all_actions g.body) → text_fits (plain.text j b) ≡ true
  text-tested g j b h k =
      let f = from-file fs xs low g h in
      let q : Name → Name = in_plain fs xs low in
      let there : In (plain.text j b) (map (renamed_action q) (all_actions f.one.body)) =
      subst (In (plain.text j b)) (ap (λ (g : PlainFunction). all_actions g.body) (sym f.is) ∙ all-actions-renamed q f.one.body) k in
      let a = mapped-from (renamed_action q) (all_actions f.one.body) (plain.text j b) there in
      action-text fs xs low (plain.text j b)
      (action-of-function fs xs low f.one (plain.text j b) f.there (subst (λ a. In a (all_actions f.one.body)) (text-back q j b a.one a.is) a.there))

  pub of-program : (f : Name) (j : ℕ) (x : Text) → (P fs xs low program A).texts f j ≡ Some x → OfProgram f j x
  of-program f j x e =
      let s = literal-stands fs xs low program A f j x e in
      let t = text-there G (names fs xs low program A (literal_name f j)) f j x e in
      let bytes : t.bytes ≡ x.bytes = sym (ap (λ (t : Text). t.bytes) t.is) in
      let k : In (plain.text j x.bytes) (all_actions t.one.body) = subst (λ b. In (plain.text j b) (all_actions t.one.body)) bytes t.stands in
      let v : CVariable = shown_variable (the_literal fs xs low program A t.one j x.bytes) in
      let named : s.one.name ≡ v.name = s.named ∙ ap (λ n. literal_name n j) (sym t.named) in
      let same : s.one ≡ v = one-named N W s.one v (variables-differ fs xs low program A) (slice-in W x.block s.one s.at)
      (literal-in fs xs low program A t.one j x.bytes t.there k) (bytes_same s.one.name v.name named) in
      let fit = both (is_text x.bytes) (nat_le (length x.bytes) (2 ^ 22)) (text-tested t.one j x.bytes t.there k) in
      let le = fit.1 in
      record {
        one = t.one;
        there = t.there;
        named = t.named;
        acts = k;
        variable = s.at ∙ ap (λ v. Some v) same;
        text = fit.0;
        short = grind (arith, nat_tests, le);
      }

  -- no object stands in the variable of a literal
  apart-objects : (f : Name) (j : ℕ) (x : Text) → OfProgram f j x → (o : ℕ) (s : Static) → slice_get (P fs xs low program A).program.statics o ≡ Some s → o ≡ x.block → ⊥
  apart-objects f j x t o s e same =
      let z = static-of fs xs low program A o s e in
      let v : CVariable = linked_static (object_there fs xs low z.one) in
      let w : CVariable = shown_variable (the_literal fs xs low program A t.one j x.bytes) in
      let is : w ≡ v = some-same (sym t.variable ∙ ap (slice_get W) (sym same) ∙ z.variable) in
      true≢false (sym (literal-own t.one.name j) ∙ ap (λ (v : CVariable). is_own_name (codes "__s") v.name) is
      ∙ literal-there (list_any (bytes_eq z.one.name) (locals fs xs low)) z.one.name (object-foreign-name fs xs low z.one z.there).no_literal)

  pub texts-new : (f : Name) (j : ℕ) (x : Text) → (P fs xs low program A).texts f j ≡ Some x
      → NewText (fixed (P fs xs low program A)) (static_map (P fs xs low program A).program) m x
  texts-new f j x e =
      let t = of-program f j x e in
      let h = literal-begins (fixed (P fs xs low program A)) (static_map (P fs xs low program A).program) W (names fs xs low program A) x.block
      (shown_variable (the_literal fs xs low program A t.one j x.bytes)) x.bytes t.variable
      (record { ends = t.text; start = refl; room = let l : length x.bytes ≤ length x.bytes = omega arith in l }) in
      let room = h.room in
      record {
        free = λ o lt live at.
            let s = static-at (P fs xs low program A).program.statics o lt in
            apart-objects f j x t o s.one s.at at;
        block = h.block;
        there = h.is;
        size = let l : length x.bytes * 1 ≤ h.block.size = omega (arith, room) in l;
        cells = h.cells;
      }

  -- ---- all literals

  text-some : (b : List ℕ) → is_text b ≡ true → nat_lt 0 (length b) ≡ true
  text-some [] e = absurd (true≢false (sym e))
  text-some (x ∷ b) e = let l : 0 < suc (length b) = omega arith in grind (arith, nat_tests, l)

  pub laid : (x : Text) → is_text x.bytes ≡ true → length x.bytes ≤ 2 ^ 22 → LaidOut [] (text_type x)
  laid x e le = record {
    small = let l : length x.bytes * 1 ≤ 2 ^ 22 = omega (arith, le) in l;
    some = ap (λ b. b && true) (text-some x.bytes e);
    once = refl;
  }

  key-in : (g : PlainFunction) (j : ℕ) (b : List ℕ) → In g G → In (plain.text j b) (all_actions g.body)
      → In (record { owner = g.name; number = j; variable = shown_variable (the_literal fs xs low program A g j b) }) (flat_map keys G)
  key-in g j b h k =
      let key : Key = record { owner = g.name; number = j; variable = shown_variable (the_literal fs xs low program A g j b) } in
      in-flat keys g key G h (in-flat (keyed g) (plain.text j b) key (all_actions g.body) k (inl refl))

  one-block : (f g : Name) (i j : ℕ) (x y : Text) → OfProgram f i x → OfProgram g j y → x.block ≡ y.block → (f ≡ g) × (i ≡ j)
  one-block f g i j x y s t e =
      let v : CVariable = shown_variable (the_literal fs xs low program A s.one i x.bytes) in
      let w : CVariable = shown_variable (the_literal fs xs low program A t.one j y.bytes) in
      let same : v ≡ w = some-same (sym s.variable ∙ ap (slice_get W) e ∙ t.variable) in
      let a : Key = record { owner = s.one.name; number = i; variable = v } in
      let b : Key = record { owner = t.one.name; number = j; variable = w } in
      let keys-one : a ≡ b = one-named (λ (k : Key). k.variable.name) (flat_map keys G) a b keys-differ (key-in s.one i x.bytes s.there s.acts)
      (key-in t.one j y.bytes t.there t.acts) (bytes_same v.name w.name (ap N same)) in
      (sym s.named ∙ ap (λ (k : Key). k.owner) keys-one ∙ t.named, ap (λ (k : Key). k.number) keys-one)

  pub texts-laid : TextsLaid (fixed (P fs xs low program A)) (P fs xs low program A).texts m.next
  texts-laid = record {
    below = λ f j x e.
        let t = of-program f j x e in
        let short = slice-short W x.block _ t.variable in
        let next = laid-next (names fs xs low program A) W no_memory in
        omega (arith, short, next);
    laid = λ f j x e. let t = of-program f j x e in laid x t.text t.short;
    apart = λ f g i j x y e h same. one-block f g i j x y (of-program f i x e) (of-program g j y h) same;
  }
