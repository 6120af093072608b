-- The literals of one linked file, those that initialisers name with those of functions: each has a block of its own, with its bytes.
use Rattle.std.proofs.Common.{◌≡◌, ℕ, ◌+◌, ◌*◌, ◌<◌, ◌≤◌, ◌^◌, nat_le, Bool, true, false, ◌&&◌, ◌||◌, not, ◌==◌, cond, List, [], ◌∷◌, ◌++◌, length, slice_get, map, refl, ap, sym, subst, ◌∙◌, ◌⊎◌, inl, inr, arith}
use Rattle.std.specs.Prelude.{Option, Some, None, bytes_eq, codes, find}
use Rattle.std.specs.List.{flat_map, list_any}
use Rattle.std.proofs.lemmas.Bool.{true≢false, eqb-true}
use Rattle.std.proofs.lemmas.Bool.Decides.{nat_tests}
use Rattle.std.proofs.lemmas.List.{map-append}
use Rattle.cf_base.proofs.Tests.{both, all_of, same_bytes, bytes_same}
use Rattle.cf_core.specs.Types.{Name}
use Rattle.cf_core.specs.Core.{Static}
use Rattle.cf_plain.specs.Plain as plain
use Rattle.cf_plain.specs.Plain.{Action, PlainFunction, PlainStatic}
use Rattle.cf_plain.specs.Joined.{renamed_action}
use Rattle.cf_plain.specs.Named.{all_actions}
use Rattle.cc_whole.specs.declared.types.CVariableType.TheVariants as variable
use Rattle.cc_whole.specs.declared.unit.CInitialiser.TheVariants as initialiser
use Rattle.cc_whole.specs.declared.unit.CProgram.{CProgram}
use Rattle.cc_whole.specs.declared.unit.CVariable.{CVariable}
use Rattle.cc_whole.specs.Known.{is_in}
use Rattle.cc_whole_link.specs.Placed.{longer}
use Rattle.cc_whole_link.specs.Rename.{Renaming}
use Rattle.cc_whole_memory.specs.Blocks.{Memory, no_memory}
use Rattle.cc_whole_mean.specs.declared.named.Named.TheVariants as meant
use Rattle.cc_whole_mean.specs.declared.named.Shape.TheVariants.{Array as array}
use Rattle.cc_whole_mean.specs.Types.{variable_shape}
use Rattle.cc_whole_mean.specs.Scope.{no_names, bind_variables}
use Rattle.cc_whole_mean.specs.Start.{laid_out}
use Rattle.cf_lower.specs.Functions.{but_last, literal_at, literals, owner_of, start_literals}
use Rattle.cf_lower.specs.Written.{int_constant, literal_name}
use Rattle.cf_lower_turns.specs.Texts.{Text, Texts, NewText, TextsLaid}
use Rattle.cf_lower_calls.specs.Returns.Called.{fixed}
use Rattle.cf_lower_program.specs.Names.{is_own_name}
use Rattle.cf_lower_program.specs.Starts.{is_text}
use Rattle.cf_lower_program.specs.Lowerable.{Lowerable}
use Rattle.cf_lower_settings.specs.Set.{LiteralThere}
use Rattle.cc_whole_sections.specs.Sections.{In}
use Rattle.cc_whole_sections.proofs.Names.{in-right}
use Rattle.cf_lower_valid.proofs.Inner.{mapped-in}
use Rattle.cf_lower_valid.proofs.Others.{mapped-from}
use Rattle.cf_lower_valid.proofs.Own.{in-flat}
use Rattle.cf_lower_valid.proofs.Once.{Differ, from-flat}
use Rattle.cf_lower_valid.proofs.Tests.{file_of, action-of-static, action-text}
use Rattle.cf_lower_valid.proofs.Naming.{literal-own}
use Rattle.cf_lower_alone.specs.Linked.{shown_variable, linked_variable, linked_static, linked_literals, linked_starts, LinkedAlone}
use Rattle.cf_lower_alone.specs.Programs.{variable_in}
use Rattle.cf_lower_alone.proofs.AloneLaws.After.{all-actions-renamed}
use Rattle.cf_lower_alone.proofs.AloneLaws.Statics.{any-there, one-named, cross-named, differ-right, texts-differ, static_names, object-foreign-name, locals}
use Rattle.cf_lower_alone.proofs.AloneLaws.Names.{in_C, in_plain, longer-literal}
use Rattle.cf_lower_alone.proofs.AloneLaws.Variables.{object_there}
use Rattle.cf_lower_alone.proofs.FittingLaws.Bound.{unbound-functions, bound-variables}
use Rattle.cf_lower_alone.proofs.FittingLaws.Outer.{literal-there}
use Rattle.cf_lower_alone.proofs.FittingLaws.Sides.{differ-unmapped, XS, from-file}
use Rattle.cf_lower_alone.proofs.FittingLaws.Fits.{slice-in, some-same, gs, all_names, names, the_literal, literal-no-function}
use Rattle.cf_lower_begun.specs.Begun.{static_map}
use Rattle.cf_lower_begun.proofs.Texts.{literal-begins}
use Rattle.cf_lower_begun.proofs.Variables.{laid-next}
use Rattle.cf_lower_begun.proofs.Begin.{static-at}
use Rattle.cf_lower_alone.proofs.StartLaws.Statics.{P, V, variables-differ, static-of, slice-short}
use Rattle.cf_lower_alone.proofs.StartLaws.Texts.{OfProgram, of-program, texts-new, texts-laid, laid, text-back}
use Rattle.cf_lower_alone.proofs.StartLaws.Owners.{key, owned, function-key, same-key}

-- ---- lists

record Found {A : Type 0} (p : A → Bool) (xs : List A) (x : A) : Type 0 where
  there : In x xs
  passes : p x ≡ true

find-in : {A : Type 0} (p : A → Bool) (xs : List A) (x : A) → find p xs ≡ Some x → Found p xs x
find-in p [] x e = absurd (cc)
find-in p (y ∷ xs) x e = go (p y) refl (λ k. find-in p xs x k) e
  where
    go : (b : Bool) → p y ≡ b → (find p xs ≡ Some x → Found p xs x) → cond b (Some y) (find p xs) ≡ Some x → Found p (y ∷ xs) x
    go true is again k = record { there = inl (some-same k); passes = ap p (sym (some-same k)) ∙ is }
    go false is again k = let r = again k in record { there = inr r.there; passes = r.passes }

find-none : {A : Type 0} (p : A → Bool) (xs : List A) (x : A) → find p xs ≡ None → In x xs → p x ≡ true → ⊥
find-none p [] x e h is = h
find-none p (y ∷ xs) x e h is = go (p y) refl (λ k l. find-none p xs x k l is) e h
  where
    none-some : Some y ≡ None → ⊥
    none-some k = absurd (cc)

    go : (b : Bool) → p y ≡ b → (find p xs ≡ None → In x xs → ⊥) → cond b (Some y) (find p xs) ≡ None → (y ≡ x) ⊎ In x xs → ⊥
    go true k again e h = none-some e
    go false k again e (inl same) = true≢false (sym is ∙ ap p (sym same) ∙ k)
    go false k again e (inr h) = again e h

flat-mapped : {A B D : Type 0} (f : B → D) (a : A → List B) (b : A → List D) → ((x : A) → map f (a x) ≡ b x) → (xs : List A) → map f (flat_map a xs) ≡ flat_map b xs
flat-mapped f a b h [] = refl
flat-mapped f a b h (x ∷ xs) = map-append f (a x) (flat_map a xs) ∙ ap (λ l. l ++ map f (flat_map a xs)) (h x) ∙ ap (λ l. b x ++ l) (flat-mapped f a b h xs)

-- a literal of an initialiser: by which name and number the source has it, its bytes, and its variable in the unit
pub record Entry : Type 0 where
  owner : Name
  number : ℕ
  bytes : List ℕ
  variable : CVariable

abbrev entry_variable : Entry → CVariable
entry_variable e = e.variable

abbrev start_variable : PlainStatic → ℕ → List ℕ → CVariable
start_variable x j b = record {
  is_shared = x.is_shared;
  is_static = x.is_local || not x.is_shared;
  ty = variable.Chars (int_constant (length b));
  name = literal_name (owner_of x) j;
  initialiser = Some (initialiser.Text (but_last b));
}

abbrev has_key : Name → ℕ → Entry → Bool
has_key f j e = bytes_eq e.owner f && (e.number == j)

abbrev either : Option Text → Option Text → Option Text
either None y = y
either (Some x) y = Some x

either-of : (o p : Option Text) (x : Text) → either o p ≡ Some x → (o ≡ Some x) ⊎ (p ≡ Some x)
either-of None p x e = inr e
either-of (Some y) p x e = inl e

-- ---- the program

module _ (fs : List PlainFunction) (xs : List PlainStatic) (low : Lowerable (file_of fs xs)) (program : CProgram) (A : LinkedAlone (file_of fs xs) program) where
  abbrev W : List CVariable
  W = V fs xs low program A

  abbrev N : CVariable → Name
  N v = v.name

  abbrev r : Renaming
  r = in_C fs xs low

  abbrev m : Memory
  m = laid_out (names fs xs low program A) W no_memory

  abbrev K : Option Name → Name
  K = key fs xs low program A

  abbrev the_entry : PlainStatic → ℕ → List ℕ → Entry
  the_entry x j b = record { owner = K x.owner; number = j; bytes = b; variable = start_variable x j b }

  abbrev entry_of : PlainStatic → Action → List Entry
  entry_of x (plain.text j b) = the_entry x j b ∷ []
  entry_of x a = []

  abbrev entries_of : PlainStatic → List Entry
  entries_of x = flat_map (entry_of x) (all_actions x.start)

  abbrev entries : List Entry
  entries = flat_map entries_of xs

  abbrev block_of : PlainStatic → ℕ → ℕ
  block_of x j = variable_in (names fs xs low program A (r (literal_name (owner_of x) j)))

  abbrev entry_text : Option Entry → Option Text
  entry_text None = None
  entry_text (Some e) = Some (record { block = variable_in (names fs xs low program A (r e.variable.name)); bytes = e.bytes })

  abbrev start_texts : Texts
  start_texts f j = entry_text (find (has_key f j) entries)

  -- of functions and of initialisers
  abbrev pub all_texts : Texts
  all_texts f j = either ((P fs xs low program A).texts f j) (start_texts f j)

  -- ---- entries are the literals of initialisers

  entry-variables : (x : PlainStatic) (a : Action) → map entry_variable (entry_of x a) ≡ literal_at (owner_of x) x.is_shared (x.is_local || not x.is_shared) a
  entry-variables x (plain.text j b) = refl
  entry-variables x a = refl

  are-literals : map entry_variable entries ≡ flat_map start_literals xs
  are-literals =
      flat-mapped entry_variable entries_of start_literals
      (λ x. flat-mapped entry_variable (entry_of x) (literal_at (owner_of x) x.is_shared (x.is_local || not x.is_shared)) (entry-variables x) (all_actions x.start)) xs

  starts-differ : Differ N (flat_map start_literals xs)
  starts-differ = differ-right N (flat_map literals fs) (flat_map start_literals xs) (texts-differ fs xs low)

  entries-differ : Differ (λ (e : Entry). e.variable.name) entries
  entries-differ = differ-unmapped N entry_variable entries (subst (Differ N) (sym are-literals) starts-differ)

  linked-differ : Differ (λ (e : Entry). r e.variable.name) entries
  linked-differ =
      differ-unmapped (λ (v : CVariable). r v.name) entry_variable entries
      (subst (Differ (λ (v : CVariable). r v.name)) (sym are-literals)
      (differ-unmapped N (linked_variable r) (flat_map start_literals xs)
      (differ-right N (map linked_static (XS fs xs low) ++ flat_map linked_literals (gs fs xs low program A)) (linked_starts (file_of fs xs))
      (subst (Differ N) A.variables (variables-differ fs xs low program A)))))

  abbrev Acts : PlainStatic → ℕ → List ℕ → Type 0
  Acts x j b = In (plain.text j b) (all_actions x.start)

  entry-in : (x : PlainStatic) (j : ℕ) (b : List ℕ) → In x xs → Acts x j b → In (the_entry x j b) entries
  entry-in x j b h k = in-flat entries_of x (the_entry x j b) xs h (in-flat (entry_of x) (plain.text j b) (the_entry x j b) (all_actions x.start) k (inl refl))

  variable-in : (x : PlainStatic) (j : ℕ) (b : List ℕ) → In x xs → Acts x j b → In (start_variable x j b) (flat_map start_literals xs)
  variable-in x j b h k = subst (In (start_variable x j b)) are-literals (mapped-in entry_variable (the_entry x j b) entries (entry-in x j b h k))

  record EntryOf (e : Entry) : Type 0 where
    one : PlainStatic
    there : In one xs
    number : ℕ
    bytes : List ℕ
    acts : Acts one number bytes
    is : e ≡ the_entry one number bytes

  entry-from : (e : Entry) → In e entries → EntryOf e
  entry-from e h =
      let x = from-flat entries_of xs e h in
      let a = from-flat (entry_of x.one) (all_actions x.one.start) e x.gives in
      go x.one x.there a.one a.there a.gives
    where
      go : (x : PlainStatic) → In x xs → (a : Action) → In a (all_actions x.start) → In e (entry_of x a) → EntryOf e
      go x h (plain.text j b) k (inl is) = record { one = x; there = h; number = j; bytes = b; acts = k; is = sym is }
      go x h (plain.text j b) k (inr l) = absurd l
      go x h a k l = absurd l

  -- ---- a literal of an initialiser by its name and number

  record OfStart (f : Name) (j : ℕ) (x : Text) : Type 0 where
    one : PlainStatic
    there : In one xs
    owner : K one.owner ≡ f
    acts : Acts one j x.bytes
    block : x.block ≡ block_of one j

  entry-number : (f : Name) (j : ℕ) (e : Entry) → has_key f j e ≡ true → (e.owner ≡ f) × (e.number ≡ j)
  entry-number f j e k = let two = both (bytes_eq e.owner f) (e.number == j) k in (same_bytes e.owner f two.0, eqb-true e.number j two.1)

  of-entry : (s : PlainStatic) (j : ℕ) (b : List ℕ) → In s xs → Acts s j b → (x : Text) → entry_text (Some (the_entry s j b)) ≡ Some x → OfStart (K s.owner) j x
  of-entry s j b h k x e = subst (OfStart (K s.owner) j) (some-same e) (record { one = s; there = h; owner = refl; acts = k; block = refl })

  of-start : (f : Name) (j : ℕ) (x : Text) → start_texts f j ≡ Some x → OfStart f j x
  of-start f j x e = go (find (has_key f j) entries) refl e
    where
      go : (o : Option Entry) → find (has_key f j) entries ≡ o → entry_text o ≡ Some x → OfStart f j x
      go None is k = absurd (cc)
      go (Some y) is k =
          let found = find-in (has_key f j) entries y is in
          let s = entry-from y found.there in
          let two = entry-number f j y found.passes in
          subst (λ f. OfStart f j x) (sym (ap (λ (e : Entry). e.owner) s.is) ∙ two.0)
          (subst (λ j. OfStart (K s.one.owner) j x) (sym (ap (λ (e : Entry). e.number) s.is) ∙ two.1)
          (of-entry s.one s.number s.bytes s.there s.acts x (ap (λ e. entry_text (Some e)) (sym s.is) ∙ k)))

  -- ---- its variable

  abbrev linked_start : PlainStatic → ℕ → List ℕ → CVariable
  linked_start x j b = linked_variable r (start_variable x j b)

  -- its name in the program is a literal's too
  record LiteralName (n : Name) : Type 0 where
    owner : Name
    number : ℕ
    is : n ≡ literal_name owner number

  goes-literal : (f : Name) (j : ℕ) → LiteralName (r (literal_name f j))
  goes-literal f j = go (is_in (static_names fs xs low) (literal_name f j))
    where
      go : (b : Bool) → LiteralName (cond b (longer 1 (literal_name f j)) (literal_name f j))
      go true = record { owner = _; number = j; is = longer-literal f j }
      go false = record { owner = f; number = j; is = refl }

  linked-in : (x : PlainStatic) (j : ℕ) (b : List ℕ) → In x xs → Acts x j b → In (linked_start x j b) (linked_starts (file_of fs xs))
  linked-in x j b h k = mapped-in (linked_variable r) (start_variable x j b) (flat_map start_literals xs) (variable-in x j b h k)

  there-in : (x : PlainStatic) (j : ℕ) (b : List ℕ) → In x xs → Acts x j b → In (linked_start x j b) W
  there-in x j b h k =
      subst (In (linked_start x j b)) (sym A.variables)
      (in-right (linked_start x j b) (map linked_static (XS fs xs low) ++ flat_map linked_literals (gs fs xs low program A)) (linked_starts (file_of fs xs)) (linked-in x j b h k))

  record StartStands (x : PlainStatic) (j : ℕ) (b : List ℕ) : Type 0 where
    at : slice_get W (block_of x j) ≡ Some (linked_start x j b)
    named : names fs xs low program A (r (literal_name (owner_of x) j)) ≡ Some (meant.Variable (block_of x j) array)

  start-stands : (x : PlainStatic) (j : ℕ) (b : List ℕ) → In x xs → Acts x j b → StartStands x j b
  start-stands x j b h k =
      let v : CVariable = linked_start x j b in
      let n : Name = r (literal_name (owner_of x) j) in
      let l = goes-literal (owner_of x) j in
      let y = bound-variables W 0 no_names n (any-there (λ (v : CVariable). bytes_eq n v.name) W v (there-in x j b h k) (bytes_same n n refl)) in
      let one : y.one ≡ v = one-named N W y.one v (variables-differ fs xs low program A) (slice-in W y.place y.one y.at) (there-in x j b h k) (bytes_same y.one.name n y.named) in
      let place : 0 + y.place ≡ y.place = omega arith in
      let is : names fs xs low program A n ≡ Some (meant.Variable y.place array) =
      unbound-functions (all_names fs xs low program A) 1 (bind_variables W 0 no_names) n
      (subst (λ n. list_any (bytes_eq n) (all_names fs xs low program A) ≡ false) (sym l.is) (literal-no-function fs xs low program A l.owner l.number)) ∙ y.is
      ∙ ap (λ (b : ℕ). Some (meant.Variable b (variable_shape y.one.ty))) place ∙ ap (λ (v : CVariable). Some (meant.Variable y.place (variable_shape v.ty))) one in
      let block : block_of x j ≡ y.place = ap variable_in is in
      record {
        at = ap (slice_get W) block ∙ y.at ∙ ap (λ v. Some v) one;
        named = is ∙ ap (λ (b : ℕ). Some (meant.Variable b array)) (sym block);
      }

  at-block : (f : Name) (j : ℕ) (x : Text) (o : OfStart f j x) → slice_get W x.block ≡ Some (linked_start o.one j x.bytes)
  at-block f j x o = ap (slice_get W) o.block ∙ (start-stands o.one j x.bytes o.there o.acts).at

  fits-text : (x : PlainStatic) (j : ℕ) (b : List ℕ) → In x xs → Acts x j b → (is_text b ≡ true) × (length b ≤ 2 ^ 22)
  fits-text x j b h k =
      let fit = both (is_text b) (nat_le (length b) (2 ^ 22)) (action-text fs xs low (plain.text j b) (action-of-static fs xs low x (plain.text j b) h k)) in
      let le = fit.1 in
      (fit.0, grind (arith, nat_tests, le))

  -- no object stands there
  apart-objects : (f : Name) (j : ℕ) (x : Text) → OfStart f j x → (o : ℕ) (s : Static) → slice_get (P fs xs low program A).program.statics o ≡ Some s → o ≡ x.block → ⊥
  apart-objects f j x t o s e same =
      let z = static-of fs xs low program A o s e in
      let l = goes-literal (owner_of t.one) j in
      let is : linked_start t.one j x.bytes ≡ linked_static (object_there fs xs low z.one) = some-same (sym (at-block f j x t) ∙ ap (slice_get W) (sym same) ∙ z.variable) in
      true≢false (sym (literal-own l.owner l.number) ∙ ap (is_own_name (codes "__s")) (sym l.is) ∙ ap (λ (v : CVariable). is_own_name (codes "__s") v.name) is
      ∙ literal-there (list_any (bytes_eq z.one.name) (locals fs xs low)) z.one.name (object-foreign-name fs xs low z.one z.there).no_literal)

  start-new : (f : Name) (j : ℕ) (x : Text) → OfStart f j x → NewText (fixed (P fs xs low program A)) (static_map (P fs xs low program A).program) m x
  start-new f j x t =
      let h = literal-begins (fixed (P fs xs low program A)) (static_map (P fs xs low program A).program) W (names fs xs low program A) x.block
      (linked_start t.one j x.bytes) x.bytes (at-block f j x t)
      (record { ends = (fits-text t.one j x.bytes t.there t.acts).0; start = refl; room = let l : length x.bytes ≤ length x.bytes = omega arith in l }) in
      let room = h.room in
      record {
        free = λ o lt live e.
            let s = static-at (P fs xs low program A).program.statics o lt in
            apart-objects f j x t o s.one s.at e;
        block = h.block;
        there = h.is;
        size = let l : length x.bytes * 1 ≤ h.block.size = omega (arith, room) in l;
        cells = h.cells;
      }

  -- ---- all are apart

  one-start : (f g : Name) (i j : ℕ) (x y : Text) → OfStart f i x → OfStart g j y → x.block ≡ y.block → (f ≡ g) × (i ≡ j)
  one-start f g i j x y s t e =
      let same : linked_start s.one i x.bytes ≡ linked_start t.one j y.bytes = some-same (sym (at-block f i x s) ∙ ap (slice_get W) e ∙ at-block g j y t) in
      let a : Entry = the_entry s.one i x.bytes in
      let b : Entry = the_entry t.one j y.bytes in
      let one : a ≡ b = one-named (λ (e : Entry). r e.variable.name) entries a b linked-differ (entry-in s.one i x.bytes s.there s.acts) (entry-in t.one j y.bytes t.there t.acts)
      (bytes_same (r a.variable.name) (r b.variable.name) (ap N same)) in
      (sym s.owner ∙ ap (λ (e : Entry). e.owner) one ∙ t.owner, ap (λ (e : Entry). e.number) one)

  function-apart : (f g : Name) (i j : ℕ) (x y : Text) → OfProgram fs xs low program A f i x → OfStart g j y → x.block ≡ y.block → ⊥
  function-apart f g i j x y s t e =
      let v : CVariable = shown_variable (the_literal fs xs low program A s.one i x.bytes) in
      let w : CVariable = linked_start t.one j y.bytes in
      let same : v ≡ w = some-same (sym s.variable ∙ ap (slice_get W) e ∙ at-block g j y t) in
      let L : List CVariable = map linked_static (XS fs xs low) ++ flat_map linked_literals (gs fs xs low program A) in
      let there : In v L = in-right v (map linked_static (XS fs xs low)) (flat_map linked_literals (gs fs xs low program A))
      (in-flat linked_literals s.one v (gs fs xs low program A) s.there
      (mapped-in shown_variable (the_literal fs xs low program A s.one i x.bytes) (literals s.one)
      (in-flat (literal_at s.one.name s.one.is_shared s.one.is_local) (plain.text i x.bytes) (the_literal fs xs low program A s.one i x.bytes) (all_actions s.one.body) s.acts (inl refl)))) in
      true≢false (sym (bytes_same v.name w.name (ap N same))
      ∙ cross-named N L (linked_starts (file_of fs xs)) v w (subst (Differ N) A.variables (variables-differ fs xs low program A)) there (linked-in t.one j y.bytes t.there t.acts))

  module _ (f : Name) (j : ℕ) (x : Text) (e : all_texts f j ≡ Some x) where
    by-kind : (Q : Type 0) → ((P fs xs low program A).texts f j ≡ Some x → Q) → (OfStart f j x → Q) → Q
    by-kind Q g h = go (either-of ((P fs xs low program A).texts f j) (start_texts f j) x e)
      where
        go : ((P fs xs low program A).texts f j ≡ Some x) ⊎ (start_texts f j ≡ Some x) → Q
        go (inl k) = g k
        go (inr k) = h (of-start f j x k)

    pub all-new : NewText (fixed (P fs xs low program A)) (static_map (P fs xs low program A).program) m x
    all-new = by-kind (NewText (fixed (P fs xs low program A)) (static_map (P fs xs low program A).program) m x) (λ k. texts-new fs xs low program A f j x k) (λ o. start-new f j x o)

  pub all-laid : TextsLaid (fixed (P fs xs low program A)) all_texts m.next
  all-laid =
      let T = texts-laid fs xs low program A in
      record {
        below = λ f j x e.
            by-kind f j x e (x.block < m.next) (λ k. T.below f j x k)
            (λ o.
            let short = slice-short W x.block _ (at-block f j x o) in
            let next = laid-next (names fs xs low program A) W no_memory in
            omega (arith, short, next));
        laid = λ f j x e.
            by-kind f j x e _ (λ k. T.laid f j x k)
            (λ o. let fit = fits-text o.one j x.bytes o.there o.acts in laid fs xs low program A x fit.0 fit.1);
        apart = λ f g i j x y e h same.
            by-kind f i x e ((f ≡ g) × (i ≡ j))
            (λ k. by-kind g j y h ((f ≡ g) × (i ≡ j)) (λ l. T.apart f g i j x y k l same)
            (λ t. absurd (function-apart f g i j x y (of-program fs xs low program A f i x k) t same)))
            (λ s. by-kind g j y h ((f ≡ g) × (i ≡ j)) (λ l. absurd (function-apart g f j i y x (of-program fs xs low program A g j y l) s (sym same)))
            (λ t. one-start f g i j x y s t same));
      }

  -- those of functions are among them
  pub function-texts : (f : Name) (j : ℕ) (x : Text) → (P fs xs low program A).texts f j ≡ Some x → all_texts f j ≡ Some x
  function-texts f j x e = ap (λ o. either o (start_texts f j)) e

  -- ---- what an initialiser names is there

  module _ (x : PlainStatic) (h : In x xs) (j : ℕ) (b : List ℕ) (k : Acts x j b) where
    abbrev the : Entry
    the = the_entry x j b

    -- no function has a literal of this name and number
    no-function : (y : Text) → (P fs xs low program A).texts (K x.owner) j ≡ Some y → ⊥
    no-function y e =
        let s = of-program fs xs low program A (K x.owner) j y e in
        let f = from-file fs xs low s.one s.there in
        let q : Name → Name = in_plain fs xs low in
        let acts : In (plain.text j y.bytes) (map (renamed_action q) (all_actions f.one.body)) =
        subst (In (plain.text j y.bytes)) (ap (λ (g : PlainFunction). all_actions g.body) (sym f.is) ∙ all-actions-renamed q f.one.body) s.acts in
        let a = mapped-from (renamed_action q) (all_actions f.one.body) (plain.text j y.bytes) acts in
        let own : In (plain.text j y.bytes) (all_actions f.one.body) = subst (λ a. In a (all_actions f.one.body)) (text-back q j y.bytes a.one a.is) a.there in
        let names : owner_of x ≡ f.one.name =
        function-key fs xs low program A x.owner (owned fs xs low program A x h) f.one f.there (sym s.named ∙ ap (λ (g : PlainFunction). g.name) (sym f.is)) in
        let v : CVariable = record (the_literal fs xs low program A f.one j y.bytes) { is_static = f.one.is_local } in
        let there : In v (flat_map literals fs) =
        in-flat literals f.one v fs f.there (in-flat (literal_at f.one.name f.one.is_shared f.one.is_local) (plain.text j y.bytes) v (all_actions f.one.body) own (inl refl)) in
        true≢false (sym (bytes_same v.name (literal_name (owner_of x) j) (ap (λ n. literal_name n j) (sym names)))
        ∙ cross-named N (flat_map literals fs) (flat_map start_literals xs) v (start_variable x j b) (texts-differ fs xs low) there (variable-in x j b h k))

    the-key : has_key (K x.owner) j the ≡ true
    the-key = all_of (bytes_eq (K x.owner) (K x.owner)) (j == j) (bytes_same (K x.owner) (K x.owner) refl) (let e : j ≡ j = refl in grind (arith, nat_tests, e))

    the-found : find (has_key (K x.owner) j) entries ≡ Some the
    the-found = go (find (has_key (K x.owner) j) entries) refl
      where
        go : (o : Option Entry) → find (has_key (K x.owner) j) entries ≡ o → o ≡ Some the
        go None is = absurd (find-none (has_key (K x.owner) j) entries the is (entry-in x j b h k) the-key)
        go (Some y) is =
            let found = find-in (has_key (K x.owner) j) entries y is in
            let s = entry-from y found.there in
            let two = entry-number (K x.owner) j y found.passes in
            let keys : K s.one.owner ≡ K x.owner = sym (ap (λ (e : Entry). e.owner) s.is) ∙ two.0 in
            let number : s.number ≡ j = sym (ap (λ (e : Entry). e.number) s.is) ∙ two.1 in
            let owners : owner_of s.one ≡ owner_of x =
            same-key fs xs low program A s.one.owner x.owner (owned fs xs low program A s.one s.there) (owned fs xs low program A x h) keys in
            let named : y.variable.name ≡ the.variable.name = ap (λ (e : Entry). e.variable.name) s.is ∙ ap (λ n. literal_name n s.number) owners ∙ ap (literal_name (owner_of x)) number in
            ap (λ e. Some e) (one-named (λ (e : Entry). e.variable.name) entries y the entries-differ found.there (entry-in x j b h k) (bytes_same y.variable.name the.variable.name named))

    the-text : all_texts (K x.owner) j ≡ Some (record { block = block_of x j; bytes = b })
    the-text = go ((P fs xs low program A).texts (K x.owner) j) refl
      where
        go : (o : Option Text) → (P fs xs low program A).texts (K x.owner) j ≡ o → either o (start_texts (K x.owner) j) ≡ Some (record { block = block_of x j; bytes = b })
        go None is = ap entry_text the-found
        go (Some y) is = absurd (no-function y is)

    pub literal-there-of : LiteralThere all_texts (names fs xs low program A) r (owner_of x) (K x.owner) j b
    literal-there-of = record {
      text = record { block = block_of x j; bytes = b };
      is = the-text;
      bytes = refl;
      shape = array;
      named = (start-stands x j b h k).named;
    }
