-- The variables of a lowered file by their names in the program.
use Rattle.std.proofs.Common.{◌≡◌, Bool, false, not, ◌||◌, List, [], ◌∷◌, ◌++◌, length, map, refl, ap, sym, ◌∙◌, inl, inr}
use Rattle.std.specs.Prelude.{Some, None, option_map}
use Rattle.std.specs.List.{flat_map}
use Rattle.std.proofs.lemmas.List.{map-append}
use Rattle.cf_core.specs.Types.{Name}
use Rattle.cf_plain.specs.Plain as plain
use Rattle.cf_plain.specs.Plain.{Action, PlainFunction, PlainStatic, PlainFile}
use Rattle.cf_plain.specs.Joined.{renamed_action, renamed_all}
use Rattle.cf_plain.specs.Named.{all_actions}
use Rattle.cc_whole.specs.declared.types.CVariableType.TheVariants as variable
use Rattle.cc_whole.specs.declared.unit.CInitialiser.TheVariants as initialiser
use Rattle.cc_whole.specs.declared.unit.CVariable.{CVariable}
use Rattle.cc_whole_link.specs.Rename.{Renaming, variable_renamed}
use Rattle.cf_lower.specs.Written.{int_constant}
use Rattle.cf_lower.specs.Functions.{but_last, literal_at, literals, lowered_static, owner_of, start_literals}
use Rattle.cf_lower_program.specs.Lowerable.{Lowerable}
use Rattle.cc_whole_sections.specs.Sections.{In, Every}
use Rattle.cf_lower_valid.proofs.Once.{from-flat}
use Rattle.cf_lower_valid.proofs.Tests.{file_of}
use Rattle.cf_lower_alone.specs.Linked.{named_file, shown_variable, linked_static, linked_literals, linked_variable, linked_starts}
use Rattle.cf_lower_alone.proofs.AloneLaws.After.{all-actions-renamed}
use Rattle.cf_lower_alone.proofs.AloneLaws.Statics.{object-foreign-name}
use Rattle.cf_lower_alone.proofs.AloneLaws.Names.{in_C, in_plain, foreign-plain, plain-goes, literal-goes}
use Rattle.cf_lower_alone.proofs.AloneLaws.Functions.{there}

-- ---- lists

pub map-both : {A B C D : Type 0} (g : B → D) (a : A → B) (h : C → D) (b : A → C) (xs : List A) → Every (λ x. g (a x) ≡ h (b x)) xs → map g (map a xs) ≡ map h (map b xs)
map-both g a h b [] e = refl
map-both g a h b (x ∷ xs) e = ap (λ y. y ∷ map g (map a xs)) (e x (inl refl)) ∙ ap (λ l. h (b x) ∷ l) (map-both g a h b xs (λ y k. e y (inr k)))

map-every : {A B : Type 0} (g h : A → B) (xs : List A) → Every (λ x. g x ≡ h x) xs → map g xs ≡ map h xs
map-every g h [] e = refl
map-every g h (x ∷ xs) e = ap (λ y. y ∷ map g xs) (e x (inl refl)) ∙ ap (λ l. h x ∷ l) (map-every g h xs (λ y k. e y (inr k)))

flat-both : {A B C D : Type 0} (g : B → D) (a : A → List B) (b : C → List D) (c : A → C) (xs : List A) → Every (λ x. map g (a x) ≡ b (c x)) xs
    → map g (flat_map a xs) ≡ flat_map b (map c xs)
flat-both g a b c [] e = refl
flat-both g a b c (x ∷ xs) e =
    map-append g (a x) (flat_map a xs) ∙ ap (λ l. l ++ map g (flat_map a xs)) (e x (inl refl)) ∙ ap (λ l. b (c x) ++ l) (flat-both g a b c xs (λ y k. e y (inr k)))

map-flat : {A B C : Type 0} (g : B → C) (a : A → List B) (xs : List A) → map g (flat_map a xs) ≡ flat_map (λ x. map g (a x)) xs
map-flat g a [] = refl
map-flat g a (x ∷ xs) = map-append g (a x) (flat_map a xs) ∙ ap (λ l. map g (a x) ++ l) (map-flat g a xs)

-- ---- literals

-- a literal names nothing
literal-same : (r : Renaming) (f : Name) (s l : Bool) (a : Action) → Every (λ v. variable_renamed v r ≡ linked_variable r v) (literal_at f s l a)
literal-same r f s l (plain.text j b) v (inl e) = ap (λ v. variable_renamed v r) (sym e) ∙ ap (linked_variable r) e
literal-same r f s l (plain.text j b) v (inr k) = absurd k
literal-same r f s l a v h = absurd h

module _ (fs : List PlainFunction) (xs : List PlainStatic) (low : Lowerable (file_of fs xs)) where
  abbrev file : PlainFile
  file = file_of fs xs

  abbrev r : Renaming
  r = in_C fs xs low

  abbrev q : Name → Name
  q = in_plain fs xs low

  abbrev renamed_variable : CVariable → CVariable
  renamed_variable v = variable_renamed v r

  -- a static object by its names in the program
  abbrev pub object_there : PlainStatic → PlainStatic
  object_there x = record x { name = q x.name; start = renamed_all q x.start; owner = option_map q x.owner }

  object-there : (x : PlainStatic) → In x xs → renamed_variable (lowered_static [] x) ≡ linked_static (object_there x)
  object-there x h =
      let v : CVariable = lowered_static [] x in
      ap (λ n. record { is_shared = x.is_shared; is_static = false; ty = v.ty; name = n; initialiser = None })
      (plain-goes fs xs low x.name (foreign-plain x.name (object-foreign-name fs xs low x h)))

  objects-there : map renamed_variable (map (lowered_static []) xs) ≡ map linked_static (map object_there xs)
  objects-there = map-both renamed_variable (lowered_static []) linked_static object_there xs object-there

  one-literal : (f : PlainFunction) (a : Action) → In f fs → In a (all_actions f.body)
      → map renamed_variable (literal_at f.name f.is_shared f.is_local a)
      ≡ map shown_variable (literal_at (q f.name) f.is_shared f.is_local (renamed_action q a))
  one-literal f (plain.text j b) h m =
      ap (λ n. record {
        is_shared = f.is_shared;
        is_static = false;
        ty = variable.Chars (int_constant (length b));
        name = n;
        initialiser = Some (initialiser.Text (but_last b));
      } ∷ []) (literal-goes fs xs low f j b h m)
  one-literal f (plain.static_object n t) h m = refl
  one-literal f (plain.function n t) h m = refl
  one-literal f (plain.function_pointer t) h m = refl
  one-literal f (plain.is_reached n) h m = refl
  one-literal f (plain.reach n) h m = refl
  one-literal f (plain.finish_static n) h m = refl
  one-literal f (plain.call n t object is into) h m = refl
  one-literal f (plain.build n t p is) h m = refl
  one-literal f a h m = refl

  -- of a function
  literals-there : (f : PlainFunction) (h : In f fs) → map renamed_variable (literals f) ≡ linked_literals (there fs xs low f h)
  literals-there f h =
      go (all_actions f.body) (λ a m. one-literal f a h m)
      ∙ ap (λ l. map shown_variable (flat_map (literal_at (q f.name) f.is_shared f.is_local) l)) (sym (all-actions-renamed q f.body))
    where
      go : (acts : List Action)
          → Every (λ a. map renamed_variable (literal_at f.name f.is_shared f.is_local a) ≡ map shown_variable (literal_at (q f.name) f.is_shared f.is_local (renamed_action q a))) acts
          → map renamed_variable (flat_map (literal_at f.name f.is_shared f.is_local) acts)
          ≡ map shown_variable (flat_map (literal_at (q f.name) f.is_shared f.is_local) (map (renamed_action q) acts))
      go acts e =
          flat-both renamed_variable (literal_at f.name f.is_shared f.is_local) (λ a. map shown_variable (literal_at (q f.name) f.is_shared f.is_local a)) (renamed_action q) acts e
          ∙ sym (map-flat shown_variable (literal_at (q f.name) f.is_shared f.is_local) (map (renamed_action q) acts))

  abbrev pub function_there : PlainFunction → PlainFunction
  function_there f = record f { name = q f.name; body = renamed_all q f.body }

  texts-there : map renamed_variable (flat_map literals fs) ≡ flat_map linked_literals (map function_there fs)
  texts-there = flat-both renamed_variable literals linked_literals function_there fs (λ f h. literals-there f h)

  start-same : Every (λ v. renamed_variable v ≡ linked_variable r v) (flat_map start_literals xs)
  start-same v h =
      let x = from-flat start_literals xs v h in
      let a = from-flat (literal_at (owner_of x.one) x.one.is_shared (x.one.is_local || not x.one.is_shared)) (all_actions x.one.start) v x.gives in
      literal-same r (owner_of x.one) x.one.is_shared (x.one.is_local || not x.one.is_shared) a.one v a.gives

  starts-there : map renamed_variable (flat_map start_literals xs) ≡ linked_starts file
  starts-there = map-every renamed_variable (linked_variable r) (flat_map start_literals xs) start-same

  pub variables-there : map renamed_variable (map (lowered_static []) xs ++ flat_map literals fs ++ flat_map start_literals xs)
      ≡ map linked_static (named_file file).statics ++ flat_map linked_literals (named_file file).functions ++ linked_starts file
  variables-there =
      let A : List CVariable = map (lowered_static []) xs in
      let B : List CVariable = flat_map literals fs in
      let C : List CVariable = flat_map start_literals xs in
      map-append renamed_variable (A ++ B) C ∙ ap (λ l. l ++ map renamed_variable C) (map-append renamed_variable A B)
      ∙ ap (λ l. l ++ map renamed_variable B ++ map renamed_variable C) objects-there
      ∙ ap (λ l. map linked_static (map object_there xs) ++ l ++ map renamed_variable C) texts-there
      ∙ ap (λ l. map linked_static (map object_there xs) ++ flat_map linked_literals (map function_there fs) ++ l) starts-there
