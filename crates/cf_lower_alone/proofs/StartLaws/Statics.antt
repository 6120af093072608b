-- The static objects of one linked file stand in the variables of their names.
use Rattle.std.proofs.Common.{◌≡◌, ℕ, zero, suc, ◌+◌, ◌<◌, ◌^◌, nat_lt, nat_le, Bool, true, false, ◌&&◌, ◌||◌, cond, List, [], ◌∷◌, ◌++◌, length, slice_get, map, refl, ap, sym, subst, ◌∙◌, arith}
use Rattle.std.specs.Prelude.{Option, Some, None, bytes_eq, find, position}
use Rattle.std.specs.List.{list_any, position_or_len, flat_map}
use Rattle.std.proofs.lemmas.Bool.{true≢false}
use Rattle.std.proofs.lemmas.Bool.Decides.{nat_tests}
use Rattle.std.proofs.lemmas.List.Folds.{find_at, list_any-append}
use Rattle.cf_base.proofs.Tests.{both, same_bytes, bytes_same}
use Rattle.cf_core.specs.Types.{Name, SourceType, void}
use Rattle.cf_core.specs.Core.{Static}
use Rattle.cf_core.specs.Objects.{static_number}
use Rattle.cf_core.specs.Program.{static_object_of, length_of}
use Rattle.cf_core.specs.Size.{size}
use Rattle.cf_lower_layout.specs.Layout.{has_bytes, const_once, LaidOut}
use Rattle.cf_plain.specs.Plain.{PlainFunction, PlainStatic}
use Rattle.cf_plain.specs.Program.{static_header}
use Rattle.cc_whole.specs.declared.unit.CProgram.{CProgram}
use Rattle.cc_whole.specs.declared.unit.CVariable.{CVariable}
use Rattle.cc_whole.specs.Known as known
use Rattle.cc_whole.specs.Plain.{Function}
use Rattle.cc_whole_mean.specs.declared.named.Named.TheVariants as meant
use Rattle.cc_whole_mean.specs.Types.{variable_shape}
use Rattle.cc_whole_mean.specs.Scope.{no_names, bind_variables, function_names}
use Rattle.cf_lower.specs.Written.{variable_type}
use Rattle.cf_lower_calls.specs.Returns.Called.{Programs, StaticThere}
use Rattle.cf_lower_program.specs.Types.{is_laid}
use Rattle.cf_lower_program.specs.Lowerable.{Lowerable}
use Rattle.cc_whole_sections.specs.Sections.{In}
use Rattle.cf_lower_valid.proofs.Inner.{mapped-in}
use Rattle.cf_lower_valid.proofs.Once.{Differ, differ-named, differ-parts, Apart, any-none, either-way}
use Rattle.cf_lower_valid.proofs.Tests.{file_of, static-told}
use Rattle.cf_lower_alone.specs.Linked.{linked_static, linked_literals, linked_starts, LinkedAlone}
use Rattle.cf_lower_alone.proofs.AloneLaws.Statics.{any-there, object-foreign-name, locals}
use Rattle.cf_lower_alone.proofs.AloneLaws.Variables.{object_there}
use Rattle.cf_lower_alone.proofs.FittingLaws.Outer.{no-library-there}
use Rattle.cf_lower_alone.proofs.FittingLaws.Bound.{unbound-functions, bound-variables}
use Rattle.cf_lower_alone.proofs.FittingLaws.Sides.{joined, joined-statics, XS}
use Rattle.cf_lower_alone.proofs.FittingLaws.Fits.{slice-in, some-same, gs, B, CF, all_names, vs, names}
use Rattle.cf_lower_begun.specs.Begun.{static_map, StaticsFirst}

-- ---- lists by index

record Mapped {A B : Type 0} (f : A → B) (xs : List A) (i : ℕ) (y : B) : Type 0 where
  one : A
  at : slice_get xs i ≡ Some one
  is : f one ≡ y

slice-mapped : {A B : Type 0} (f : A → B) (xs : List A) (i : ℕ) (y : B) → slice_get (map f xs) i ≡ Some y → Mapped f xs i y
slice-mapped f [] i y e = absurd (cc)
slice-mapped f (x ∷ xs) zero y e = record { one = x; at = refl; is = some-same e }
slice-mapped f (x ∷ xs) (suc i) y e = let rest = slice-mapped f xs i y e in record { one = rest.one; at = rest.at; is = rest.is }

map-slice : {A B : Type 0} (f : A → B) (xs : List A) (i : ℕ) (x : A) → slice_get xs i ≡ Some x → slice_get (map f xs) i ≡ Some (f x)
map-slice f [] i x e = absurd (cc)
map-slice f (y ∷ xs) zero x e = ap (λ z. Some (f z)) (some-same e)
map-slice f (y ∷ xs) (suc i) x e = map-slice f xs i x e

pub slice-front : {A : Type 0} (xs ys : List A) (i : ℕ) (x : A) → slice_get xs i ≡ Some x → slice_get (xs ++ ys) i ≡ Some x
slice-front [] ys i x e = absurd (cc)
slice-front (y ∷ xs) ys zero x e = e
slice-front (y ∷ xs) ys (suc i) x e = slice-front xs ys i x e

pub slice-short : {A : Type 0} (xs : List A) (i : ℕ) (x : A) → slice_get xs i ≡ Some x → i < length xs
slice-short [] i x e = absurd (cc)
slice-short (y ∷ xs) zero x e = let l : 0 < suc (length xs) = omega arith in l
slice-short (y ∷ xs) (suc i) x e = let k = slice-short xs i x e in let l : suc i < suc (length xs) = omega (arith, k) in l

-- of things with names that differ, one name stands at one index
pub index-once : {A : Type 0} (n : A → Name) (xs : List A) (i j : ℕ) (x y : A) → Differ n xs → slice_get xs i ≡ Some x → slice_get xs j ≡ Some y → n x ≡ n y → i ≡ j
index-once n [] i j x y d e h s = absurd (cc)
index-once n (z ∷ xs) zero zero x y d e h s = refl
index-once n (z ∷ xs) zero (suc j) x y d e h s =
    absurd (true≢false (sym (bytes_same (n z) (n y) (ap n (some-same e) ∙ s)) ∙ d.0 y (slice-in xs j y h)))
index-once n (z ∷ xs) (suc i) zero x y d e h s =
    absurd (true≢false (sym (bytes_same (n z) (n x) (ap n (some-same h) ∙ sym s)) ∙ d.0 x (slice-in xs i x e)))
index-once n (z ∷ xs) (suc i) (suc j) x y d e h s = ap (λ (k : ℕ). suc k) (index-once n xs i j x y d.1 e h s)

-- ---- static objects by name

pub record AtNumber (xs : List Static) (name : Name) (o : ℕ) : Type 0 where
  pub one : Static
  pub at : slice_get xs o ≡ Some one
  pub found : find (λ (x : Static). bytes_eq x.name name) xs ≡ Some one
  pub named : one.name ≡ name

record SliceThere {A : Type 0} (xs : List A) (i : ℕ) : Type 0 where
  one : A
  at : slice_get xs i ≡ Some one

slice-there : {A : Type 0} (xs : List A) (i : ℕ) → i < length xs → SliceThere xs i
slice-there [] i lt = absurd (let l : i < 0 = lt in omega (arith, l))
slice-there (x ∷ xs) zero lt = record { one = x; at = refl }
slice-there (x ∷ xs) (suc i) lt =
    let l : suc i < suc (length xs) = lt in
    let rest = slice-there xs i (omega (arith, l)) in
    record { one = rest.one; at = rest.at }

find-passes : {A : Type 0} (p : A → Bool) (xs : List A) (x : A) → find p xs ≡ Some x → p x ≡ true
find-passes p [] x e = absurd (cc)
find-passes p (y ∷ xs) x e = go (p y) refl (λ k. find-passes p xs x k) e
  where
    go : (b : Bool) → p y ≡ b → (find p xs ≡ Some x → p x ≡ true) → cond b (Some y) (find p xs) ≡ Some x → p x ≡ true
    go true is again k = ap p (sym (some-same k)) ∙ is
    go false is again k = again k

pub at-number : (xs : List Static) (name : Name) (o : ℕ) → position (λ (x : Static). bytes_eq x.name name) xs ≡ Some o → AtNumber xs name o
at-number xs name o e = go (position_or_len (λ (x : Static). bytes_eq x.name name) xs) refl e
  where
    go : (at : ℕ) → position_or_len (λ (x : Static). bytes_eq x.name name) xs ≡ at → cond (nat_lt at (length xs)) (Some at) None ≡ Some o → AtNumber xs name o
    go at same e = by (nat_lt at (length xs)) refl e
      where
        by : (b : Bool) → nat_lt at (length xs) ≡ b → cond b (Some at) None ≡ Some o → AtNumber xs name o
        by true is k =
            let x = slice-there xs at (grind (arith, nat_tests, is)) in
            let found = find_at (λ (x : Static). bytes_eq x.name name) xs ∙ ap (slice_get xs) same ∙ x.at in
            record {
              one = x.one;
              at = ap (slice_get xs) (sym (some-same k)) ∙ x.at;
              found = found;
              named = same_bytes x.one.name name (find-passes (λ (x : Static). bytes_eq x.name name) xs x.one found);
            }
        by false is k = absurd (cc)

length-as : (xs : List Static) → length_of xs ≡ length xs
length-as [] = refl
length-as (x ∷ xs) = ap (λ (n : ℕ). suc n) (length-as xs)

abbrev typed_static : Option Static → SourceType
typed_static None = void
typed_static (Some x) = x.type

-- ---- the program

module _ (fs : List PlainFunction) (xs : List PlainStatic) (low : Lowerable (file_of fs xs)) (program : CProgram)
    (A : LinkedAlone (file_of fs xs) program) where
  abbrev pub P : Programs
  P = B fs xs low program A

  abbrev pub V : List CVariable
  V = vs fs xs low program A

  abbrev C : List Function
  C = CF fs xs low program A

  abbrev function_name : Function → Name
  function_name f = f.prototype.name

  abbrev pub variable_name : CVariable → Name
  variable_name v = v.name

  apart : Apart (map function_name C) (map variable_name V)
  apart = differ-parts (map function_name C) (map variable_name V) A.once

  pub variables-differ : Differ variable_name V
  variables-differ = differ-named variable_name V apart.second

  -- a static object of the file by its number
  pub record StaticOf (o : ℕ) (x : Static) : Type 0 where
    pub one : PlainStatic
    pub there : In one xs
    pub is : static_header (object_there fs xs low one) ≡ x
    pub variable : slice_get V o ≡ Some (linked_static (object_there fs xs low one))

  pub static-of : (o : ℕ) (x : Static) → slice_get P.program.statics o ≡ Some x → StaticOf o x
  static-of o x e =
      let m = slice-mapped static_header (joined fs xs low).statics o x e in
      let at : slice_get (XS fs xs low) o ≡ Some m.one = ap (λ l. slice_get l o) (sym (joined-statics fs xs low)) ∙ m.at in
      let y = slice-mapped (object_there fs xs low) xs o m.one at in
      record {
        one = y.one;
        there = slice-in xs o y.one y.at;
        is = ap static_header y.is ∙ m.is;
        variable = ap (λ l. slice_get l o) A.variables
            ∙ slice-front (map linked_static (XS fs xs low) ++ flat_map linked_literals (gs fs xs low program A)) (linked_starts (file_of fs xs)) o _
            (slice-front (map linked_static (XS fs xs low)) (flat_map linked_literals (gs fs xs low program A)) o _
            (map-slice linked_static (XS fs xs low) o (object_there fs xs low y.one) (at ∙ ap (λ z. Some z) (sym y.is))));
      }

  laid-out : (t : SourceType) → is_laid t ≡ true → LaidOut [] t
  laid-out t e =
      let two = both (nat_le (size [] t) (2 ^ 22) && has_bytes t) (const_once t) e in
      let more = both (nat_le (size [] t) (2 ^ 22)) (has_bytes t) two.0 in
      let le = more.0 in
      record { small = grind (arith, nat_tests, le); some = more.1; once = two.1 }

  pub statics-first : StaticsFirst P.program V
  statics-first = record {
    laid = λ o x e. let s = static-of o x e in subst (λ (z : Static). LaidOut [] z.type) s.is (laid-out s.one.type (static-told fs xs low s.one s.there).laid);
    variables = λ o x e.
        let s = static-of o x e in
        record {
          one = linked_static (object_there fs xs low s.one);
          is = s.variable;
          type = ap (λ (z : Static). variable_type [] z.type) s.is;
          start = refl;
        };
  }

  -- the name of an object stands for its variable
  object-named : (o : ℕ) (z : PlainStatic) → In z xs → slice_get V o ≡ Some (linked_static (object_there fs xs low z))
      → names fs xs low program A (object_there fs xs low z).name ≡ Some (meant.Variable o (variable_shape (variable_type [] z.type)))
  object-named o z h e =
      let y : PlainStatic = object_there fs xs low z in
      let v : CVariable = linked_static y in
      let none : list_any (bytes_eq y.name) (all_names fs xs low program A) ≡ false =
      list_any-append (bytes_eq y.name) (function_names C) known.library
      ∙ ap (λ b. b || list_any (bytes_eq y.name) known.library)
      (any-none (bytes_eq y.name) (function_names C)
      (λ a k. either-way a y.name (apart.cross a k y.name (mapped-in variable_name v V (slice-in V o v e)))))
      ∙ no-library-there (list_any (bytes_eq z.name) (locals fs xs low)) z.name (object-foreign-name fs xs low z h) in
      let x = bound-variables V 0 no_names y.name
      (any-there (λ (w : CVariable). bytes_eq y.name w.name) V v (slice-in V o v e) (bytes_same y.name y.name refl)) in
      let same : x.place ≡ o = index-once variable_name V x.place o x.one v variables-differ x.at e x.named in
      let one : x.one ≡ v = some-same (sym x.at ∙ ap (slice_get V) same ∙ e) in
      let place : 0 + x.place ≡ o = omega (arith, same) in
      unbound-functions (all_names fs xs low program A) 1 (bind_variables V 0 no_names) y.name none ∙ x.is
      ∙ ap (λ (b : ℕ). Some (meant.Variable b (variable_shape x.one.ty))) place ∙ ap (λ (w : CVariable). Some (meant.Variable o (variable_shape w.ty))) one

  pub static-there : (name : Name) (o : ℕ) → static_number P.program name ≡ Some o → StaticThere P (static_map P.program) name o
  static-there name o e =
      let x = at-number P.program.statics name o e in
      let s = static-of o x.one x.at in
      let y : PlainStatic = object_there fs xs low s.one in
      let short = slice-short P.program.statics o x.one x.at in
      let long = length-as P.program.statics in
      record {
        shape = variable_shape (variable_type [] s.one.type);
        named = subst (λ n. names fs xs low program A n ≡ Some (meant.Variable o (variable_shape (variable_type [] s.one.type))))
            (ap (λ (z : Static). z.name) s.is ∙ x.named) (object-named o s.one s.there s.variable);
        known = omega (arith, short, long);
        type = ap (λ z. (static_object_of [] z).type) x.at ∙ sym (ap typed_static x.found);
        shown = refl;
        base = refl;
      }
