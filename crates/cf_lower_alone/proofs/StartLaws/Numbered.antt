-- Each static object of one file has a number, and no two have one.
use Rattle.std.proofs.Common.{◌≡◌, ℕ, nat_lt, Bool, true, false, cond, List, [], ◌∷◌, ◌++◌, length, slice_get, map, refl, ap, sym, subst, ◌∙◌, inl, inr, arith}
use Rattle.std.specs.Prelude.{Some, None, bytes_eq, find, position}
use Rattle.std.specs.List.{position_or_len, flat_map}
use Rattle.std.proofs.lemmas.Bool.{true≢false}
use Rattle.std.proofs.lemmas.Bool.Decides.{nat_tests}
use Rattle.std.proofs.lemmas.List.Folds.{find_at}
use Rattle.cf_base.proofs.Tests.{bytes_same}
use Rattle.cf_core.specs.Types.{Name}
use Rattle.cf_core.specs.Core.{Static}
use Rattle.cf_core.specs.Objects.{static_number}
use Rattle.cf_plain.specs.Plain.{PlainFunction, PlainStatic}
use Rattle.cf_plain.specs.Program.{static_header}
use Rattle.cc_whole.specs.declared.unit.CProgram.{CProgram}
use Rattle.cc_whole.specs.declared.unit.CVariable.{CVariable}
use Rattle.cf_lower_calls.specs.Returns.Called.{Programs}
use Rattle.cf_lower_program.specs.Lowerable.{Lowerable}
use Rattle.cf_lower_settings.proofs.Settings.{Different}
use Rattle.cc_whole_sections.specs.Sections.{In}
use Rattle.cf_lower_valid.proofs.Inner.{mapped-in}
use Rattle.cf_lower_valid.proofs.Once.{Differ}
use Rattle.cf_lower_valid.proofs.Tests.{file_of}
use Rattle.cf_lower_alone.specs.Linked.{linked_static, linked_literals, linked_starts, LinkedAlone}
use Rattle.cf_lower_alone.proofs.AloneLaws.Names.{in_plain}
use Rattle.cf_lower_alone.proofs.AloneLaws.Statics.{differ-left}
use Rattle.cf_lower_alone.proofs.AloneLaws.Variables.{object_there}
use Rattle.cf_lower_alone.proofs.FittingLaws.Sides.{joined-statics, differ-unmapped, XS}
use Rattle.cf_lower_alone.proofs.FittingLaws.Fits.{some-same, gs}
use Rattle.cf_lower_alone.proofs.StartLaws.Statics.{P, variables-differ, slice-short, at-number}

-- ---- lists

record Found {A : Type 0} (p : A → Bool) (xs : List A) : Type 0 where
  one : A
  is : find p xs ≡ Some one

found-first : {A : Type 0} (p : A → Bool) (y : A) (xs : List A) → p y ≡ true → Found p (y ∷ xs)
found-first p y xs is = record { one = y; is = ap (λ b. cond b (Some y) (find p xs)) is }

found-behind : {A : Type 0} (p : A → Bool) (y : A) (xs : List A) → Found p xs → (b : Bool) → p y ≡ b → Found p (y ∷ xs)
found-behind p y xs rest true is = found-first p y xs is
found-behind p y xs rest false is = record { one = rest.one; is = ap (λ b. cond b (Some y) (find p xs)) is ∙ rest.is }

found-there : {A : Type 0} (p : A → Bool) (xs : List A) (x : A) → In x xs → p x ≡ true → Found p xs
found-there p [] x h e = absurd h
found-there p (y ∷ xs) x (inl same) e = found-first p y xs (ap p same ∙ e)
found-there p (y ∷ xs) x (inr h) e = found-behind p y xs (found-there p xs x h e) (p y) refl

abbrev is_named : Name → Static → Bool
is_named name x = bytes_eq x.name name

-- the number of the first of this name
record HasPlace (xs : List Static) (name : Name) : Type 0 where
  place : ℕ
  is : position (is_named name) xs ≡ Some place

has-place : (xs : List Static) (x : Static) (name : Name) → In x xs → x.name ≡ name → HasPlace xs name
has-place xs x name h e =
    let found = found-there (is_named name) xs x h (bytes_same x.name name e) in
    let at : ℕ = position_or_len (is_named name) xs in
    let short = slice-short xs at found.one (sym (find_at (is_named name) xs) ∙ found.is) in
    record { place = at; is = ap (λ b. cond b (Some at) None) (let t : nat_lt at (length xs) ≡ true = grind (arith, nat_tests, short) in t) }

-- ---- the file

abbrev variable_name : CVariable → Name
variable_name v = v.name

module _ (fs : List PlainFunction) (xs : List PlainStatic) (low : Lowerable (file_of fs xs)) (program : CProgram) (A : LinkedAlone (file_of fs xs) program) where
  abbrev B : Programs
  B = P fs xs low program A

  abbrev q : Name → Name
  q = in_plain fs xs low

  pub record HasNumber (x : PlainStatic) : Type 0 where
    pub object : ℕ
    pub is : static_number B.program (q x.name) ≡ Some object

  pub has-number : (x : PlainStatic) → In x xs → HasNumber x
  has-number x h =
      let y : PlainStatic = object_there fs xs low x in
      let there : In (static_header y) (map static_header (XS fs xs low)) = mapped-in static_header y (XS fs xs low) (mapped-in (object_there fs xs low) x xs h) in
      let place = has-place B.program.statics (static_header y) (q x.name)
      (subst (λ l. In (static_header y) (map static_header l)) (sym (joined-statics fs xs low)) there) refl in
      record { object = place.place; is = place.is }

  differ : Differ (λ (x : PlainStatic). q x.name) xs
  differ =
      differ-unmapped (λ (y : PlainStatic). y.name) (object_there fs xs low) xs
      (differ-unmapped variable_name linked_static (XS fs xs low)
      (differ-left variable_name (map linked_static (XS fs xs low)) (flat_map linked_literals (gs fs xs low program A))
      (differ-left variable_name (map linked_static (XS fs xs low) ++ flat_map linked_literals (gs fs xs low program A)) (linked_starts (file_of fs xs))
      (subst (Differ variable_name) A.variables (variables-differ fs xs low program A)))))

  -- one number is that of one name
  one-name : (m n : Name) (a b : ℕ) → static_number B.program m ≡ Some a → static_number B.program n ≡ Some b → b ≡ a → m ≡ n
  one-name m n a b ea eb same =
      let x = at-number B.program.statics m a ea in
      let y = at-number B.program.statics n b eb in
      let one : x.one ≡ y.one = some-same (sym x.at ∙ ap (slice_get B.program.statics) (sym same) ∙ y.at) in
      sym x.named ∙ ap (λ (z : Static). z.name) one ∙ y.named

  names-numbers : (ys : List PlainStatic) → Differ (λ (x : PlainStatic). q x.name) ys → Different B.program q ys
  names-numbers [] d = tt
  names-numbers (x ∷ ys) d = (
    λ y h a b ea eb same. true≢false (sym (bytes_same (q x.name) (q y.name) (one-name (q x.name) (q y.name) a b ea eb same)) ∙ d.0 y h),
    names-numbers ys d.1,
  )

  pub numbers-differ : Different B.program q xs
  numbers-differ = names-numbers xs differ
