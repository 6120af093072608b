-- What names mean at the statements of a lowered function: its own, and those of the file behind.
use Rattle.std.proofs.Common.{◌≡◌, ℕ, zero, suc, ◌+◌, ◌^◌, ◌≤◌, ◌==◌, Bool, true, false, List, [], ◌∷◌, ◌++◌, length, slice_get, map, refl, ap, sym, subst, ◌∙◌, inl, arith}
use Rattle.std.specs.Prelude.{Option, Some, None, is_some, decimal, bytes_eq}
use Rattle.std.specs.List.{list_all, list_any}
use Rattle.std.proofs.lemmas.Bool.{and_from, and_parts, true≢false, eq-eqb}
use Rattle.cf_base.proofs.Tests.{same_bytes}
use Rattle.cf_core.specs.Types.{Name, SourceType, result as result_type}
use Rattle.cf_lower_layout.specs.Sorts.{Sort, sort_of}
use Rattle.cf_plain.specs.Plain.{Action}
use Rattle.cc_whole.specs.declared.types.CType.TheVariants as ty
use Rattle.cc_whole.specs.declared.types.CVariableType.TheVariants as variable
use Rattle.cc_whole.specs.declared.statement.CLocal.{CLocal}
use Rattle.cc_whole.specs.declared.unit.CParameter.{CParameter}
use Rattle.cc_whole.specs.Types.{local_type}
use Rattle.cc_whole.specs.Known.{Meant, object, Named, lookup}
use Rattle.cf_lower.specs.Written.{if_scalar, c_type, register_type, local_name, register_name, flag_name, result_name}
use Rattle.cf_lower.specs.Functions.{scalar, result_at, lowered_parameters}
use Rattle.cf_lower_program.specs.Names.{begins_with_digit, is_own_name}
use Rattle.cf_lower_valid_body.specs.Scope.{Own, TakesResult}
use Rattle.cc_whole_sections.specs.Sections.{In, Every}
use Rattle.cf_lower_valid.proofs.Digits.{decimal-begins}
use Rattle.cf_lower_valid.proofs.Inner.{names_inside, local-means, parameter-means, outer-means, mapped-in}
use Rattle.cf_lower_valid.proofs.Spans.{none-any, locals_after, parameters-apart}
use Rattle.cf_lower_valid.proofs.Own.{means, letters, Entry, a_local, scalar-local, parameter-entries, local-entries, own_local, own_parameter, in-locals, in-held, in-flagged, in-given, in-passed}

-- ---- names of the C's own are no others

digit-begins : (n : ℕ) → begins_with_digit (decimal n) ≡ true
digit-begins n =
    let b = decimal-begins n in
    ap begins_with_digit b.is ∙ (let h = b.is_digit in h)

own-is : (front : Name) (n : ℕ) → is_own_name front (front ++ decimal n) ≡ true
own-is [] n = digit-begins n
own-is (c ∷ cs) n = and_from (c == c) (is_own_name cs (cs ++ decimal n)) (eq-eqb c c refl) (own-is cs n)

own-not : (front : Name) (n : ℕ) (y : Name) → is_own_name front y ≡ false → bytes_eq (front ++ decimal n) y ≡ false
own-not front n y e = go (bytes_eq (front ++ decimal n) y) refl
  where
    go : (b : Bool) → bytes_eq (front ++ decimal n) y ≡ b → b ≡ false
    go true h = absurd (true≢false (sym (own-is front n) ∙ ap (is_own_name front) (same_bytes (front ++ decimal n) y h) ∙ e))
    go false h = refl

abbrev front_of : ℕ → Name
front_of c = 95 ∷ 95 ∷ c ∷ []

-- what the names of parameters, locals, registers, flags and results begin with
abbrev pub local_fronts : List Name
local_fronts = map front_of letters

-- a name that is none of these
abbrev pub is_outer : Name → Bool
is_outer y = list_any (λ front. is_own_name front y) local_fronts

pub entry-apart : (types : List SourceType) (x : Named) (y : Name) → Entry types x → is_outer y ≡ false → bytes_eq x.name y ≡ false
entry-apart types x y e outer =
    ap (λ z. bytes_eq z y) e.is
    ∙ own-not (front_of e.letter) e.number y
    (none-any (λ front. is_own_name front y) local_fronts outer (front_of e.letter) (mapped-in front_of e.letter letters e.is_letter))

-- ---- items of lists one behind another

slice-left : {A : Type 0} (xs ys : List A) (i : ℕ) (x : A) → slice_get xs i ≡ Some x → slice_get (xs ++ ys) i ≡ Some x
slice-left [] ys i x e = absurd (cc)
slice-left (a ∷ xs) ys zero x e = e
slice-left (a ∷ xs) ys (suc i) x e = slice-left xs ys i x e

slice-right : {A : Type 0} (xs ys : List A) (i : ℕ) → slice_get (xs ++ ys) (length xs + i) ≡ slice_get ys i
slice-right [] ys i = ap (slice_get ys) (let n : 0 + i ≡ i = omega arith in n)
slice-right (a ∷ xs) ys i =
    ap (slice_get (a ∷ (xs ++ ys))) (let n : suc (length xs) + i ≡ suc (length xs + i) = omega arith in n) ∙ slice-right xs ys i

data Stands {A : Type 0} (xs ys : List A) (i : ℕ) (x : A) : Type 0 where
  first : slice_get xs i ≡ Some x → Stands xs ys i x
  second : (k : ℕ) → length xs + k ≡ i → slice_get ys k ≡ Some x → Stands xs ys i x

slice-parts : {A : Type 0} (xs ys : List A) (i : ℕ) (x : A) → slice_get (xs ++ ys) i ≡ Some x → Stands xs ys i x
slice-parts [] ys i x e = second i (let n : 0 + i ≡ i = omega arith in n) e
slice-parts (a ∷ xs) ys zero x e = first e
slice-parts (a ∷ xs) ys (suc i) x e = go (slice-parts xs ys i x e)
  where
    go : Stands xs ys i x → Stands (a ∷ xs) ys (suc i) x
    go (first h) = first h
    go (second k n h) = second k (let m : suc (length xs) + k ≡ suc i = omega (arith, n) in m) h

record IsScalar (t : SourceType) : Type 0 where
  sort : Sort
  is : sort_of t ≡ Some sort

scalar-there : (t : SourceType) → is_some (sort_of t) ≡ true → IsScalar t
scalar-there t e = go (sort_of t) refl e
  where
    go : (o : Option Sort) → sort_of t ≡ o → is_some o ≡ true → IsScalar t
    go None is s = absurd (cc)
    go (Some s) is k = record { sort = s; is = is }

some-of : {A : Type 0} (a b : A) → Some a ≡ Some b → a ≡ b
some-of a b h = cc

scalar-at : (ts : List SourceType) (i : ℕ) (t : SourceType) → list_all (λ p. is_some (sort_of p)) ts ≡ true → slice_get ts i ≡ Some t → IsScalar t
scalar-at [] i t h e = absurd (cc)
scalar-at (u ∷ ts) zero t h e =
    scalar-there t (subst (λ (x : SourceType). is_some (sort_of x) ≡ true) (some-of u t e) (and_parts (is_some (sort_of u)) (list_all (λ p. is_some (sort_of p)) ts) h).0)
scalar-at (u ∷ ts) (suc i) t h e = scalar-at ts i t (and_parts (is_some (sort_of u)) (list_all (λ p. is_some (sort_of p)) ts) h).1 e

-- ---- a function of these parameters and locals, registers, flags and actions

-- each C local has a name of the C's own
pub local-names : (ps ls : List SourceType) (n d : ℕ) (actions : List Action) → length ps + length ls ≤ 2 ^ 64 → n ≤ 2 ^ 64 → d ≤ 2 ^ 64
    → Every (λ (x : CLocal). Entry (ps ++ ls) (record { name = x.name; meant = object (local_type x.ty) })) (locals_after (length ps) ls n d actions)
local-names ps ls n d actions few fewer fewest = local-entries (ps ++ ls) (length ps) ls n d actions (λ k t e. slice-right ps ls k ∙ e) few fewer fewest

module _ (ps ls : List SourceType) (n d : ℕ) (actions : List Action) (old : List Named) (few : length ps + length ls ≤ 2 ^ 64) (fewer : n ≤ 2 ^ 64)
    (fewest : d ≤ 2 ^ 64) (scalars : list_all (λ p. is_some (sort_of p)) ps ≡ true) where
  abbrev types : List SourceType
  types = ps ++ ls

  abbrev locals : List CLocal
  locals = locals_after (length ps) ls n d actions

  abbrev passed : List CParameter
  passed = lowered_parameters 0 ps

  abbrev names : List Named
  names = names_inside locals passed old

  local-there : Every (λ (x : CLocal). Entry types (record { name = x.name; meant = object (local_type x.ty) })) locals
  local-there = local-names ps ls n d actions few fewer fewest

  parameter-there : Every (λ (p : CParameter). Entry types (record { name = p.name; meant = object (variable.Scalar p.ty) })) passed
  parameter-there =
      parameter-entries types 0 ps (λ k t e. subst (λ i. slice_get types i ≡ Some t) (let z : k ≡ 0 + k = omega arith in z) (slice-left ps ls k t e)) (omega (arith, few))

  local-is : (x : CLocal) → In x locals → lookup names x.name ≡ Some (object (local_type x.ty))
  local-is x h =
      local-means locals passed old (means types) (λ y k. (local-there y k).says) (λ p k. (parameter-there p k).says) x h ∙ (local-there x h).says

  parameter-is : (p : CParameter) → In p passed → lookup names p.name ≡ Some (object (variable.Scalar p.ty))
  parameter-is p h =
      parameter-means locals passed old (means types) (λ y k. (local-there y k).says) (λ q k. (parameter-there q k).says) p h
      (λ x k. parameters-apart ps ls n d actions few fewer fewest p.name (mapped-in (λ (q : CParameter). q.name) p passed h) x.name
      (mapped-in (λ (y : CLocal). y.name) x locals k))
      ∙ (parameter-there p h).says

  local-object : (i : ℕ) (t : SourceType) → Stands ps ls i t → lookup names (local_name i) ≡ Some (a_local t)
  local-object i t (first e) =
      let s = scalar-at ps i t scalars e in
      parameter-is (own_parameter s.sort i) (in-passed ps i t s.sort e s.is) ∙ ap (λ (m : Meant). Some m) (sym (scalar-local types t s.sort s.is))
  local-object i t (second k same e) =
      subst (λ (j : ℕ). lookup names (local_name j) ≡ Some (a_local t)) same
      (local-is (own_local t (length ps + k)) (in-locals (length ps) ls n d actions k t e))

  pub own-names : Own names types n d
  own-names = record {
    register = λ s r lt. local-is (scalar (register_type s) (register_name s r)) (in-held (length ps) ls n d actions s r lt);
    flag = λ i lt. local-is (scalar ty.Int (flag_name i)) (in-flagged (length ps) ls n d actions i lt);
    local = λ i t e. local-object i t (slice-parts ps ls i t e);
  }

  pub takes-result : (a : Action) (t : SourceType) → In a actions → result_at a ≡ if_scalar (sort_of (result_type t)) [] (λ s. c_type s ∷ []) → TakesResult names t
  takes-result a t h e s is =
      local-is (scalar (c_type s) (result_name (c_type s)))
      (in-given (length ps) ls n d actions a (c_type s) h
      (subst (In (c_type s)) (sym (e ∙ ap (λ o. if_scalar o [] (λ s. c_type s ∷ [])) is)) (inl refl)))

  -- the names of the file stand for what they stood for
  pub outer-name : (y : Name) → is_outer y ≡ false → lookup names y ≡ lookup old y
  outer-name y e =
      outer-means locals passed old y
      (λ x h. entry-apart types (record { name = x.name; meant = object (local_type x.ty) }) y (local-there x h) e)
      (λ p h. entry-apart types (record { name = p.name; meant = object (variable.Scalar p.ty) }) y (parameter-there p h) e)
