-- What names mean under the parameters and locals of a function.
use Rattle.std.proofs.Common.{◌≡◌, ℕ, Bool, true, false, cond, List, [], ◌∷◌, ◌++◌, Option, Some, option_map, map, refl, ap, sym, subst, ◌∙◌, inl, inr}
use Rattle.std.specs.Prelude.{bytes_eq, find}
use Rattle.std.proofs.lemmas.Bool.{true≢false}
use Rattle.cf_base.proofs.Tests.{same_bytes, bytes_same}
use Rattle.cc_whole.specs.declared.types.CVariableType.TheVariants as variable
use Rattle.cc_whole.specs.declared.statement.CLocal.{CLocal}
use Rattle.cc_whole.specs.declared.unit.CParameter.{CParameter}
use Rattle.cc_whole.specs.Types.{local_type}
use Rattle.cc_whole.specs.Known.{Meant, object, Named, lookup, locals_named, parameters_named}
use Rattle.cc_whole_sections.specs.Sections.{In, Every}
use Rattle.cf_lower_valid.proofs.Differ.{append-in}

abbrev Meaning : Type 0
Meaning = List ℕ → Option Meant

abbrev meant_by : Option Named → Option Meant
meant_by o = option_map (λ (x : Named). x.meant) o

-- ---- names in front of others

-- each means what its name tells
abbrev pub Says : Meaning → List Named → Type 0
Says m names = Every (λ x. m x.name ≡ Some x.meant) names

-- a name that stands there means what it tells
pub found : (m : Meaning) (ns old : List Named) (x : Named) → Says m ns → In x ns → lookup (ns ++ old) x.name ≡ m x.name
found m [] old x s h = absurd h
found m (n ∷ ns) old x s h = go (λ k. found m ns old x (λ z l. s z (inr l)) k) (bytes_eq n.name x.name) refl h
  where
    go : (In x ns → lookup (ns ++ old) x.name ≡ m x.name) → (b : Bool) → bytes_eq n.name x.name ≡ b → In x (n ∷ ns)
        → meant_by (cond b (Some n) (find (λ (z : Named). bytes_eq z.name x.name) (ns ++ old))) ≡ m x.name
    go again true e k = sym (s n (inl refl)) ∙ ap m (same_bytes n.name x.name e)
    go again false e (inl k) = absurd (true≢false (sym (bytes_same n.name x.name (ap (λ (z : Named). z.name) k)) ∙ e))
    go again false e (inr k) = again k

-- a name that does not stand there means what it meant
pub outside : (ns old : List Named) (y : List ℕ) → Every (λ x. bytes_eq x.name y ≡ false) ns → lookup (ns ++ old) y ≡ lookup old y
outside [] old y h = refl
outside (n ∷ ns) old y h =
    ap (λ b. meant_by (cond b (Some n) (find (λ (z : Named). bytes_eq z.name y) (ns ++ old)))) (h n (inl refl)) ∙ outside ns old y (λ x k. h x (inr k))

-- ---- parameters and locals

abbrev pub named_local : CLocal → Named
named_local x = record { name = x.name; meant = object (local_type x.ty) }

abbrev pub named_parameter : CParameter → Named
named_parameter p = record { name = p.name; meant = object (variable.Scalar p.ty) }

pub mapped-in : {A B : Type 0} (f : A → B) (x : A) (xs : List A) → In x xs → In (f x) (map f xs)
mapped-in f x (y ∷ ys) (inl e) = inl (ap f e)
mapped-in f x (y ∷ ys) (inr h) = inr (mapped-in f x ys h)
mapped-in f x [] h = h

-- what is so of each is so of each that is made of one
pub every-mapped : {A B : Type 0} (P : B → Type 0) (f : A → B) (xs : List A) → Every (λ x. P (f x)) xs → Every P (map f xs)
every-mapped P f [] h y k = absurd k
every-mapped P f (x ∷ xs) h y (inl e) = subst P e (h x (inl refl))
every-mapped P f (x ∷ xs) h y (inr k) = every-mapped P f xs (λ z l. h z (inr l)) y k

pub every-append : {A : Type 0} (P : A → Type 0) (xs ys : List A) → Every P xs → Every P ys → Every P (xs ++ ys)
every-append P xs ys h g x k = append-in x xs ys (P x) k (λ l. h x l) (λ l. g x l)

-- the names of a function in front of those of the file
module _ (xs : List CLocal) (ps : List CParameter) (old : List Named) where
  abbrev pub names_inside : List Named
  names_inside = locals_named xs ++ (parameters_named ps ++ old)

  module _ (m : Meaning) (says : Every (λ (x : CLocal). m x.name ≡ Some (object (local_type x.ty))) xs)
      (say : Every (λ (p : CParameter). m p.name ≡ Some (object (variable.Scalar p.ty))) ps) where
    says-locals : Says m (locals_named xs)
    says-locals = every-mapped (λ (n : Named). m n.name ≡ Some n.meant) named_local xs says

    says-parameters : Says m (parameters_named ps)
    says-parameters = every-mapped (λ (n : Named). m n.name ≡ Some n.meant) named_parameter ps say

    pub local-means : (x : CLocal) → In x xs → lookup names_inside x.name ≡ m x.name
    local-means x h = found m (locals_named xs) (parameters_named ps ++ old) (named_local x) says-locals (mapped-in named_local x xs h)

    pub parameter-means : (p : CParameter) → In p ps → Every (λ (x : CLocal). bytes_eq x.name p.name ≡ false) xs → lookup names_inside p.name ≡ m p.name
    parameter-means p h apart =
        outside (locals_named xs) (parameters_named ps ++ old) p.name (every-mapped (λ (n : Named). bytes_eq n.name p.name ≡ false) named_local xs apart)
        ∙ found m (parameters_named ps) old (named_parameter p) says-parameters (mapped-in named_parameter p ps h)

  pub outer-means : (y : List ℕ) → Every (λ (x : CLocal). bytes_eq x.name y ≡ false) xs → Every (λ (p : CParameter). bytes_eq p.name y ≡ false) ps
      → lookup names_inside y ≡ lookup old y
  outer-means y h g =
      outside (locals_named xs) (parameters_named ps ++ old) y (every-mapped (λ (n : Named). bytes_eq n.name y ≡ false) named_local xs h)
      ∙ outside (parameters_named ps) old y (every-mapped (λ (n : Named). bytes_eq n.name y ≡ false) named_parameter ps g)
