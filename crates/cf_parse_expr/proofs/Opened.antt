-- Names looked up where the scopes of classes are open besides.
use Rattle.std.proofs.Common.{◌≡◌, ℕ, List, [], ◌∷◌, ◌++◌, map, Option, Some, None, refl, sym, ◌∙◌, ap}
use Rattle.cf_syntax.specs.declared.type_names.NameKind.{NameKind}
use Rattle.cf_syntax.specs.declared.type_names.Scope.{Scope}
use Rattle.cf_syntax.specs.declared.type_names.Scope.TheVariants as open_scope
use Rattle.cf_syntax.specs.NamesData.{Names}
use Rattle.cf_syntax.specs.Names.{or_else, newest, kind_of, in_scope, find, find_in}
use Rattle.cf_syntax.specs.Named.{opened}

or_else-assoc : {A : Type 0} (a b c : Option A) → or_else (or_else a b) c ≡ or_else a (or_else b c)
or_else-assoc (Some x) b c = refl
or_else-assoc None b c = refl

or_else-none : {A : Type 0} (a : Option A) → or_else a None ≡ a
or_else-none (Some x) = refl
or_else-none None = refl

newest-append : {A B : Type 0} (ask : A → Option B) (xs ys : List A) → newest ask (xs ++ ys) ≡ or_else (newest ask ys) (newest ask xs)
newest-append ask [] ys = sym (or_else-none (newest ask ys))
newest-append ask (x ∷ xs) ys = ap (λ o. or_else o (ask x)) (newest-append ask xs ys) ∙ or_else-assoc (newest ask ys) (newest ask xs) (ask x)

newest-classes : (names : Names) (name : List ℕ) (classes : List ℕ)
    → newest (in_scope names.classes name) (map open_scope.Class classes) ≡ newest (λ class. find_in names class name) classes
newest-classes names name [] = refl
newest-classes names name (c ∷ cs) = ap (λ o. or_else o (find_in names c name)) (newest-classes names name cs)

-- the classes that are open besides answer first
pub find_opened : (names : Names) (classes : List ℕ) (name : List ℕ)
    → find (opened names classes) name ≡ or_else (newest (λ class. find_in names class name) classes) (find names name)
find_opened names classes name =
    ap (λ o. or_else o (kind_of names.file name)) (newest-append (in_scope names.classes name) names.inner (map open_scope.Class classes))
    ∙ or_else-assoc (newest (in_scope names.classes name) (map open_scope.Class classes)) (newest (in_scope names.classes name) names.inner) (kind_of names.file name)
    ∙ ap (λ o. or_else o (find names name)) (newest-classes names name classes)

map-append : {A B : Type 0} (f : A → B) (xs ys : List A) → map f (xs ++ ys) ≡ map f xs ++ map f ys
map-append f [] ys = refl
map-append f (x ∷ xs) ys = ap (λ zs. f x ∷ zs) (map-append f xs ys)

append-more : {A : Type 0} (xs ys zs : List A) → xs ++ (ys ++ zs) ≡ (xs ++ ys) ++ zs
append-more [] ys zs = refl
append-more (x ∷ xs) ys zs = ap (λ ws. x ∷ ws) (append-more xs ys zs)

with-inner : Names → List Scope → Names
with-inner names inner = record { classes = names.classes; file = names.file; inner = inner }

-- scopes that are opened behind others
pub opened_twice : (names : Names) (classes more : List ℕ) → opened names (classes ++ more) ≡ opened (opened names classes) more
unfolding with-inner
opened_twice names classes more =
    ap (λ scopes. with-inner names (names.inner ++ scopes)) (map-append open_scope.Class classes more)
    ∙ ap (with-inner names) (append-more names.inner (map open_scope.Class classes) (map open_scope.Class more))

append-none : {A : Type 0} (xs : List A) → xs ++ [] ≡ xs
append-none [] = refl
append-none (x ∷ xs) = ap (λ ys. x ∷ ys) (append-none xs)

-- no scopes opened
pub opened_none : (names : Names) → opened names [] ≡ names
unfolding with-inner
opened_none names = ap (with-inner names) (append-none names.inner)

-- what is found where scopes are open, by what their classes say
pub found-opened : (names : Names) (classes : List ℕ) (name : List ℕ) (o : Option NameKind) → o ≡ newest (λ class. find_in names class name) classes
    → or_else o (find names name) ≡ find (opened names classes) name
found-opened names classes name o e = ap (λ p. or_else p (find names name)) e ∙ sym (find_opened names classes name)
