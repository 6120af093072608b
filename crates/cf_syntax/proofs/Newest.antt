-- The newest and the oldest item that answers, and loops that look for them.
use Rattle.std.proofs.Common.{◌≡◌, ℕ, zero, suc, ◌<◌, ◌≤◌, true, cond, List, [], ◌∷◌, length, get_or, drop, Option, Some, None, bytes_eq, refl, sym, ◌∙◌, ap, subst, drop-cons}
use Rattle.std.specs.Prelude.{slice_get, slice_set, unwrap_or}
use Rattle.std.proofs.lemmas.List.{drop_all}
use Rattle.std.proofs.lemmas.Option.{unwrap_or-slice_get}
use Rattle.cf_syntax.specs.declared.type_names.ClassNames.{ClassNames}
use Rattle.cf_syntax.specs.declared.type_names.Entry.{Entry}
use Rattle.cf_syntax.specs.declared.type_names.NameKind.{NameKind}
use Rattle.cf_syntax.specs.Names.{or_else, newest, oldest, says, kind_of, no_class, class_at, in_class_to}

pub newest-from : {A B : Type 0} (ask : A → Option B) (xs : List A) (i : ℕ) (b : B) → newest ask (drop i xs) ≡ Some b → newest ask xs ≡ Some b
newest-from ask [] zero b e = e
newest-from ask [] (suc i) b e = e
newest-from ask (x ∷ xs) zero b e = e
newest-from ask (x ∷ xs) (suc i) b e = ap (λ o. or_else o (ask x)) (newest-from ask xs i b e)

newest-step : {A B : Type 0} (ask : A → Option B) (xs : List A) (i : ℕ) (x : A) (more : List A)
    → drop i xs ≡ x ∷ more → newest ask more ≡ None → newest ask (drop i xs) ≡ ask x
newest-step ask xs i x more e none = ap (newest ask) e ∙ ap (λ o. or_else o (ask x)) none

-- the item before those that were asked answers
pub newest-here : {A B : Type 0} (ask : A → Option B) (xs : List A) (i j : ℕ) (x : A) (b : B)
    → j ≡ suc i → i < length xs → x ≡ get_or xs i x → newest ask (drop j xs) ≡ None → ask x ≡ Some b → newest ask xs ≡ Some b
newest-here ask xs i j x b next within is none here =
    newest-from ask xs i b (newest-step ask xs i x (drop (suc i) xs) (drop-cons xs i x within ∙ ap (λ y. y ∷ drop (suc i) xs) (sym is)) (subst (λ n. newest ask (drop n xs) ≡ None) next none) ∙ here)

says-is : (e : Entry) (name : List ℕ) → bytes_eq e.name name ≡ true → says name e ≡ Some e.kind
says-is e name same = ap (λ b. cond b (Some e.kind) None) same

pub kind-here : (entries : List Entry) (name : List ℕ) (i j : ℕ) (e : Entry)
    → j ≡ suc i → i < length entries → e ≡ get_or entries i e → kind_of (drop j entries) name ≡ None → bytes_eq e.name name ≡ true
    → kind_of entries name ≡ Some e.kind
kind-here entries name i j e next within is none same =
    newest-here (says name) entries i j e e.kind next within is none (says-is e name same)

pub oldest-here : {A B : Type 0} (ask : A → Option B) (xs : List A) (i : ℕ) (d : A) (b : B)
    → i < length xs → ask (get_or xs i d) ≡ Some b → oldest ask (drop i xs) ≡ Some b
oldest-here ask xs i d b within here =
    ap (oldest ask) (drop-cons xs i d within) ∙ ap (λ o. or_else o (oldest ask (drop (suc i) xs))) here

pub oldest-none : {A B : Type 0} (ask : A → Option B) (xs : List A) (i : ℕ) → length xs ≤ i → oldest ask (drop i xs) ≡ None
oldest-none ask xs i past = ap (oldest ask) (drop_all i xs past)

-- a class without the name of its own asks its bases
pub by-bases : (depth k : ℕ) (classes : List ClassNames) (name : List ℕ) (class : ℕ) (found : ClassNames)
    → depth ≡ suc k → class_at classes class ≡ found → kind_of found.entries name ≡ None
    → in_class_to depth classes name class ≡ oldest (in_class_to k classes name) found.bases
by-bases depth k classes name class found deep is none =
    let P : ℕ → Type 0 = λ d. in_class_to d classes name class ≡ oldest (in_class_to k classes name) found.bases in
    subst P (sym deep)
    (ap (λ (c : ClassNames). or_else (kind_of c.entries name) (oldest (in_class_to k classes name) c.bases)) is
    ∙ ap (λ o. or_else o (oldest (in_class_to k classes name) found.bases)) none)

pub none-else : {A : Type 0} (o : Option A) → ((x : A) → o ≡ Some x → ⊥) → o ≡ None
none-else (Some x) never = absurd (never x refl)
none-else None never = refl

-- the class that is found, without the name of its own
pub by-found-bases : (depth k : ℕ) (classes : List ClassNames) (name : List ℕ) (class : ℕ) (found : ClassNames) (items : List ℕ) (own : Option NameKind)
    → depth ≡ suc k → class_at classes class ≡ found → own ≡ kind_of found.entries name → ((x : NameKind) → own ≡ Some x → ⊥) → items ≡ found.bases
    → in_class_to depth classes name class ≡ oldest (in_class_to k classes name) items
by-found-bases depth k classes name class found items own deep looked owned never based =
    by-bases depth k classes name class found deep looked (sym owned ∙ none-else own never)
    ∙ ap (oldest (in_class_to k classes name)) (sym based)

-- the class of a number, read
pub class-read : (classes : List ClassNames) (class : ℕ) (read : Option ClassNames) → read ≡ slice_get classes class → class_at classes class ≡ unwrap_or read no_class
class-read classes class read is = sym (ap (λ o. unwrap_or o no_class) is ∙ unwrap_or-slice_get classes class no_class)

-- where there is no item, none is set
pub set_missing : {A : Type 0} (xs : List A) (i : ℕ) (x : A) → None ≡ slice_get xs i → slice_set xs i x ≡ xs
set_missing [] i x none = refl
set_missing (y ∷ xs) zero x none = absurd (some-is-not-none y none)
  where
    some-is-not-none : {A : Type 0} (y : A) → None ≡ Some y → ⊥
    some-is-not-none y e = cc
set_missing (y ∷ xs) (suc i) x none = ap (λ l. y ∷ l) (set_missing xs i x none)

-- where there is no class of the number, none has the name
pub in-no-class : (depth k : ℕ) (classes : List ClassNames) (name : List ℕ) (class : ℕ) → depth ≡ suc k → class_at classes class ≡ no_class
    → None ≡ in_class_to depth classes name class
in-no-class depth k classes name class deep is =
    let P : ℕ → Type 0 = λ d. None ≡ in_class_to d classes name class in
    subst P (sym deep) (sym (ap (λ (c : ClassNames). or_else (kind_of c.entries name) (oldest (in_class_to k classes name) c.bases)) is))

-- a class with the name of its own
pub in-own : (depth k : ℕ) (classes : List ClassNames) (name : List ℕ) (class : ℕ) (found : ClassNames) (kind : NameKind)
    → depth ≡ suc k → class_at classes class ≡ found → kind_of found.entries name ≡ Some kind → Some kind ≡ in_class_to depth classes name class
in-own depth k classes name class found kind deep is own =
    let P : ℕ → Type 0 = λ d. Some kind ≡ in_class_to d classes name class in
    subst P (sym deep)
    (sym (ap (λ (c : ClassNames). or_else (kind_of c.entries name) (oldest (in_class_to k classes name) c.bases)) is
    ∙ ap (λ o. or_else o (oldest (in_class_to k classes name) found.bases)) own))
