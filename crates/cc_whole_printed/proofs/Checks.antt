-- What checks that hold say of their parts.
use Rattle.std.proofs.Common.{◌≡◌, ℕ, Bool, true, false, List, [], ◌∷◌, ◌++◌, Option, Some, None, Result, Ok, Err, map, find, option_map, refl, ap, subst, sym, ◌∙◌}
use Rattle.std.specs.Prelude.{is_some, bytes_eq, if◌then◌else◌}
use Rattle.std.specs.List.{list_all}
use Rattle.std.proofs.lemmas.Bool.{and_parts, and_from}
use Rattle.std.proofs.lemmas.List.Folds.{list_all-append}
use Rattle.cf_base.proofs.Tests.{same_bytes}
use Rattle.cc_whole_tokens.specs.Token.{is_name}
use Rattle.cc_whole.specs.declared.statement.CLocal.{CLocal}
use Rattle.cc_whole.specs.declared.unit.CParameter.{CParameter}
use Rattle.cc_whole.specs.Fault.{Fault, Checked, Checks, fine, broken, holds, moved, checked_then, ◌before◌}
use Rattle.cc_whole.specs.Known.{Meant, Named, lookup, parameters_named, locals_named}
use Rattle.cc_whole.specs.Spellable.{good_locals}

-- ---- checks

pub holds_is : (b : Bool) (rule place : ℕ) (u : Unit {0}) → holds b rule place ≡ Ok u → b ≡ true
holds_is true rule place u h = refl
holds_is false rule place u h = cc

pub moved_is : {A : Type 0} (n : ℕ) (c : Checked A) (a : A) → moved n c ≡ Ok a → c ≡ Ok a
moved_is n (Ok b) a h = h
moved_is n (Err f) a h = cc

pub before_first : {A : Type 0} (c : Checks) (next : Checked A) (a : A) → (c before next) ≡ Ok a → c ≡ Ok tt
before_first (Ok u) next a h = refl
before_first (Err f) next a h = cc

pub before_next : {A : Type 0} (c : Checks) (next : Checked A) (a : A) → (c before next) ≡ Ok a → next ≡ Ok a
before_next (Ok u) next a h = h
before_next (Err f) next a h = cc

-- a check, and what it found
pub record Found (A : Type 0) (B : Type 0) (c : Checked A) (next : A → Checked B) (b : B) : Type 0 where
  pub value : A
  pub first : c ≡ Ok value
  pub then_ : next value ≡ Ok b

pub then_is : {A B : Type 0} (c : Checked A) (next : A → Checked B) (b : B) → checked_then c next ≡ Ok b → Found A B c next b
then_is (Ok a) next b h = record { value = a; first = refl; then_ = h }
then_is (Err f) next b h = cc

-- ---- names in scope

-- they are names
abbrev pub good_names : List Named → Bool
good_names names = list_all (λ (x : Named). is_name x.name) names

found_good : (b : Bool) (x : Named) (rest : List Named) (name : List ℕ) → bytes_eq x.name name ≡ b → is_name x.name ≡ true
    → (is_some (option_map (λ (x : Named). x.meant) (find (λ (x : Named). bytes_eq x.name name) rest)) ≡ true → is_name name ≡ true)
    → is_some (lookup (x ∷ rest) name) ≡ true → is_name name ≡ true
found_good true x rest name is good other h = subst (λ n. is_name n ≡ true) (same_bytes x.name name is) good
found_good false x rest name is good other h =
    other (subst (λ (b : Bool). is_some (option_map (λ (x : Named). x.meant) (if b then Some x else find (λ (x : Named). bytes_eq x.name name) rest)) ≡ true) is h)

pub lookup_good : (names : List Named) (name : List ℕ) → good_names names ≡ true → is_some (lookup names name) ≡ true → is_name name ≡ true
lookup_good [] name good h = cc
lookup_good (x ∷ rest) name good h =
    let parts = and_parts (is_name x.name) (good_names rest) good in
    found_good (bytes_eq x.name name) x rest name refl parts.0 (lookup_good rest name parts.1) h

pub good_append : (xs ys : List Named) → good_names xs ≡ true → good_names ys ≡ true → good_names (xs ++ ys) ≡ true
good_append xs ys hx hy = list_all-append (λ (x : Named). is_name x.name) xs ys ∙ and_from (good_names xs) (good_names ys) hx hy

pub good_parameters : (ps : List CParameter) → list_all (λ (x : CParameter). is_name x.name) ps ≡ true → good_names (parameters_named ps) ≡ true
good_parameters [] h = refl
good_parameters (p ∷ ps) h =
    let parts = and_parts (is_name p.name) (list_all (λ (x : CParameter). is_name x.name) ps) h in
    and_from (is_name p.name) (good_names (parameters_named ps)) parts.0 (good_parameters ps parts.1)

pub good_locals_named : (xs : List CLocal) → good_locals xs ≡ true → good_names (locals_named xs) ≡ true
good_locals_named [] h = refl
good_locals_named (x ∷ xs) h =
    let parts = and_parts (is_name x.name) (good_locals xs) h in
    and_from (is_name x.name) (good_names (locals_named xs)) parts.0 (good_locals_named xs parts.1)
