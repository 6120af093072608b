-- What a step leaves of an environment, and what an innermost scope says of the name that it declared last.
use Rattle.std.proofs.Common.{◌≡◌, ℕ, zero, suc, ◌==◌, ◌&&◌, Bool, true, false, List, [], ◌∷◌, ◌++◌, length, Option, None, Some, slice_get, nat_eq, cond, refl, sym, ap, ◌∙◌, eq-eqb, true≢false}
use Rattle.std.specs.Cmp.Lexicographic.{pointwise}
use Rattle.std.proofs.lemmas.List.{length-set}
use Rattle.cf_lookup.specs.Scope.{in_scope}
use Rattle.cf_elab.specs.Answer.{Answer, Made, Refused, Passed}
use Rattle.cf_elab.specs.Env.{Env, Entity}
use Rattle.cf_elab.specs.Names.{replaced}
use Rattle.cf_elab_env.specs.Shut as made
use Rattle.cf_elab_env.proofs.Scoped.{redeclared_is}

-- the state that an answer leaves, or else this one
pub state_of : {A : Type 0} → Env → Answer A → Env
state_of other (Made a env) = env
state_of other (Refused rule at) = other
state_of other (Passed bound most) = other

pub redeclared_count : (env next : Env) (n : ℕ) (x : Entity) → made.redeclare n x env ≡ Made tt next → length next.entities ≡ length env.entities
unfolding state_of
redeclared_count env next n x h =
    let same = sym h ∙ redeclared_is env n x in
    ap (λ a. length (state_of env a).entities) same ∙ length-set env.entities n x

both_true : (x y : Bool) → x ≡ true → y ≡ true → (x && y) ≡ true
both_true x y h k = ap (λ b. b && y) h ∙ k

same_name : (name : List ℕ) → pointwise nat_eq name name ≡ true
same_name [] = refl
same_name (x ∷ xs) = both_true (x == x) (pointwise nat_eq xs xs) (eq-eqb x x refl) (same_name xs)

-- a name that a scope does not have stands for what is declared last
pub found_last : (name : List ℕ) (n : ℕ) (scope : List (List ℕ × ℕ)) → in_scope name scope ≡ None → in_scope name (scope ++ (name, n) ∷ []) ≡ Some n
found_last name n [] h = ap (λ b. cond b (Some n) None) (same_name name)
found_last name n (x ∷ xs) h = by (pointwise nat_eq name x.0) h (λ k. found_last name n xs k)
  where
    by : (b : Bool) → cond b (Some x.1) (in_scope name xs) ≡ None → (in_scope name xs ≡ None → in_scope name (xs ++ (name, n) ∷ []) ≡ Some n)
        → cond b (Some x.1) (in_scope name (xs ++ (name, n) ∷ [])) ≡ Some n
    by true k rest = cc
    by false k rest = rest k

-- an item in its own place
pub replaced_same : {A : Type 0} (xs : List A) (n : ℕ) (x : A) → slice_get xs n ≡ Some x → replaced n x xs ≡ xs
replaced_same [] n x h = refl
replaced_same (y ∷ ys) zero x h = let same : y ≡ x = cc in ap (λ x. x ∷ ys) (sym same)
replaced_same (y ∷ ys) (suc n) x h = ap (λ l. y ∷ l) (replaced_same ys n x h)
