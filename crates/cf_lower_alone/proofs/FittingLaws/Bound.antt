-- What names stand for behind the variables and functions of a program.
use Rattle.std.proofs.Common.{◌≡◌, ℕ, suc, ◌+◌, Bool, true, false, ◌||◌, cond, List, [], ◌∷◌, ◌++◌, length, slice_get, refl, ap, sym, ◌∙◌, arith}
use Rattle.std.specs.Prelude.{Option, Some, bytes_eq}
use Rattle.std.specs.List.{list_any}
use Rattle.cf_base.proofs.Tests.{same_bytes}
use Rattle.cc_whole.specs.declared.unit.CVariable.{CVariable}
use Rattle.cc_whole_mean.specs.declared.named.Named.{Named}
use Rattle.cc_whole_mean.specs.declared.named.Named.TheVariants as meant
use Rattle.cc_whole_mean.specs.Types.{variable_shape}
use Rattle.cc_whole_mean.specs.Scope.{Scope, bind, bind_variables, bind_functions}

abbrev Names : Type 0
Names = List (List ℕ)

neither-left : (a b : Bool) → (a || b) ≡ false → a ≡ false
neither-left true b e = e
neither-left false b e = refl

neither-right : (a b : Bool) → (a || b) ≡ false → b ≡ false
neither-right true b e = absurd (cc)
neither-right false b e = e

-- ---- functions

-- a name that is none of these stands for what it did
pub unbound-functions : (ns : Names) (i : ℕ) (scope : Scope) (name : List ℕ) → list_any (bytes_eq name) ns ≡ false → bind_functions ns i scope name ≡ scope name
unbound-functions [] i scope name e = refl
unbound-functions (n ∷ ns) i scope name e =
    unbound-functions ns (suc i) (bind n (meant.Function i) scope) name (neither-right (bytes_eq name n) (list_any (bytes_eq name) ns) e)
    ∙ ap (λ b. cond b (Some (meant.Function i)) (scope name)) (neither-left (bytes_eq name n) (list_any (bytes_eq name) ns) e)

-- the number of a name
pub record Numbered (ns : Names) (i : ℕ) (x : Option Named) (name : List ℕ) : Type 0 where
  pub place : ℕ
  pub is : x ≡ Some (meant.Function (i + place))
  pub at : slice_get ns place ≡ Some name

pub bound-functions : (ns : Names) (i : ℕ) (scope : Scope) (name : List ℕ) → list_any (bytes_eq name) ns ≡ true → Numbered ns i (bind_functions ns i scope name) name
bound-functions [] i scope name e = absurd (cc)
bound-functions (n ∷ ns) i scope name e = go (list_any (bytes_eq name) ns) refl (λ k. bound-functions ns (suc i) (bind n (meant.Function i) scope) name k) e
  where
    or-first : (a : Bool) → (a || false) ≡ true → a ≡ true
    or-first true k = refl
    or-first false k = k

    go : (b : Bool) → list_any (bytes_eq name) ns ≡ b → (list_any (bytes_eq name) ns ≡ true → Numbered ns (suc i) (bind_functions ns (suc i) (bind n (meant.Function i) scope) name) name) → (bytes_eq name n || b) ≡ true
        → Numbered (n ∷ ns) i (bind_functions ns (suc i) (bind n (meant.Function i) scope) name) name
    go true is again k =
        let rest = again is in
        record {
          place = suc rest.place;
          is = rest.is ∙ ap (λ (m : ℕ). Some (meant.Function m)) (let s : suc i + rest.place ≡ i + suc rest.place = omega arith in s);
          at = rest.at;
        }
    go false is again k =
        let here : bytes_eq name n ≡ true = or-first (bytes_eq name n) k in
        record {
          place = 0;
          is = unbound-functions ns (suc i) (bind n (meant.Function i) scope) name is ∙ ap (λ b. cond b (Some (meant.Function i)) (scope name)) here
              ∙ ap (λ (m : ℕ). Some (meant.Function m)) (let s : i ≡ i + 0 = omega arith in s);
          at = ap (λ (y : List ℕ). Some y) (sym (same_bytes name n here));
        }

pub functions-after : (xs ys : Names) (i : ℕ) (scope : Scope) → bind_functions (xs ++ ys) i scope ≡ bind_functions ys (i + length xs) (bind_functions xs i scope)
functions-after [] ys i scope = ap (λ (j : ℕ). bind_functions ys j scope) (let s : i ≡ i + 0 = omega arith in s)
functions-after (x ∷ xs) ys i scope =
    functions-after xs ys (suc i) (bind x (meant.Function i) scope)
    ∙ ap (λ (j : ℕ). bind_functions ys j (bind_functions xs (suc i) (bind x (meant.Function i) scope)))
    (let s : suc i + length xs ≡ i + suc (length xs) = omega arith in s)

-- ---- variables

pub unbound-variables : (vs : List CVariable) (b : ℕ) (scope : Scope) (name : List ℕ) → list_any (λ (v : CVariable). bytes_eq name v.name) vs ≡ false
    → bind_variables vs b scope name ≡ scope name
unbound-variables [] b scope name e = refl
unbound-variables (v ∷ vs) b scope name e =
    unbound-variables vs (suc b) (bind v.name (meant.Variable b (variable_shape v.ty)) scope) name
    (neither-right (bytes_eq name v.name) (list_any (λ (v : CVariable). bytes_eq name v.name) vs) e)
    ∙ ap (λ c. cond c (Some (meant.Variable b (variable_shape v.ty))) (scope name))
    (neither-left (bytes_eq name v.name) (list_any (λ (v : CVariable). bytes_eq name v.name) vs) e)

-- the block of a name
pub record Blocked (vs : List CVariable) (b : ℕ) (x : Option Named) (name : List ℕ) : Type 0 where
  pub place : ℕ
  pub one : CVariable
  pub is : x ≡ Some (meant.Variable (b + place) (variable_shape one.ty))
  pub at : slice_get vs place ≡ Some one
  pub named : one.name ≡ name

pub bound-variables : (vs : List CVariable) (b : ℕ) (scope : Scope) (name : List ℕ) → list_any (λ (v : CVariable). bytes_eq name v.name) vs ≡ true
    → Blocked vs b (bind_variables vs b scope name) name
bound-variables [] b scope name e = absurd (cc)
bound-variables (v ∷ vs) b scope name e =
    go (list_any (λ (v : CVariable). bytes_eq name v.name) vs) refl
    (λ k. bound-variables vs (suc b) (bind v.name (meant.Variable b (variable_shape v.ty)) scope) name k) e
  where
    or-first : (a : Bool) → (a || false) ≡ true → a ≡ true
    or-first true k = refl
    or-first false k = k

    go : (c : Bool) → list_any (λ (v : CVariable). bytes_eq name v.name) vs ≡ c
        → (list_any (λ (v : CVariable). bytes_eq name v.name) vs ≡ true → Blocked vs (suc b) (bind_variables vs (suc b) (bind v.name (meant.Variable b (variable_shape v.ty)) scope) name) name) → (bytes_eq name v.name || c) ≡ true
        → Blocked (v ∷ vs) b (bind_variables vs (suc b) (bind v.name (meant.Variable b (variable_shape v.ty)) scope) name) name
    go true is again k =
        let rest = again is in
        record {
          place = suc rest.place;
          one = rest.one;
          is = rest.is ∙ ap (λ (m : ℕ). Some (meant.Variable m (variable_shape rest.one.ty))) (let s : suc b + rest.place ≡ b + suc rest.place = omega arith in s);
          at = rest.at;
          named = rest.named;
        }
    go false is again k =
        let here : bytes_eq name v.name ≡ true = or-first (bytes_eq name v.name) k in
        record {
          place = 0;
          one = v;
          is = unbound-variables vs (suc b) (bind v.name (meant.Variable b (variable_shape v.ty)) scope) name is
              ∙ ap (λ c. cond c (Some (meant.Variable b (variable_shape v.ty))) (scope name)) here
              ∙ ap (λ (m : ℕ). Some (meant.Variable m (variable_shape v.ty))) (let s : b ≡ b + 0 = omega arith in s);
          at = refl;
          named = sym (same_bytes name v.name here);
        }
