-- The code of a type is read back, so different types have different codes.
use Rattle.std.proofs.Common.{◌≡◌, ℕ, zero, suc, ◌+◌, ◌<◌, ◌≤◌, ◌^◌, Bool, true, false, ◌==◌, ◌&&◌, nat_eq, nat_lt, if◌then◌else◌, List, [], ◌∷◌, ◌++◌, length, drop, Some, refl, sym, ap, ◌∙◌, subst, arith, append_assoc, true≢false}
use Rattle.std.specs.Prelude.{decimal, codes}
use Rattle.std.specs.List.{list_all, starts_with}
use Rattle.std.proofs.lemmas.Bool.Decides.{nat_tests}
use Rattle.cf_base.specs.declared.kind.Kind.{Kind}
use Rattle.cf_base.specs.declared.kind.Kind.TheVariants as kind
use Rattle.cf_classes.specs.LinkName.{Code, Void, Integer, Named, Pointer, Reference, Const, Array, Function, Member, Codes, none, more, code, code_all, kind_code, scope_code, counted}
use Rattle.cf_classes.specs.Entity.{is_identifier, takes_const, is_parameter, is_type, are_types}
use Rattle.cf_classes.specs.Decode.{then_read, behind, map_read, scope, type_at, function_at, types_at}
use Rattle.cf_classes.proofs.ReadNames.{and_left, and_right, name_of, by_digit, number-read, digits_of, scope-read, between}

-- how many steps are enough
abbrev mutual
  pub size : Code → ℕ
  size Void = 1
  size (Integer k) = 1
  size (Named names) = 1
  size (Pointer t) = size t + 1
  size (Reference t) = size t + 1
  size (Const t) = size t + 1
  size (Array n t) = size t + 1
  size (Function c ps r) = sizes ps + size r + 2
  size (Member names t) = size t + 1

  pub sizes : Codes → ℕ
  sizes none = 1
  sizes (more t ts) = size t + sizes ts + 1

-- the first byte of a code: no `_`, and `F` for a function type alone
pub record First (t : Code) : Type 0 where
  pub byte : ℕ
  pub rest : List ℕ
  pub is : code t ≡ byte ∷ rest
  pub no_mark : (byte == 95) ≡ false
  pub no_void : is_parameter t ≡ true → nat_eq byte 118 ≡ false
  pub no_function : takes_const t ≡ true → nat_eq 70 byte ≡ false

pub first_named : (names : List (List ℕ)) → is_type (Named names) ≡ true → First (Named names)
first_named [] h = absurd (true≢false (sym h))
first_named (n ∷ []) h =
    let d = digits_of (length n) (name_of n (and_left (is_identifier n) true h)).fits in
    record {
      byte = d.first;
      rest = d.behind ++ n;
      is = ap (λ l. l ++ n) d.is;
      no_mark = by_digit (λ b. (b == 95) ≡ false) refl refl refl refl refl refl refl refl refl refl d.first d.digit;
      no_void = λ _. by_digit (λ b. nat_eq b 118 ≡ false) refl refl refl refl refl refl refl refl refl refl d.first d.digit;
      no_function = λ _. by_digit (λ b. nat_eq 70 b ≡ false) refl refl refl refl refl refl refl refl refl refl d.first d.digit;
    }
first_named (n ∷ m ∷ ms) h = record { byte = 81; rest = _; is = refl; no_mark = refl; no_void = λ _. refl; no_function = λ _. refl }

first_integer : (k : Kind) → First (Integer k)
first_integer kind.Char = record { byte = 99; rest = []; is = refl; no_mark = refl; no_void = λ _. refl; no_function = λ _. refl }
first_integer kind.SChar = record { byte = 83; rest = 99 ∷ []; is = refl; no_mark = refl; no_void = λ _. refl; no_function = λ _. refl }
first_integer kind.UChar = record { byte = 85; rest = 99 ∷ []; is = refl; no_mark = refl; no_void = λ _. refl; no_function = λ _. refl }
first_integer kind.Short = record { byte = 115; rest = []; is = refl; no_mark = refl; no_void = λ _. refl; no_function = λ _. refl }
first_integer kind.UShort = record { byte = 85; rest = 115 ∷ []; is = refl; no_mark = refl; no_void = λ _. refl; no_function = λ _. refl }
first_integer kind.Int = record { byte = 105; rest = []; is = refl; no_mark = refl; no_void = λ _. refl; no_function = λ _. refl }
first_integer kind.UInt = record { byte = 85; rest = 105 ∷ []; is = refl; no_mark = refl; no_void = λ _. refl; no_function = λ _. refl }
first_integer kind.Long = record { byte = 108; rest = []; is = refl; no_mark = refl; no_void = λ _. refl; no_function = λ _. refl }
first_integer kind.ULong = record { byte = 85; rest = 108 ∷ []; is = refl; no_mark = refl; no_void = λ _. refl; no_function = λ _. refl }

pub first : (t : Code) → is_type t ≡ true → First t
first Void h = record { byte = 118; rest = []; is = refl; no_mark = refl; no_void = λ e. absurd (true≢false (sym e)); no_function = λ _. refl }
first (Integer k) h = first_integer k
first (Named names) h = first_named names h
first (Pointer t) h = record { byte = 80; rest = code t; is = refl; no_mark = refl; no_void = λ _. refl; no_function = λ _. refl }
first (Reference t) h = record { byte = 82; rest = code t; is = refl; no_mark = refl; no_void = λ _. refl; no_function = λ _. refl }
first (Const t) h = record { byte = 67; rest = code t; is = refl; no_mark = refl; no_void = λ _. refl; no_function = λ _. refl }
first (Array n t) h = record { byte = 65; rest = (decimal n ++ 95 ∷ []) ++ code t; is = refl; no_mark = refl; no_void = λ _. refl; no_function = λ _. refl }
first (Function true ps r) h = record { byte = 67; rest = 70 ∷ ((code_all ps ++ 95 ∷ []) ++ code r); is = refl; no_mark = refl; no_void = λ _. refl; no_function = λ _. refl }
first (Function false ps r) h = record { byte = 70; rest = (code_all ps ++ 95 ∷ []) ++ code r; is = refl; no_mark = refl; no_void = λ _. refl; no_function = λ e. absurd (true≢false (sym e)) }
first (Member names t) h = record { byte = 77; rest = scope_code names ++ code t; is = refl; no_mark = refl; no_void = λ _. refl; no_function = λ _. refl }

-- a class's code begins with a digit or `Q`, and what begins so is read as one
class_at : (n : ℕ) (names : List (List ℕ)) (r : List ℕ) → is_type (Named names) ≡ true → type_at (suc n) (scope_code names ++ r) ≡ map_read Named (scope (scope_code names ++ r))
class_at n [] r h = absurd (true≢false (sym h))
class_at n (x ∷ []) r h =
    let d = digits_of (length x) (name_of x (and_left (is_identifier x) true h)).fits in
    let at : counted x ++ r ≡ d.first ∷ ((d.behind ++ x) ++ r) = ap (λ l. (l ++ x) ++ r) d.is in
    let P : ℕ → Type 0 = λ b. type_at (suc n) (b ∷ ((d.behind ++ x) ++ r)) ≡ map_read Named (scope (b ∷ ((d.behind ++ x) ++ r))) in
    subst (λ l. type_at (suc n) l ≡ map_read Named (scope l)) (sym at) (by_digit P refl refl refl refl refl refl refl refl refl refl d.first d.digit)
class_at n (x ∷ y ∷ ys) r h = refl

-- the names of a type that is a class
pub names_read : (names : List (List ℕ)) (r : List ℕ) → is_type (Named names) ≡ true → scope (scope_code names ++ r) ≡ Some (names, r)
names_read [] r h = absurd (true≢false (sym h))
names_read (x ∷ xs) r h =
    let short = nat_lt (length (x ∷ xs)) (2 ^ 64) in
    let all = list_all is_identifier (x ∷ xs) in
    scope-read x xs r (and_left short all h) (and_right short all h)

no_function-at : (t : Code) (r : List ℕ) → is_type t ≡ true → takes_const t ≡ true → starts_with nat_eq (code t ++ r) (codes "F") ≡ false
no_function-at t r h c = let f = first t h in rw f.is (rw (f.no_function c) refl)

integer_at : (k : Kind) (n : ℕ) (r : List ℕ) → type_at (suc n) (kind_code k ++ r) ≡ Some (Integer k, r)
integer_at kind.Char n r = refl
integer_at kind.SChar n r = refl
integer_at kind.UChar n r = refl
integer_at kind.Short n r = refl
integer_at kind.UShort n r = refl
integer_at kind.Int n r = refl
integer_at kind.UInt n r = refl
integer_at kind.Long n r = refl
integer_at kind.ULong n r = refl

-- what may stand behind the types of parameters: nothing, or a `_`
pub data Ends : List ℕ → Type 0 where
  nothing : Ends []
  mark : (r : List ℕ) → Ends (95 ∷ r)

ends_at : (n : ℕ) (r : List ℕ) → Ends r → types_at (suc n) r ≡ Some (none, r)
ends_at n r nothing = refl
ends_at n r (mark s) = refl

mutual
  pub type-read : (t : Code) (n : ℕ) (r : List ℕ) → size t ≤ n → is_type t ≡ true → type_at n (code t ++ r) ≡ Some (t, r)
  type-read Void zero r w h = absurd (omega arith)
  type-read Void (suc n) r w h = refl
  type-read (Integer k) zero r w h = absurd (omega arith)
  type-read (Integer k) (suc n) r w h = integer_at k n r
  type-read (Named names) zero r w h = absurd (omega arith)
  type-read (Named names) (suc n) r w h = class_at n names r h ∙ ap (map_read Named) (names_read names r h)
  type-read (Pointer t) zero r w h = absurd (omega arith)
  type-read (Pointer t) (suc n) r w h = ap (map_read Pointer) (type-read t n r (omega arith) h)
  type-read (Reference t) zero r w h = absurd (omega arith)
  type-read (Reference t) (suc n) r w h = ap (map_read Reference) (type-read t n r (omega arith) h)
  type-read (Const t) zero r w h = absurd (omega arith)
  type-read (Const t) (suc n) r w h =
      let inner = and_right (takes_const t) (is_type t) h in
      ap (λ b. if b then function_at n true (drop 1 (code t ++ r)) else map_read Const (type_at n (code t ++ r))) (no_function-at t r inner (and_left (takes_const t) (is_type t) h))
      ∙ ap (map_read Const) (type-read t n r (omega arith) inner)
  type-read (Array k t) zero r w h = absurd (omega arith)
  type-read (Array k t) (suc n) r w h =
      let fits : k < 2 ^ 64 = let e = and_left (nat_lt k (2 ^ 32)) (is_type t) h in grind (arith, nat_tests) in
      ap (λ x. type_at (suc n) (65 ∷ x)) (between (decimal k) (code t) r)
      ∙ ap (λ o. then_read o (λ count rest. behind (codes "_") rest (λ rest. map_read (Array count) (type_at n rest)))) (number-read k fits (95 ∷ (code t ++ r)))
      ∙ ap (map_read (Array k)) (type-read t n r (omega arith) (and_right (nat_lt k (2 ^ 32)) (is_type t) h))
  type-read (Function c ps t) zero r w h = absurd (omega arith)
  type-read (Function true ps t) (suc n) r w h = ap (function_at n true) (between (code_all ps) (code t) r) ∙ function-read ps t n true r (omega arith) h
  type-read (Function false ps t) (suc n) r w h = ap (function_at n false) (between (code_all ps) (code t) r) ∙ function-read ps t n false r (omega arith) h
  type-read (Member names t) zero r w h = absurd (omega arith)
  type-read (Member names t) (suc n) r w h =
      let class = and_left (is_type (Named names)) (is_type t) h in
      ap (λ x. type_at (suc n) (77 ∷ x)) (append_assoc (scope_code names) (code t) r)
      ∙ ap (λ o. then_read o (λ names rest. map_read (Member names) (type_at n rest))) (names_read names (code t ++ r) class)
      ∙ ap (map_read (Member names)) (type-read t n r (omega arith) (and_right (is_type (Named names)) (is_type t) h))

  function-read : (ps : Codes) (t : Code) (n : ℕ) (c : Bool) (r : List ℕ) → sizes ps + size t + 1 ≤ n → (are_types ps && is_type t) ≡ true
      → function_at n c (code_all ps ++ (95 ∷ (code t ++ r))) ≡ Some (Function c ps t, r)
  function-read ps t zero c r w h = absurd (omega arith)
  function-read ps t (suc n) c r w h =
      ap (λ o. then_read o (λ params rest. behind (codes "_") rest (λ rest. map_read (Function c params) (type_at n rest))))
      (types-read ps n (95 ∷ (code t ++ r)) (mark (code t ++ r)) (omega arith) (and_left (are_types ps) (is_type t) h))
      ∙ ap (map_read (Function c ps)) (type-read t n r (omega arith) (and_right (are_types ps) (is_type t) h))

  pub types-read : (ts : Codes) (n : ℕ) (r : List ℕ) → Ends r → sizes ts ≤ n → are_types ts ≡ true → types_at n (code_all ts ++ r) ≡ Some (ts, r)
  types-read none zero r e w h = absurd (omega arith)
  types-read none (suc n) r e w h = ends_at n r e
  types-read (more t ts) zero r e w h = absurd (omega arith)
  types-read (more t ts) (suc n) r e w h =
      let one = and_left (is_type t) (are_types ts) h in
      let rest = and_right (is_type t) (are_types ts) h in
      let f = first t one in
      let text : (code t ++ code_all ts) ++ r ≡ f.byte ∷ (f.rest ++ (code_all ts ++ r)) = append_assoc (code t) (code_all ts) r ∙ ap (λ l. l ++ (code_all ts ++ r)) f.is in
      let back : f.byte ∷ (f.rest ++ (code_all ts ++ r)) ≡ code t ++ (code_all ts ++ r) = ap (λ l. l ++ (code_all ts ++ r)) (sym f.is) in
      ap (types_at (suc n)) text
      ∙ ap (λ b. if b then Some (none, f.byte ∷ (f.rest ++ (code_all ts ++ r))) else then_read (type_at n (f.byte ∷ (f.rest ++ (code_all ts ++ r)))) (λ u rest. map_read (more u) (types_at n rest))) f.no_mark
      ∙ ap (λ l. then_read (type_at n l) (λ u rest. map_read (more u) (types_at n rest))) back
      ∙ ap (λ o. then_read o (λ u rest. map_read (more u) (types_at n rest))) (type-read t n (code_all ts ++ r) (omega arith) one)
      ∙ ap (map_read (more t)) (types-read ts n r e (omega arith) rest)
