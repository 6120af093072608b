-- What is read leaves no more tokens than there were.
use Rattle.std.proofs.Common.{◌≡◌, ℕ, zero, suc, ◌<◌, ◌≤◌, Bool, true, false, cond, List, [], ◌∷◌, length, drop, Option, Some, None, nat_eq, refl, sym, ap, subst, arith, length-drop}
use Rattle.cf_tokens.specs.declared.token.Token.{Token}
use Rattle.cf_syntax.specs.declared.asked.Asked.{Asked}
use Rattle.cf_syntax.specs.declared.name.Last.{Last}
use Rattle.cf_syntax.specs.declared.name.Name.{Name}
use Rattle.cf_syntax.specs.declared.name.Path.{Path}
use Rattle.cf_syntax.specs.declared.reading.Qualifiers.{Qualifiers}
use Rattle.cf_syntax.specs.declared.reading.Specifiers.{Specifiers}
use Rattle.cf_syntax.specs.declared.specifier.BasicType.{BasicType}
use Rattle.cf_syntax.specs.declared.specifier.ClassKey.{ClassKey}
use Rattle.cf_syntax.specs.declared.specifier.Pointer.TheVariants as pointer
use Rattle.cf_syntax.specs.declared.specifier.Storage.{Storage}
use Rattle.cf_syntax.specs.declared.specifier.TypeSpecifier.{TypeSpecifier}
use Rattle.cf_syntax.specs.NamesData.{Names}
use Rattle.cf_syntax.specs.Words.{code, front, place, ident_at}
use Rattle.cf_syntax.specs.Parse.{Parse, with_rest, turn, loop, repeat, word}
use Rattle.cf_syntax.specs.Named.{type_at, qualified, qualifier, qualifiers, unqualified, last_type, type_path, before_ident, last_ident, ident_path_from, ident_path, const_behind, no_names, to_member, one_pointer, pointers}
use Rattle.cf_syntax.specs.Specified.{storage_of, basic_of, key_of, named_type, keyed_type, basic_type, storage_word, one_specifier, no_specifiers, specifiers, pair_of, operator_name, some_ident, last_part, name}
use Rattle.cf_syntax.specs.Operators.{operator_of, found, operator}
use Rattle.cf_syntax.specs.Grammar.{constant_of, taken, constant, basic_word, from_file, array_brackets}
use Rattle.cf_syntax.proofs.Good.{split-rest, some-value, some-is-not-none}

pub record Under {A : Type 0} (n : ℕ) (r : Option (A × List Token)) : Type 0 where
  pub by : (z : A × List Token) → r ≡ Some z → length z.1 ≤ n

pub under-none : {A : Type 0} (n : ℕ) → Under {A = A} n None
under-none {A = A} n = record { by = λ z e. absurd (clash z e) }
  where
    clash : (z : A × List Token) → None ≡ Some z → ⊥
    clash z q = cc

pub under-some : {A : Type 0} (n : ℕ) (x : A) (us : List Token) → length us ≤ n → Under n (Some (x, us))
under-some n x us h = record { by = λ z e. let at = ap (λ w. length w.1) (some-value (x, us) z e) in omega (arith, at) }

pub under-cond : {A : Type 0} (n : ℕ) (b : Bool) (x y : Option (A × List Token)) → Under n x → Under n y → Under n (cond b x y)
under-cond n true x y h k = h
under-cond n false x y h k = k

pub under-then : {A B : Type 0} (n : ℕ) (r : Option (A × List Token)) (f : A → Parse B) → Under n r
    → ((a : A) (us : List Token) → length us ≤ n → Under n (f a us)) → Under n (with_rest r f)
under-then n r f h k = record { by = λ z e. let s = split-rest r f z e in (k s.value s.mid (h.by (s.value, s.mid) s.first)).by z s.second }

pub under-less : {A : Type 0} (m n : ℕ) (r : Option (A × List Token)) → m ≤ n → Under m r → Under n r
under-less m n r less h = record { by = λ z e. let at = h.by z e in omega (arith, at) }

pub under-loop : {A : Type 0} (step : A → Parse A) → ((a : A) (us : List Token) → Under (length us) (step a us))
    → (n : ℕ) (k : ℕ) (a : A) (us : List Token) → length us ≤ n → Under n (loop step k a us)
under-loop step each n zero a us h = under-some n a us h
under-loop {A = A} step each n (suc k) a us h = turned (step a us) refl (under-loop step each n k)
  where
    turned : (r : Option (A × List Token)) → step a us ≡ r → ((b : A) (vs : List Token) → length vs ≤ n → Under n (loop step k b vs))
        → Under n (turn (step a us) a us (loop step k))
    turned None is ih = subst (λ r. Under n (turn r a us (loop step k))) (sym is) (under-some n a us h)
    turned (Some q) is ih = subst (λ r. Under n (turn r a us (loop step k))) (sym is)
        (let at = (each a us).by q is in ih q.0 q.1 (omega (arith, at)))

pub under-repeat : {A : Type 0} (step : A → Parse A) → ((a : A) (us : List Token) → Under (length us) (step a us))
    → (n : ℕ) (a : A) (us : List Token) → length us ≤ n → Under n (repeat step a us)
under-repeat step each n a us h = under-loop step each n (length us) a us h

dropped : (k n : ℕ) (us : List Token) → length us ≤ n → length (drop k us) ≤ n
dropped k n us h = let at = length-drop k us in omega (arith, at)

-- ---- each function of the tokens

pub under-word : (k n : ℕ) (us : List Token) → length us ≤ n → Under n (word k us)
under-word k n [] h = under-none n
under-word k n (t ∷ ts) h = under-cond n (nat_eq (code t.word) k) (Some (t.at, ts)) None (under-some n t.at ts (omega (arith, h))) (under-none n)

under-qualified : (n : ℕ) (i : Option Asked) (ident : Option (List ℕ)) (b : Bool) (q : Qualifiers) (us : List Token) → length us ≤ n
    → Under n (qualified i ident b q us)
under-qualified n None ident b q us h = under-none n
under-qualified n (Some next) None b q us h = under-none n
under-qualified n (Some next) (Some name) false q us h = under-none n
under-qualified n (Some next) (Some name) true q us h = under-some n _ us h

under-qualifier : (names : Names) (q : Qualifiers) (n : ℕ) (us : List Token) → length us ≤ n → Under n (qualifier names q us)
under-qualifier names q n us h = under-qualified n (type_at names q.asked us) (ident_at us) _ q (drop 2 us) (dropped 2 n us h)

pub under-qualifiers : (names : Names) (n : ℕ) (us : List Token) → length us ≤ n → Under n (qualifiers names us)
under-qualifiers names n us h = under-cond n _ _ _
    (under-repeat (qualifier names) (λ q vs. under-qualifier names q (length vs) vs (omega arith)) n (unqualified true) (drop 1 us) (dropped 1 n us h))
    (under-repeat (qualifier names) (λ q vs. under-qualifier names q (length vs) vs (omega arith)) n (unqualified false) us h)

under-last_type : (n at : ℕ) (q : Qualifiers) (i : Option Asked) (ident : Option (List ℕ)) (us : List Token) → length us ≤ n
    → Under n (last_type at q i ident us)
under-last_type n at q None ident us h = under-none n
under-last_type n at q (Some next) None us h = under-none n
under-last_type n at q (Some next) (Some name) us h = under-some n _ us h

pub under-type_path : (names : Names) (n : ℕ) (us : List Token) → length us ≤ n → Under n (type_path names us)
under-type_path names n us h = under-then n (qualifiers names us) _ (under-qualifiers names n us h)
    (λ q vs k. under-last_type n (place us) q (type_at names q.asked vs) (ident_at vs) (drop 1 vs) (dropped 1 n vs k))

under-before_ident : (names : Names) (q : Qualifiers) (n : ℕ) (us : List Token) → length us ≤ n → Under n (before_ident names q us)
under-before_ident names q n us h = under-then n (qualifier names q us) _ (under-qualifier names q n us h)
    (λ more vs k. under-cond n _ _ _ (under-some n more vs k) (under-none n))

under-last_ident : (n at : ℕ) (q : Qualifiers) (ident : Option (List ℕ)) (us : List Token) → length us ≤ n → Under n (last_ident at q ident us)
under-last_ident n at q None us h = under-none n
under-last_ident n at q (Some name) us h = under-some n _ us h

under-ident_path_from : (names : Names) (at : ℕ) (file : Bool) (n : ℕ) (us : List Token) → length us ≤ n → Under n (ident_path_from names at file us)
under-ident_path_from names at file n us h = under-then n (repeat (before_ident names) (unqualified file) us) _
    (under-repeat (before_ident names) (λ q vs. under-before_ident names q (length vs) vs (omega arith)) n (unqualified file) us h)
    (λ q vs k. under-last_ident n at q (ident_at vs) (drop 1 vs) (dropped 1 n vs k))

under-ident_path : (names : Names) (n : ℕ) (us : List Token) → length us ≤ n → Under n (ident_path names us)
under-ident_path names n us h = under-cond n _ _ _
    (under-ident_path_from names (place us) true n (drop 1 us) (dropped 1 n us h)) (under-ident_path_from names (place us) false n us h)

pub under-const_behind : {A : Type 0} (make : Bool → A) (n : ℕ) (us : List Token) → length us ≤ n → Under n (const_behind make us)
under-const_behind make n us h = under-cond n _ _ _ (under-some n (make true) (drop 1 us) (dropped 1 n us h)) (under-some n (make false) us h)

under-to_member : (names : Names) (n : ℕ) (us : List Token) → length us ≤ n → Under n (to_member names us)
under-to_member names n us h = under-then n (qualifiers names us) _ (under-qualifiers names n us h)
    (λ q vs k. under-cond n (no_names q.names) _ _ (under-none n)
    (under-then n (word 20 vs) _ (under-word 20 n vs k) (λ at ws j. under-const_behind (λ is_const. pointer.ToMember (place us) (record { at = place us; from_file = q.from_file; names = q.names }) is_const) n ws j)))

pub under-one_pointer : (names : Names) (n : ℕ) (us : List Token) → length us ≤ n → Under n (one_pointer names us)
under-one_pointer names n us h = under-cond n _ _ _ (under-const_behind (λ is_const. pointer.To (place us) is_const) n (drop 1 us) (dropped 1 n us h))
    (under-cond n _ _ _ (under-some n _ (drop 1 us) (dropped 1 n us h)) (under-to_member names n us h))

pub under-pointers : (names : Names) (n : ℕ) (us : List Token) → length us ≤ n → Under n (pointers names us)
under-pointers names n us h = under-repeat _ (λ before vs. under-then (length vs) (one_pointer names vs) _ (under-one_pointer names (length vs) vs (omega arith))
    (λ p ws k. under-some (length vs) _ ws k)) n [] us h

under-named_type : (names : Names) (s : Specifiers) (n : ℕ) (us : List Token) → length us ≤ n → Under n (named_type names s us)
under-named_type names s n us h = under-cond n s.has_type _ _ (under-none n)
    (under-then n (type_path names us) _ (under-type_path names n us h) (λ path vs k. under-some n _ vs k))

under-keyed_type : (names : Names) (s : Specifiers) (key : Option ClassKey) (n : ℕ) (us : List Token) → length us ≤ n → Under n (keyed_type names s key us)
under-keyed_type names s None n us h = under-named_type names s n us h
under-keyed_type names s (Some k) n us h = under-then n (ident_path names (drop 1 us)) _ (under-ident_path names n (drop 1 us) (dropped 1 n us h)) (λ path vs j. under-some n _ vs j)

under-basic_type : (names : Names) (s : Specifiers) (b : Option BasicType) (n : ℕ) (us : List Token) → length us ≤ n → Under n (basic_type names s b us)
under-basic_type names s None n us h = under-keyed_type names s (key_of (front us)) n us h
under-basic_type names s (Some b) n us h = under-some n _ (drop 1 us) (dropped 1 n us h)

under-storage_word : (names : Names) (s : Specifiers) (w : Option Storage) (n : ℕ) (us : List Token) → length us ≤ n → Under n (storage_word names s w us)
under-storage_word names s None n us h = under-cond n _ _ _ (under-some n _ (drop 1 us) (dropped 1 n us h)) (under-basic_type names s (basic_of (front us)) n us h)
under-storage_word names s (Some w) n us h = under-some n _ (drop 1 us) (dropped 1 n us h)

under-one_specifier : (names : Names) (s : Specifiers) (n : ℕ) (us : List Token) → length us ≤ n → Under n (one_specifier names s us)
under-one_specifier names s n us h = under-storage_word names s (storage_of (front us)) n us h

pub under-specifiers : (names : Names) (n : ℕ) (us : List Token) → length us ≤ n → Under n (specifiers names us)
under-specifiers names n us h = under-then n (one_specifier names no_specifiers us) _ (under-one_specifier names no_specifiers n us h)
    (λ s vs k. under-then n (repeat (one_specifier names) s vs) _
    (under-repeat (one_specifier names) (λ t ws. under-one_specifier names t (length ws) ws (omega arith)) n s vs k) (λ all ws j. under-some n _ ws j))

under-pair_of : (close number n : ℕ) (us : List Token) → length us ≤ n → Under n (pair_of close number us)
under-pair_of close number n us h = under-then n (word close (drop 1 us)) _ (under-word close n (drop 1 us) (dropped 1 n us h)) (λ at vs k. under-some n _ vs k)

under-operator_name : (names : Names) (n : ℕ) (us : List Token) → length us ≤ n → Under n (operator_name names us)
under-operator_name names n us h = under-cond n _ _ _ (under-pair_of 1 25 n us h) (under-cond n _ _ _ (under-pair_of 3 26 n us h)
    (under-cond n _ _ _ (under-then n (specifiers names us) _ (under-specifiers names n us h)
    (λ list vs k. under-then n (pointers names vs) _ (under-pointers names n vs k) (λ ps ws j. under-some n _ ws j)))
    (under-some n _ (drop 1 us) (dropped 1 n us h))))

under-some_ident : (make : List ℕ → Last) (ident : Option (List ℕ)) (n : ℕ) (us : List Token) → length us ≤ n → Under n (some_ident make ident us)
under-some_ident make None n us h = under-none n
under-some_ident make (Some name) n us h = under-some n _ us h

under-last_part : (names : Names) (n : ℕ) (us : List Token) → length us ≤ n → Under n (last_part names us)
under-last_part names n us h = under-cond n _ _ _ (under-some_ident _ (ident_at (drop 1 us)) n (drop 2 us) (dropped 2 n us h))
    (under-cond n _ _ _ (under-operator_name names n (drop 1 us) (dropped 1 n us h))
    (under-cond n _ _ _ (under-none n) (under-some_ident _ (ident_at us) n (drop 1 us) (dropped 1 n us h))))

pub under-name : (names : Names) (n : ℕ) (us : List Token) → length us ≤ n → Under n (name names us)
under-name names n us h = under-then n (qualifiers names us) _ (under-qualifiers names n us h)
    (λ q vs k. under-then n (last_part names vs) _ (under-last_part names n vs k) (λ part ws j. under-some n _ ws j))

under-taken : {A : Type 0} (o : Option A) (n : ℕ) (us : List Token) → length us ≤ n → Under n (taken o us)
under-taken None n us h = under-none n
under-taken (Some x) n us h = under-some n x us h

pub under-constant : (n : ℕ) (us : List Token) → length us ≤ n → Under n (constant us)
under-constant n [] h = under-none n
under-constant n (t ∷ ts) h = under-taken (constant_of t.at t.word) n ts (omega (arith, h))

pub under-basic_word : (n : ℕ) (us : List Token) → length us ≤ n → Under n (basic_word us)
under-basic_word n us h = under-taken _ n (drop 1 us) (dropped 1 n us h)

pub under-found : {A : Type 0} (o : Option A) (at n : ℕ) (us : List Token) → length us ≤ n → Under n (found o at us)
under-found None at n us h = under-none n
under-found (Some op) at n us h = under-some n _ us h

pub under-operator : {A : Type 0} (rows : List (ℕ × A)) (n : ℕ) (us : List Token) → length us ≤ n → Under n (operator rows us)
under-operator rows n us h = under-found (operator_of rows (front us)) (place us) n (drop 1 us) (dropped 1 n us h)

pub under-from_file : (n : ℕ) (us : List Token) → length us ≤ n → Under n (from_file us)
under-from_file n us h = under-cond n _ _ _ (under-some n true (drop 1 us) (dropped 1 n us h)) (under-some n false us h)

pub under-array_brackets : (n : ℕ) (us : List Token) → length us ≤ n → Under n (array_brackets us)
under-array_brackets n us h = under-cond n _ _ _ (under-some n true (drop 2 us) (dropped 2 n us h)) (under-some n false us h)

-- ---- a name, a type's name and a specifier take a token

under-last_part-more : (names : Names) (t : Token) (ts : List Token) → Under (length ts) (last_part names (t ∷ ts))
under-last_part-more names t ts =
    let n = length ts in
    let one : length (drop 1 ts) ≤ length ts = dropped 1 n ts (omega arith) in
    under-cond n _ _ _ (under-some_ident _ (ident_at ts) n (drop 1 ts) one)
    (under-cond n _ _ _ (under-operator_name names n ts (omega arith))
    (under-cond n _ _ _ (under-none n) (under-some_ident _ (ident_at (t ∷ ts)) n ts (omega arith))))

last-strict : (names : Names) (us : List Token) (y : Last) (rest : List Token) → last_part names us ≡ Some (y, rest) → length rest < length us
last-strict names [] y rest e = some-is-not-none None (y, rest) refl e
last-strict names (t ∷ ts) y rest e = let h = (under-last_part-more names t ts).by (y, rest) e in omega (arith, h)

pub name-strict : (names : Names) (ts : List Token) (x : Name × List ℕ) (rest : List Token) → name names ts ≡ Some (x, rest) → length rest < length ts
name-strict names ts x rest e =
    let s = split-rest (qualifiers names ts) _ (x, rest) e in
    let t = split-rest (last_part names s.mid) _ (x, rest) s.second in
    let less = (under-qualifiers names (length ts) ts (omega arith)).by (s.value, s.mid) s.first in
    let strict = last-strict names s.mid t.value t.mid t.first in
    let same = ap (λ (z : (Name × List ℕ) × List Token). length z.1) (some-value _ (x, rest) t.second) in
    omega (arith, less, strict, same)

type-strict : (at : ℕ) (q : Qualifiers) (names : Names) (us : List Token) (y : Path) (rest : List Token)
    → last_type at q (type_at names q.asked us) (ident_at us) (drop 1 us) ≡ Some (y, rest) → length rest < length us
type-strict at q names [] y rest e = some-is-not-none None (y, rest) refl e
type-strict at q names (t ∷ ts) y rest e = let h = (under-last_type (length ts) at q (type_at names q.asked (t ∷ ts)) (ident_at (t ∷ ts)) ts (omega arith)).by (y, rest) e in omega (arith, h)

type_path-strict : (names : Names) (ts : List Token) (y : Path) (rest : List Token) → type_path names ts ≡ Some (y, rest) → length rest < length ts
type_path-strict names ts y rest e =
    let s = split-rest (qualifiers names ts) _ (y, rest) e in
    let less = (under-qualifiers names (length ts) ts (omega arith)).by (s.value, s.mid) s.first in
    let strict = type-strict (place ts) s.value names s.mid y rest s.second in
    omega (arith, less, strict)

under-type_path-more : (names : Names) (t : Token) (ts : List Token) → Under (length ts) (type_path names (t ∷ ts))
under-type_path-more names t ts = record { by = λ z e. let strict = type_path-strict names (t ∷ ts) z.0 z.1 e in omega (arith, strict) }

under-key-more : (names : Names) (s : Specifiers) (key : Option ClassKey) (t : Token) (ts : List Token) → Under (length ts) (keyed_type names s key (t ∷ ts))
under-key-more names s None t ts = under-cond (length ts) s.has_type _ _ (under-none (length ts))
    (under-then (length ts) (type_path names (t ∷ ts)) _ (under-type_path-more names t ts) (λ path vs k. under-some (length ts) _ vs k))
under-key-more names s (Some k) t ts = under-then (length ts) (ident_path names ts) _ (under-ident_path names (length ts) ts (omega arith)) (λ path vs j. under-some (length ts) _ vs j)

under-basic-more : (names : Names) (s : Specifiers) (b : Option BasicType) (t : Token) (ts : List Token) → Under (length ts) (basic_type names s b (t ∷ ts))
under-basic-more names s None t ts = under-key-more names s (key_of (front (t ∷ ts))) t ts
under-basic-more names s (Some b) t ts = under-some (length ts) _ ts (omega arith)

under-storage-more : (names : Names) (s : Specifiers) (w : Option Storage) (t : Token) (ts : List Token) → Under (length ts) (storage_word names s w (t ∷ ts))
under-storage-more names s None t ts = under-cond (length ts) _ _ _ (under-some (length ts) _ ts (omega arith)) (under-basic-more names s (basic_of (front (t ∷ ts))) t ts)
under-storage-more names s (Some w) t ts = under-some (length ts) _ ts (omega arith)

specifier-strict : (names : Names) (ts : List Token) (x : Specifiers) (rest : List Token) → one_specifier names no_specifiers ts ≡ Some (x, rest) → length rest < length ts
specifier-strict names [] x rest e = some-is-not-none None (x, rest) refl e
specifier-strict names (t ∷ ts) x rest e = let h = (under-storage-more names no_specifiers (storage_of (front (t ∷ ts))) t ts).by (x, rest) e in omega (arith, h)

pub specifiers-strict : (names : Names) (ts : List Token) (x : List TypeSpecifier) (rest : List Token) → specifiers names ts ≡ Some (x, rest) → length rest < length ts
specifiers-strict names ts x rest e =
    let s = split-rest (one_specifier names no_specifiers ts) _ (x, rest) e in
    let strict = specifier-strict names ts s.value s.mid s.first in
    let t = split-rest (repeat (one_specifier names) s.value s.mid) _ (x, rest) s.second in
    let less = (under-repeat (one_specifier names) (λ q vs. under-one_specifier names q (length vs) vs (omega arith)) (length s.mid) s.value s.mid (omega arith)).by (t.value, t.mid) t.first in
    let same = ap (λ (z : List TypeSpecifier × List Token). length z.1) (some-value _ (x, rest) t.second) in
    omega (arith, less, strict, same)
