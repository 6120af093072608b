-- The entity of a link name is read back, so different entities have different link names.
use Rattle.std.proofs.Common.{◌≡◌, ℕ, ◌+◌, ◌<◌, ◌≤◌, ◌^◌, Bool, true, false, not, ◌&&◌, ◌||◌, nat_eq, nat_lt, if◌then◌else◌, List, [], ◌∷◌, ◌++◌, length, drop, Option, None, Some, refl, sym, ap, ◌∙◌, subst, arith, append_assoc, append-nil, true≢false}
use Rattle.std.specs.Prelude.{codes}
use Rattle.std.specs.List.{list_any, starts_with}
use Rattle.std.specs.Option.{option_map}
use Rattle.std.specs.Cmp.Lexicographic.{pointwise}
use Rattle.std.proofs.lemmas.Bool.Decides.{nat_tests}
use Rattle.cf_tokens.specs.Name.{has_double}
use Rattle.cf_classes.specs.LinkName.{Code, Codes, none, more, code, code_all, Called, Main, Variable, Plain, Operator, Constructor, Destructor, Conversion, Entity, link_name, operator_codes, item, parameters, scope_code, known_names, Named}
use Rattle.cf_classes.specs.Entity.{is_identifier, is_type, are_types, is_parameter, are_parameters, is_well_formed, nonempty, are_names, no_parameters, fits, same}
use Rattle.cf_classes.specs.Decode.{whole, entity, parameters_at, function_behind, in_scope, special, static_member, global, named, is_mark, with_front, cut, called, special_called, prefixed_cut, conversion, entity_cut, entity_at, types_at, type_at, scope}
use Rattle.cf_classes.proofs.Operators.{operator_code}
use Rattle.cf_classes.proofs.ReadNames.{and_left, and_right, by_digit, digits_of, name_of}
use Rattle.cf_classes.proofs.OneCode.{first, names_read, size, sizes, type-read, types-read, nothing}

or_left : (a b : Bool) → (a || b) ≡ false → a ≡ false
or_left true b h = h
or_left false b h = refl

or_right : (a b : Bool) → (a || b) ≡ false → b ≡ false
or_right true b h = absurd (true≢false h)
or_right false b h = h

and_false : (a : Bool) → (a && false) ≡ false
and_false true = refl
and_false false = refl

-- a name without `__` is cut off before a `__` that no third `_` follows
cut-name : (n : List ℕ) (c : ℕ) (r : List ℕ) → has_double n ≡ false → nat_eq 95 c ≡ false → cut (n ++ (95 ∷ 95 ∷ c ∷ r)) ≡ Some (n, c ∷ r)
cut-name [] c r h e = rw e refl
cut-name (b ∷ []) c r h e =
    ap (λ x. if x then Some ([], 95 ∷ c ∷ r) else with_front b (cut (95 ∷ 95 ∷ c ∷ r))) (and_false (starts_with nat_eq (b ∷ 95 ∷ 95 ∷ c ∷ r) (codes "__"))) ∙ ap (with_front b) (cut-name [] c r refl e)
cut-name (b ∷ d ∷ ns) c r h e =
    let mark = starts_with nat_eq (b ∷ d ∷ ns) (codes "__") in
    ap (λ x. if x && not (starts_with nat_eq (ns ++ (95 ∷ 95 ∷ c ∷ r)) (codes "_")) then Some ([], ns ++ (95 ∷ 95 ∷ c ∷ r)) else with_front b (cut (d ∷ (ns ++ (95 ∷ 95 ∷ c ∷ r)))))
    (or_left mark (has_double (d ∷ ns)) h)
    ∙ ap (with_front b) (cut-name (d ∷ ns) c r (or_right mark (has_double (d ∷ ns)) h) e)

-- and there is no such place in the name itself
cut-none : (n : List ℕ) → has_double n ≡ false → cut n ≡ None
cut-none [] h = refl
cut-none (b ∷ bs) h =
    let mark = starts_with nat_eq (b ∷ bs) (codes "__") in
    ap (λ x. if x && not (starts_with nat_eq (drop 2 (b ∷ bs)) (codes "_")) then Some ([], drop 1 bs) else with_front b (cut bs)) (or_left mark (has_double bs) h)
    ∙ ap (with_front b) (cut-none bs (or_right mark (has_double bs) h))

-- of an identifier
record Ident (name : List ℕ) : Type 0 where
  byte : ℕ
  rest : List ℕ
  is : name ≡ byte ∷ rest
  no_double : has_double name ≡ false

not_true : (b : Bool) → not b ≡ true → b ≡ false
not_true true h = absurd (true≢false (sym h))
not_true false h = refl

ident : (name : List ℕ) → is_identifier name ≡ true → Ident name
ident [] h = absurd (true≢false (sym h))
ident (b ∷ bs) h = record { byte = b; rest = bs; is = refl; no_double = not_true (has_double (b ∷ bs)) (and_right _ _ (and_left _ _ h)) }

-- a function's text, piece by piece
pieces : (n m s c t f p : List ℕ) → (((((n ++ m) ++ s) ++ c) ++ t) ++ f) ++ p ≡ n ++ (m ++ (s ++ (c ++ (t ++ (f ++ p)))))
pieces n m s c t f p =
    append_assoc ((((n ++ m) ++ s) ++ c) ++ t) f p ∙ append_assoc (((n ++ m) ++ s) ++ c) t (f ++ p) ∙ append_assoc ((n ++ m) ++ s) c (t ++ (f ++ p))
    ∙ append_assoc (n ++ m) s (c ++ (t ++ (f ++ p))) ∙ append_assoc n m (s ++ (c ++ (t ++ (f ++ p))))

-- C where it is const, S where it is static
abbrev flag : Bool → List ℕ → List ℕ
flag true mark = mark
flag false mark = []

abbrev behind_scope : Bool → Bool → Codes → List ℕ
behind_scope c s ps = (if c then codes "C" else []) ++ ((if s then codes "S" else []) ++ (70 ∷ parameters ps))

-- parameters are read back
pub types_of : (ps : Codes) → are_parameters ps ≡ true → are_types ps ≡ true
types_of none h = refl
types_of (more t ts) h =
    let front = and_left _ (are_parameters ts) h in
    let one : is_type t ≡ true = and_right (is_parameter t) (is_type t) front in
    rw one (types_of ts (and_right (is_parameter t && is_type t) (are_parameters ts) h))

parameters-read : (ps : Codes) (n : ℕ) → are_parameters ps ≡ true → sizes ps ≤ n → parameters_at n (parameters ps) ≡ Some ps
parameters-read none n h w = refl
parameters-read (more t ts) n h w =
    let front = and_left (is_parameter t && is_type t) (are_parameters ts) h in
    let f = first t (and_right (is_parameter t) (is_type t) front) in
    let text = code_all (more t ts) in
    let at : text ≡ f.byte ∷ (f.rest ++ code_all ts) = ap (λ l. l ++ code_all ts) f.is in
    let no_v : pointwise nat_eq text (codes "v") ≡ false = rw at (rw (f.no_void (and_left (is_parameter t) (is_type t) front)) refl) in
    let read : types_at n text ≡ Some (more t ts, []) = ap (types_at n) (sym (append-nil text)) ∙ types-read (more t ts) n [] nothing w (types_of (more t ts) h) in
    ap (λ b. if b then Some none else whole (types_at n text)) no_v ∙ ap whole read

abbrev wanted : List (List ℕ) → Called → Bool → Bool → Codes → Option Entity
wanted names what c s ps = Some (entity names what c s ps)

function-read : (n : ℕ) (names : List (List ℕ)) (what : Called) (c s : Bool) (ps : Codes) → (c && s) ≡ false → are_parameters ps ≡ true → sizes ps ≤ n
    → function_behind n names what (behind_scope c s ps) ≡ wanted names what c s ps
function-read n names what true true ps e h w = absurd (true≢false e)
function-read n names what true false ps e h w = ap (option_map (entity names what true false)) (parameters-read ps n h w)
function-read n names what false true ps e h w = ap (option_map (entity names what false true)) (parameters-read ps n h w)
function-read n names what false false ps e h w = ap (option_map (entity names what false false)) (parameters-read ps n h w)

-- the names of the classes around an entity
record Scope (names : List (List ℕ)) : Type 0 where
  short : nat_lt (length names) (2 ^ 64) ≡ true
  all : are_names names ≡ true

abbrev class_type : List ℕ → List (List ℕ) → Code
class_type x xs = Named (x ∷ xs)

is_class : (x : List ℕ) (xs : List (List ℕ)) → Scope (x ∷ xs) → is_type (class_type x xs) ≡ true
is_class x xs h = let short = h.short in rw short h.all

-- what stands behind the `__` of a function: no `_`, and no `g` alone
record Behind (text : List ℕ) : Type 0 where
  byte : ℕ
  rest : List ℕ
  is : text ≡ byte ∷ rest
  no_mark : nat_eq 95 byte ≡ false
  no_g : nat_eq byte 103 ≡ false

behind_class : (x : List ℕ) (xs : List (List ℕ)) (r : List ℕ) → Scope (x ∷ xs) → Behind (scope_code (x ∷ xs) ++ r)
behind_class x [] r h =
    let d = digits_of (length x) (name_of x (and_left (is_identifier x) true h.all)).fits in
    record {
      byte = d.first;
      rest = (d.behind ++ x) ++ r;
      is = ap (λ l. (l ++ x) ++ r) d.is;
      no_mark = by_digit (λ b. nat_eq 95 b ≡ false) refl refl refl refl refl refl refl refl refl refl d.first d.digit;
      no_g = by_digit (λ b. nat_eq b 103 ≡ false) refl refl refl refl refl refl refl refl refl refl d.first d.digit;
    }
behind_class x (y ∷ ys) r h = record { byte = 81; rest = _; is = refl; no_mark = refl; no_g = refl }

behind_none : (c s : Bool) (ps : Codes) → Behind (behind_scope c s ps)
behind_none true s ps = record { byte = 67; rest = _; is = refl; no_mark = refl; no_g = refl }
behind_none false true ps = record { byte = 83; rest = _; is = refl; no_mark = refl; no_g = refl }
behind_none false false ps = record { byte = 70; rest = _; is = refl; no_mark = refl; no_g = refl }

behind_name : (names : List (List ℕ)) (c s : Bool) (ps : Codes) → Scope names → Behind (scope_code names ++ behind_scope c s ps)
behind_name [] c s ps h = behind_none c s ps
behind_name (x ∷ xs) c s ps h = behind_class x xs (behind_scope c s ps) h

-- behind a class the rest is a function, and never empty
after_class : (n : ℕ) (object : List (List ℕ) → Option Entity) (names : List (List ℕ)) (what : Called) (c s : Bool) (ps : Codes) (text : List ℕ)
    → in_scope n object what (Some (names, behind_scope c s ps)) text ≡ function_behind n names what (behind_scope c s ps)
after_class n object names what true s ps text = refl
after_class n object names what false true ps text = refl
after_class n object names what false false ps text = refl

no_class : (n : ℕ) (object : List (List ℕ) → Option Entity) (what : Called) (c s : Bool) (ps : Codes)
    → in_scope n object what (scope (behind_scope c s ps)) (behind_scope c s ps) ≡ function_behind n [] what (behind_scope c s ps)
no_class n object what true s ps = refl
no_class n object what false true ps = refl
no_class n object what false false ps = refl

-- what a function of a scope is read as
in_scope-read : (n : ℕ) (object : List (List ℕ) → Option Entity) (names : List (List ℕ)) (what : Called) (c s : Bool) (ps : Codes) → Scope names → (c && s) ≡ false → are_parameters ps ≡ true → sizes ps ≤ n
    → let text = scope_code names ++ behind_scope c s ps in in_scope n object what (scope text) text ≡ wanted names what c s ps
in_scope-read n object [] what c s ps sc e h w = no_class n object what c s ps ∙ function-read n [] what c s ps e h w
in_scope-read n object (x ∷ xs) what c s ps sc e h w =
    let text = scope_code (x ∷ xs) ++ behind_scope c s ps in
    ap (λ o. in_scope n object what o text) (names_read (x ∷ xs) (behind_scope c s ps) (is_class x xs sc))
    ∙ after_class n object (x ∷ xs) what c s ps text
    ∙ function-read n (x ∷ xs) what c s ps e h w

-- Kinds of entities.

-- a name, a mark, and what stands behind it
mark-read : (n : ℕ) (name text : List ℕ) → Ident name → Behind text → entity_at n (name ++ (95 ∷ 95 ∷ text)) ≡ in_scope n (static_member name) (Plain name) (scope text) text
mark-read n name text i b =
    let whole_text = name ++ (95 ∷ 95 ∷ text) in
    let cut_here : cut whole_text ≡ Some (name, text) = subst (λ t. cut (name ++ (95 ∷ 95 ∷ t)) ≡ Some (name, t)) (sym b.is) (cut-name name b.byte b.rest i.no_double b.no_mark) in
    let no_g : pointwise nat_eq text (codes "g") ≡ false = rw b.is (rw b.no_g refl) in
    let by_name : entity_cut n whole_text (Some (name, text)) ≡ named n name text =
    subst (λ m. entity_cut n whole_text (Some (m, text)) ≡ named n m text) (sym i.is) refl in
    ap (entity_cut n whole_text) cut_here ∙ by_name
    ∙ ap (λ x. if x then Some (global name) else in_scope n (static_member name) (Plain name) (scope text) text) no_g

main-read : (n : ℕ) → entity_at n (codes "__main") ≡ Some (entity [] Main false false none)
main-read n = refl

global-read : (n : ℕ) (name : List ℕ) → is_identifier name ≡ true → entity_at n (link_name (global name)) ≡ Some (global name)
global-read n name h = by (list_any (pointwise nat_eq name) known_names) refl
  where
    by : (b : Bool) → list_any (pointwise nat_eq name) known_names ≡ b → entity_at n (if b then name ++ codes "__g" else name) ≡ Some (global name)
    by true e =
        let i = ident name h in
        ap (entity_cut n (name ++ codes "__g")) (cut-name name 103 [] i.no_double refl)
        ∙ subst (λ m. entity_cut n (name ++ codes "__g") (Some (m, codes "g")) ≡ Some (global m)) (sym i.is) refl
    by false e = ap (entity_cut n name) (cut-none name (ident name h).no_double)

static-read : (n : ℕ) (name x : List ℕ) (xs : List (List ℕ)) → is_identifier name ≡ true → Scope (x ∷ xs) → let e = entity (x ∷ xs) (Variable name) false true none in entity_at n (link_name e) ≡ Some e
static-read n name x xs h sc =
    let text = scope_code (x ∷ xs) in
    let b : Behind text = subst Behind (append-nil text) (behind_class x xs [] sc) in
    let read : scope text ≡ Some (x ∷ xs, []) = ap scope (sym (append-nil text)) ∙ names_read (x ∷ xs) [] (is_class x xs sc) in
    ap (entity_at n) (append_assoc name (codes "__") text) ∙ mark-read n name text (ident name h) b
    ∙ ap (λ o. in_scope n (static_member name) (Plain name) o text) read

-- a function, with what is read as its name
module _ (n : ℕ) (names : List (List ℕ)) (c s : Bool) (ps : Codes) (sc : Scope names) (flags : (c && s) ≡ false) (params : are_parameters ps ≡ true) (enough : sizes ps ≤ n) where
  abbrev rest : List ℕ
  rest = scope_code names ++ behind_scope c s ps

  abbrev made : Called → Entity
  made what = entity names what c s ps

  text-of : (name : List ℕ) → (((((name ++ codes "__") ++ scope_code names) ++ (if c then codes "C" else [])) ++ (if s then codes "S" else [])) ++ codes "F") ++ parameters ps ≡ name ++ (95 ∷ 95 ∷ rest)
  text-of name = pieces name (codes "__") (scope_code names) (if c then codes "C" else []) (if s then codes "S" else []) (codes "F") (parameters ps)

  special-read : (what : Called) → special n what rest ≡ Some (made what)
  special-read what = in_scope-read n (λ names. None) names what c s ps sc flags params enough

  plain-read : (name : List ℕ) → is_identifier name ≡ true → entity_at n (link_name (made (Plain name))) ≡ Some (made (Plain name))
  plain-read name h =
      ap (entity_at n) (text-of name) ∙ mark-read n name rest (ident name h) (behind_name names c s ps sc)
      ∙ in_scope-read n (static_member name) names (Plain name) c s ps sc flags params enough

  -- a code of two letters or more between marks
  coded-read : (code : List ℕ) (what : Called) → is_mark (95 ∷ 95 ∷ (code ++ (95 ∷ 95 ∷ rest))) ≡ true → starts_with nat_eq (code ++ (95 ∷ 95 ∷ rest)) (codes "op") ≡ false → has_double code ≡ false → called code ≡ Some what
      → entity_at n ((95 ∷ 95 ∷ code) ++ (95 ∷ 95 ∷ rest)) ≡ Some (made what)
  coded-read code what mark no_op no_double is =
      let b = behind_name names c s ps sc in
      let text = code ++ (95 ∷ 95 ∷ rest) in
      let cut_here : cut text ≡ Some (code, rest) = subst (λ t. cut (code ++ (95 ∷ 95 ∷ t)) ≡ Some (code, t)) (sym b.is) (cut-name code b.byte b.rest no_double b.no_mark) in
      ap (λ x. entity_cut n (95 ∷ 95 ∷ text) (if x then Some ([], text) else with_front 95 (cut (95 ∷ text)))) mark
      ∙ ap (λ x. if x then conversion n (type_at n (drop 2 text)) else prefixed_cut n text (cut text)) no_op
      ∙ ap (prefixed_cut n text) cut_here
      ∙ ap (λ o. special_called n o rest) is
      ∙ special-read what

  constructor-read : entity_at n (link_name (made Constructor)) ≡ Some (made Constructor)
  constructor-read = ap (entity_at n) (text-of (codes "__ct")) ∙ coded-read (codes "ct") Constructor refl refl refl refl

  destructor-read : entity_at n (link_name (made Destructor)) ≡ Some (made Destructor)
  destructor-read = ap (entity_at n) (text-of (codes "__dt")) ∙ coded-read (codes "dt") Destructor refl refl refl refl

  operator-read : (i : ℕ) → i < 38 → entity_at n (link_name (made (Operator i))) ≡ Some (made (Operator i))
  operator-read i h =
      let o = operator_code i h in
      let code = item operator_codes i in
      ap (entity_at n) (text-of (codes "__" ++ code)) ∙ coded-read code (Operator i) (o.mark (95 ∷ 95 ∷ rest)) (o.no_conversion (95 ∷ 95 ∷ rest)) o.no_double o.is

  conversion-read : (t : Code) → is_type t ≡ true → size t ≤ n → entity_at n (link_name (made (Conversion t))) ≡ Some (made (Conversion t))
  conversion-read t h w =
      ap (entity_at n) (text-of (codes "__op" ++ code t))
      ∙ ap (conversion n) (type-read t n (95 ∷ 95 ∷ rest) w h)
      ∙ special-read (Conversion t)

-- how many steps are enough
abbrev pub called_size : Called → ℕ
called_size (Conversion t) = size t
called_size other = 0

abbrev pub entity_size : Entity → ℕ
entity_size e = called_size e.what + sizes e.params

pub no_parameters_is : (ps : Codes) → no_parameters ps ≡ true → ps ≡ none
no_parameters_is none h = refl
no_parameters_is (more t ts) h = absurd (true≢false (sym h))

same_is : (a b : Bool) → same a b ≡ true → a ≡ b
same_is true true h = refl
same_is true false h = absurd (true≢false (sym h))
same_is false true h = absurd (true≢false (sym h))
same_is false false h = refl

variable-read : (n : ℕ) (name : List ℕ) (names : List (List ℕ)) → is_identifier name ≡ true → Scope names
    → let e = entity names (Variable name) false (nonempty names) none in entity_at n (link_name e) ≡ Some e
variable-read n name [] h sc = global-read n name h
variable-read n name (x ∷ xs) h sc = static-read n name x xs h sc

-- what a variable and `main` have is fixed
fixed_variable : (n : ℕ) (name : List ℕ) (names : List (List ℕ)) (c s : Bool) (ps : Codes) → c ≡ false → s ≡ nonempty names → ps ≡ none → is_identifier name ≡ true → Scope names
    → let e = entity names (Variable name) c s ps in entity_at n (link_name e) ≡ Some e
fixed_variable n name names c s ps ec es ep h sc =
    subst (λ b. let e = entity names (Variable name) b s ps in entity_at n (link_name e) ≡ Some e) (sym ec)
    (subst (λ b. let e = entity names (Variable name) false b ps in entity_at n (link_name e) ≡ Some e) (sym es)
    (subst (λ q. let e = entity names (Variable name) false (nonempty names) q in entity_at n (link_name e) ≡ Some e) (sym ep) (variable-read n name names h sc)))

main_alone : (n : ℕ) (names : List (List ℕ)) (c s : Bool) (ps : Codes) → nonempty names ≡ false → c ≡ false → s ≡ false → ps ≡ none → entity_at n (codes "__main") ≡ Some (entity names Main c s ps)
main_alone n [] c s ps en ec es ep =
    main-read n ∙ ap (λ b. Some (entity [] Main b false none)) (sym ec) ∙ ap (λ b. Some (entity [] Main c b none)) (sym es) ∙ ap (λ q. Some (entity [] Main c s q)) (sym ep)
main_alone n (x ∷ xs) c s ps en ec es ep = absurd (true≢false en)

-- an entity's parts
module _ (n : ℕ) (names : List (List ℕ)) (c s : Bool) (ps : Codes) (sc : Scope names) (flags : (c && s) ≡ false) (params : are_parameters ps ≡ true) where
  by_kind : (what : Called) → fits what (entity names what c s ps) ≡ true → called_size what + sizes ps ≤ n → let e = entity names what c s ps in entity_at n (link_name e) ≡ Some e
  by_kind Main h w =
      main_alone n names c s ps (not_true (nonempty names) (and_left _ _ (and_left _ _ (and_left _ _ h)))) (not_true c (and_right _ _ (and_left _ _ h))) (not_true s (and_right _ _ h))
      (no_parameters_is ps (and_right _ _ (and_left _ _ (and_left _ _ h))))
  by_kind (Variable name) h w =
      fixed_variable n name names c s ps (not_true c (and_right _ _ (and_left _ _ h))) (same_is s (nonempty names) (and_right _ _ h))
      (no_parameters_is ps (and_right _ _ (and_left _ _ (and_left _ _ h)))) (and_left _ _ (and_left _ _ (and_left _ _ h))) sc
  by_kind (Plain name) h w = plain-read n names c s ps sc flags params (omega arith) name (and_left _ _ h)
  by_kind (Operator i) h w = operator-read n names c s ps sc flags params (omega arith) i (grind (arith, nat_tests))
  by_kind Constructor h w = constructor-read n names c s ps sc flags params (omega arith)
  by_kind Destructor h w = destructor-read n names c s ps sc flags params (omega arith)
  by_kind (Conversion t) h w = conversion-read n names c s ps sc flags params (omega arith) t (and_right _ _ h) (omega arith)

-- each well-formed entity is read back from its link name
pub entity-read : (e : Entity) (n : ℕ) → is_well_formed e ≡ true → entity_size e ≤ n → entity_at n (link_name e) ≡ Some e
entity-read e n h w =
    let kinds = and_left _ _ h in
    let front = and_left _ _ kinds in
    let parts = and_left _ _ front in
    let around = and_left _ _ parts in
    by_kind n e.scope e.is_const e.is_static e.params (record { short = and_left _ _ around; all = and_right _ _ around }) (not_true (e.is_const && e.is_static) (and_right _ _ kinds))
    (and_right _ _ parts) e.what (and_right _ _ front) w

pub some_same : (a b : Entity) → Some a ≡ Some b → a ≡ b
some_same a b h = cc

-- so different entities have different link names
pub one_entity : (e f : Entity) → is_well_formed e ≡ true → is_well_formed f ≡ true → link_name e ≡ link_name f → e ≡ f
one_entity e f h k same_name =
    let n = entity_size e + entity_size f in
    some_same e f (sym (entity-read e n h (omega arith)) ∙ ap (entity_at n) same_name ∙ entity-read f n k (omega arith))
