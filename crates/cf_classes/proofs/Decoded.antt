-- Each link name is decoded to the well-formed entity that has it, and a name that none has to none.
use Rattle.std.proofs.Common.{◌≡◌, ℕ, suc, ◌+◌, ◌*◌, ◌≤◌, Bool, true, false, ◌&&◌, nat_eq, if◌then◌else◌, List, [], ◌∷◌, ◌++◌, length, Option, None, Some, refl, sym, ap, ◌∙◌, arith, length-append}
use Rattle.std.specs.Prelude.{decimal, codes}
use Rattle.std.specs.Cmp.Lexicographic.{pointwise, same_text}
use Rattle.std.proofs.lemmas.Cmp.{nat_list_eq_equiv}
use Rattle.cf_classes.specs.LinkName.{Code, Void, Integer, Named, Pointer, Reference, Const, Array, Function, Member, Codes, none, more, code, code_all, Called, Main, Variable, Plain, Operator, Constructor, Destructor, Conversion, Entity, link_name, parameters, scope_code, operator_codes, item}
use Rattle.cf_classes.specs.Entity.{is_type, are_types, are_parameters, is_well_formed, Decodes, fits, no_parameters}
use Rattle.cf_classes.specs.Decode.{entity_at, checked, decode, IsDecoding}
use Rattle.cf_classes.proofs.ReadNames.{and_left, and_right}
use Rattle.cf_classes.proofs.OneCode.{first, size, sizes}
use Rattle.cf_classes.proofs.OneEntity.{entity-read, entity_size, called_size, types_of, no_parameters_is}

-- three steps for each byte are enough
module _ (t : Code) (h : is_type t ≡ true) where
  some_byte : 1 ≤ length (code t)
  some_byte = let f = first t h in let e : length (code t) ≡ suc (length f.rest) = ap length f.is in omega arith

mutual
  size-fits : (t : Code) → is_type t ≡ true → size t + 1 ≤ 3 * length (code t)
  size-fits Void h = omega arith
  size-fits (Integer k) h = let one = some_byte (Integer k) h in omega arith
  size-fits (Named names) h = let one = some_byte (Named names) h in omega arith
  size-fits (Pointer t) h = let inner = size-fits t h in omega arith
  size-fits (Reference t) h = let inner = size-fits t h in omega arith
  size-fits (Const t) h = let inner = size-fits t (and_right _ (is_type t) h) in omega arith
  size-fits (Array n t) h =
      let inner = size-fits t (and_right _ (is_type t) h) in
      let long = length-append (65 ∷ (decimal n ++ 95 ∷ [])) (code t) in
      omega arith
  size-fits (Function true ps t) h =
      let front = sizes-fit ps (and_left (are_types ps) (is_type t) h) in
      let inner = size-fits t (and_right (are_types ps) (is_type t) h) in
      let a = length-append (67 ∷ 70 ∷ (code_all ps ++ 95 ∷ [])) (code t) in
      let b = length-append (code_all ps) (95 ∷ []) in
      omega arith
  size-fits (Function false ps t) h =
      let front = sizes-fit ps (and_left (are_types ps) (is_type t) h) in
      let inner = size-fits t (and_right (are_types ps) (is_type t) h) in
      let a = length-append (70 ∷ (code_all ps ++ 95 ∷ [])) (code t) in
      let b = length-append (code_all ps) (95 ∷ []) in
      omega arith
  size-fits (Member names t) h =
      let inner = size-fits t (and_right _ (is_type t) h) in
      let long = length-append (77 ∷ scope_code names) (code t) in
      omega arith

  sizes-fit : (ts : Codes) → are_types ts ≡ true → sizes ts ≤ 3 * length (code_all ts) + 1
  sizes-fit none h = omega arith
  sizes-fit (more t ts) h =
      let one = size-fits t (and_left (is_type t) (are_types ts) h) in
      let rest = sizes-fit ts (and_right (is_type t) (are_types ts) h) in
      let long = length-append (code t) (code_all ts) in
      omega arith

parameters-fit : (ps : Codes) → are_parameters ps ≡ true → sizes ps ≤ 3 * length (parameters ps) + 1
parameters-fit none h = omega arith
parameters-fit (more t ts) h = sizes-fit (more t ts) (types_of (more t ts) h)

-- what is said of the name of a function
abbrev function_text : List ℕ → List (List ℕ) → Bool → Bool → Codes → List ℕ
function_text name names c s ps = (((((name ++ codes "__") ++ scope_code names) ++ (if c then codes "C" else [])) ++ (if s then codes "S" else [])) ++ codes "F") ++ parameters ps

pieces_longer : (a b c d e f p : List ℕ) → length a + length p ≤ length ((((((a ++ b) ++ c) ++ d) ++ e) ++ f) ++ p)
pieces_longer a b c d e f p =
    let h1 = length-append (((((a ++ b) ++ c) ++ d) ++ e) ++ f) p in
    let h2 = length-append ((((a ++ b) ++ c) ++ d) ++ e) f in
    let h3 = length-append (((a ++ b) ++ c) ++ d) e in
    let h4 = length-append ((a ++ b) ++ c) d in
    let h5 = length-append (a ++ b) c in
    let h6 = length-append a b in
    omega arith

function_longer : (name : List ℕ) (names : List (List ℕ)) (c s : Bool) (ps : Codes) → length name + length (parameters ps) ≤ length (function_text name names c s ps)
function_longer name names c s ps = pieces_longer name (codes "__") (scope_code names) (if c then codes "C" else []) (if s then codes "S" else []) (codes "F") (parameters ps)

module _ (names : List (List ℕ)) (c s : Bool) (ps : Codes) (params : are_parameters ps ≡ true) where
  abbrev made : Called → Entity
  made what = record { scope = names; what = what; params = ps; is_const = c; is_static = s }

  abbrev Enough : Called → Type 0
  Enough what = called_size what + sizes ps ≤ length (link_name (made what)) * 3 + 1

  alone : (what : Called) → called_size what ≡ 0 → no_parameters ps ≡ true → Enough what
  alone what e h = let one : sizes ps ≡ 1 = ap sizes (no_parameters_is ps h) in omega arith

  of_function : (name : List ℕ) (k : ℕ) → k ≤ 3 * length name → k + sizes ps ≤ length (function_text name names c s ps) * 3 + 1
  of_function name k h = let longer = function_longer name names c s ps in let all = parameters-fit ps params in omega arith

  by_kind : (what : Called) → fits what (made what) ≡ true → Enough what
  by_kind Main h = alone Main refl (and_right _ _ (and_left _ _ (and_left _ _ h)))
  by_kind (Variable name) h = alone (Variable name) refl (and_right _ _ (and_left _ _ (and_left _ _ h)))
  by_kind (Plain name) h = of_function name 0 (omega arith)
  by_kind (Operator i) h = of_function (codes "__" ++ item operator_codes i) 0 (omega arith)
  by_kind Constructor h = of_function (codes "__ct") 0 (omega arith)
  by_kind Destructor h = of_function (codes "__dt") 0 (omega arith)
  by_kind (Conversion t) h =
      let one = size-fits t (and_right _ _ h) in
      let long = length-append (codes "__op") (code t) in
      of_function (codes "__op" ++ code t) (size t) (omega arith)

enough : (e : Entity) → is_well_formed e ≡ true → entity_size e ≤ length (link_name e) * 3 + 1
enough e h =
    let front = and_left _ _ (and_left _ _ h) in
    by_kind e.scope e.is_const e.is_static e.params (and_right _ _ (and_left _ _ front)) e.what (and_right _ _ front)

-- what passes the check
abbrev passed : List ℕ → Entity → Bool
passed text e = is_well_formed e && pointwise nat_eq (link_name e) text

-- a well-formed entity is decoded
decoded : (e : Entity) → is_well_formed e ≡ true → decode (link_name e) ≡ Some e
decoded e h =
    let same_name : pointwise nat_eq (link_name e) (link_name e) ≡ true = nat_list_eq_equiv.refl (link_name e) in
    ap (checked (link_name e)) (entity-read e (length (link_name e) * 3 + 1) h (enough e h))
    ∙ rw h (rw same_name refl)

-- and what is decoded is the one that has the name
found : (text : List ℕ) (o : Option Entity) → checked text o ≡ decode text → Decodes text (checked text o)
found text None is = λ e h name. let some : decode text ≡ Some e = ap decode (sym name) ∙ decoded e h in absurd (none_some e (is ∙ some))
  where
    none_some : (e : Entity) → None ≡ Some e → ⊥
    none_some e h = cc
found text (Some e) is = by (passed text e) refl
  where
    none_some : (f : Entity) → None ≡ Some f → ⊥
    none_some f h = cc

    by : (b : Bool) → passed text e ≡ b → Decodes text (if b then Some e else None)
    by true h = (and_left (is_well_formed e) _ h, same_text (link_name e) text (sym (and_right (is_well_formed e) _ h)))
    by false h = λ f g name.
        let nothing : checked text (Some e) ≡ None = ap (λ b. if b then Some e else None) h in
        absurd (none_some f (sym nothing ∙ is ∙ ap decode (sym name) ∙ decoded f g))

pub is_decoding : IsDecoding
is_decoding text = found text (entity_at (length text * 3 + 1) text) refl
