-- Names in scopes.
use Rattle.std.proofs.Common.{◌≡◌, ℕ, ◌+◌, ◌<◌, Bool, true, false, List, [], ◌∷◌, ◌++◌, take, get_or, slice_get, length, Option, None, Some, Result, Ok, Err, OnErr, map, filter, cond, refl, sym, ap, ◌∙◌, add-one, ◌≤◌, ◌-◌, is_some, unwrap_or, true≢false, nat_eq, arith}
use Rattle.std.specs.Cmp.Lexicographic.{pointwise, same_text}
use Rattle.std.proofs.lemmas.List.{append-nil, map-append}
use Rattle.indexmap.specs.IndexMap.{IndexMap, insert_entry}
use Rattle.indexmap.proofs.CallerLemmas.{insert_entry-new}
use Rattle.std.proofs.Math.Seq.{take-suc}
use Rattle.std.specs.Map.{lookup, set_value}
use Rattle.cf_lookup.specs.Scope.{found_in, in_scope, named_in, told, StillTells, TellsAgain}
use Rattle.std.specs.Option.{option_or, option_map}

-- a name is found in the last scope, or else in those before it
pub found_in-last : (name : List ℕ) (outer : List (List (List ℕ × ℕ))) (last : List (List ℕ × ℕ))
    → found_in name (outer ++ last ∷ []) ≡ option_or (in_scope name last) (found_in name outer)
found_in-last name [] last = by (in_scope name last)
  where
    by : (r : Option ℕ) → option_or None r ≡ option_or r None
    by None = refl
    by (Some e) = refl
found_in-last name (s ∷ outer) last = ap (λ r. option_or r (in_scope name s)) (found_in-last name outer last) ∙ by (in_scope name last) (found_in name outer)
  where
    by : (r q : Option ℕ) → option_or (option_or r q) (in_scope name s) ≡ option_or r (option_or q (in_scope name s))
    by None q = refl
    by (Some e) q = refl

-- the same of the scopes up to a place
pub found_in-take : (name : List ℕ) (scopes : List (List (List ℕ × ℕ))) (i : ℕ) (d : List (List ℕ × ℕ)) → i < length scopes
    → found_in name (take (i + 1) scopes) ≡ option_or (in_scope name (get_or scopes i d)) (found_in name (take i scopes))
found_in-take name scopes i d h = rw (add-one, take-suc scopes i d h) (found_in-last name (take i scopes) (get_or scopes i d))

module _ (name : List ℕ) (scopes : List (List (List ℕ × ℕ))) (around : ℕ) (d : List (List ℕ × ℕ)) (entity : Option ℕ)
    (some : 0 < around) (within : around ≤ length scopes) (so_far : found_in name scopes ≡ found_in name (take around scopes))
    (here : d ≡ get_or scopes (around - 1) d) (is : entity ≡ in_scope name d) where
  split : found_in name scopes ≡ option_or entity (found_in name (take (around - 1) scopes))
  split =
      let before : around ≡ (around - 1) + 1 = omega arith in
      so_far ∙ ap (λ n. found_in name (take n scopes)) before ∙ found_in-take name scopes (around - 1) d (omega arith)
      ∙ ap (λ s. option_or (in_scope name s) (found_in name (take (around - 1) scopes))) (sym here) ∙ ap (λ e. option_or e (found_in name (take (around - 1) scopes))) (sym is)

  pub found_at : (b : Bool) → b ≡ is_some entity → b ≡ true → entity ≡ found_in name scopes
  found_at b tested there = by entity (sym tested ∙ there) ∙ sym split
    where
      by : (e : Option ℕ) → is_some e ≡ true → e ≡ option_or e (found_in name (take (around - 1) scopes))
      by None h = absurd (true≢false (sym h))
      by (Some x) h = refl

  pub not_at : (b : Bool) → b ≡ is_some entity → b ≡ false → found_in name scopes ≡ found_in name (take (around - 1) scopes)
  not_at b tested missing = split ∙ by entity (sym tested ∙ missing)
    where
      by : (e : Option ℕ) → is_some e ≡ false → option_or e (found_in name (take (around - 1) scopes)) ≡ found_in name (take (around - 1) scopes)
      by None h = refl
      by (Some x) h = absurd (true≢false h)

-- a map whose keys and values are seen as lists
pub lookup-seen : {K X : Type 0} (key : K → List ℕ) (value : X → List ℕ) (name : List ℕ) (es : List (K × X))
    → lookup (pointwise nat_eq name) (map {B = List ℕ × List ℕ} (λ e. (key e.0, value e.1)) es) ≡ option_map value (lookup (λ k. pointwise nat_eq name (key k)) es)
lookup-seen {K} {X} key value name [] = refl
lookup-seen {K} {X} key value name (e ∷ es) =
    ap (λ r. cond (pointwise nat_eq name (key e.0)) (Some (value e.1)) r) (lookup-seen key value name es)
    ∙ by (pointwise nat_eq name (key e.0)) (lookup (λ k. pointwise nat_eq name (key k)) es)
  where
    by : (b : Bool) (r : Option X) → cond b (Some (value e.1)) (option_map value r) ≡ option_map value (cond b (Some e.1) r)
    by true r = refl
    by false r = refl

-- what holds after an error
pub when_err : {T E P : Type 0} (r : Result T E) → P → OnErr r P
when_err (Ok x) p = tt
when_err (Err e) p = p

-- what a name is declared as first
pub first_named : (name : List ℕ) (scope : List (List ℕ × ℕ)) → slice_get (named_in name scope) 0 ≡ in_scope name scope
first_named name [] = refl
first_named name (s ∷ scope) = by (pointwise nat_eq name s.0) (first_named name scope)
  where
    by : (b : Bool) → slice_get (named_in name scope) 0 ≡ in_scope name scope
        → slice_get (map (λ (x : List ℕ × ℕ). x.1) (cond b (s ∷ filter (λ (x : List ℕ × ℕ). pointwise nat_eq name x.0) scope) (filter (λ (x : List ℕ × ℕ). pointwise nat_eq name x.0) scope))) 0
        ≡ cond b (Some s.1) (in_scope name scope)
    by true h = refl
    by false h = h

-- a scope with one name more
pub named_in-last : (q name : List ℕ) (e : ℕ) (scope : List (List ℕ × ℕ)) → named_in q (scope ++ (name, e) ∷ []) ≡ named_in q scope ++ cond (pointwise nat_eq q name) (e ∷ []) []
named_in-last q name e [] = by (pointwise nat_eq q name)
  where
    by : (b : Bool) → map (λ (x : List ℕ × ℕ). x.1) (cond b ((name, e) ∷ []) []) ≡ cond b (e ∷ []) []
    by true = refl
    by false = refl
named_in-last q name e (s ∷ scope) = by (pointwise nat_eq q s.0) (named_in-last q name e scope)
  where
    by : (b : Bool) → named_in q (scope ++ (name, e) ∷ []) ≡ named_in q scope ++ cond (pointwise nat_eq q name) (e ∷ []) []
        → map (λ (x : List ℕ × ℕ). x.1) (cond b (s ∷ filter (λ (x : List ℕ × ℕ). pointwise nat_eq q x.0) (scope ++ (name, e) ∷ [])) (filter (λ (x : List ℕ × ℕ). pointwise nat_eq q x.0) (scope ++ (name, e) ∷ [])))
        ≡ map (λ (x : List ℕ × ℕ). x.1) (cond b (s ∷ filter (λ (x : List ℕ × ℕ). pointwise nat_eq q x.0) scope) (filter (λ (x : List ℕ × ℕ). pointwise nat_eq q x.0) scope)) ++ cond (pointwise nat_eq q name) (e ∷ []) []
    by true h = ap (λ l. s.1 ∷ l) h
    by false h = h

-- a table that has of one name one number more, and of each other what it had
pub tells_more : (old new : List (List ℕ × List ℕ)) (name : List ℕ) (e : ℕ)
    → ((q : List ℕ) → told q new ≡ cond (pointwise nat_eq q name) (told name old ++ e ∷ []) (told q old)) → StillTells old new name e
tells_more old new name e more scope tells q = more q ∙ by (pointwise nat_eq q name) refl
  where
    by : (b : Bool) → pointwise nat_eq q name ≡ b → cond b (told name old ++ e ∷ []) (told q old) ≡ named_in q (scope ++ (name, e) ∷ [])
    by true is =
        let same : q ≡ name = same_text q name (sym is) in
        ap (λ l. l ++ e ∷ []) (tells name ∙ ap (λ n. named_in n scope) (sym same))
        ∙ sym (named_in-last q name e scope ∙ ap (λ b. named_in q scope ++ cond b (e ∷ []) []) is)
    by false is =
        tells q ∙ sym (append-nil (named_in q scope)) ∙ sym (named_in-last q name e scope ∙ ap (λ b. named_in q scope ++ cond b (e ∷ []) []) is)

-- a name that the table has, with another value
module _ {K X : Type 0} (key : K → List ℕ) (value : X → List ℕ) (name : List ℕ) (w : X) where
  seen_set : (q : List ℕ) (es : List (K × X)) → is_some (lookup (λ k. pointwise nat_eq name (key k)) es) ≡ true
      → lookup (pointwise nat_eq q) (map {B = List ℕ × List ℕ} (λ e. (key e.0, value e.1)) (set_value (λ k. pointwise nat_eq name (key k)) es w))
      ≡ cond (pointwise nat_eq q name) (Some (value w)) (lookup (pointwise nat_eq q) (map {B = List ℕ × List ℕ} (λ e. (key e.0, value e.1)) es))
  seen_set q [] there = absurd (true≢false (sym there))
  seen_set q (e ∷ es) there = by (pointwise nat_eq name (key e.0)) refl there (seen_set q es)
    where
      -- the first name is another
      other : (a b : Bool) (r : Option (List ℕ)) → pointwise nat_eq q (key e.0) ≡ a → pointwise nat_eq q name ≡ b → pointwise nat_eq name (key e.0) ≡ false
          → cond a (Some (value e.1)) (cond b (Some (value w)) r) ≡ cond b (Some (value w)) (cond a (Some (value e.1)) r)
      other true true r at is differs =
          absurd (true≢false (sym at ∙ ap (λ n. pointwise nat_eq n (key e.0)) (same_text q name (sym is)) ∙ differs))
      other true false r at is differs = refl
      other false b r at is differs = refl

      by : (b : Bool) → pointwise nat_eq name (key e.0) ≡ b → is_some (cond b (Some e.1) (lookup (λ k. pointwise nat_eq name (key k)) es)) ≡ true
          → (is_some (lookup (λ k. pointwise nat_eq name (key k)) es) ≡ true
          → lookup (pointwise nat_eq q) (map {B = List ℕ × List ℕ} (λ e. (key e.0, value e.1)) (set_value (λ k. pointwise nat_eq name (key k)) es w))
          ≡ cond (pointwise nat_eq q name) (Some (value w)) (lookup (pointwise nat_eq q) (map {B = List ℕ × List ℕ} (λ e. (key e.0, value e.1)) es)))
          → lookup (pointwise nat_eq q) (map {B = List ℕ × List ℕ} (λ e. (key e.0, value e.1)) (cond b ((e.0, w) ∷ es) (e ∷ set_value (λ k. pointwise nat_eq name (key k)) es w)))
          ≡ cond (pointwise nat_eq q name) (Some (value w)) (cond (pointwise nat_eq q (key e.0)) (Some (value e.1)) (lookup (pointwise nat_eq q) (map {B = List ℕ × List ℕ} (λ e. (key e.0, value e.1)) es)))
      by true is some onward =
          let same : pointwise nat_eq q name ≡ pointwise nat_eq q (key e.0) = ap (pointwise nat_eq q) (same_text name (key e.0) (sym is)) in
          sym (ap (λ b. cond b (Some (value w)) (cond (pointwise nat_eq q (key e.0)) (Some (value e.1)) (lookup (pointwise nat_eq q) (map {B = List ℕ × List ℕ} (λ e. (key e.0, value e.1)) es)))) same
          ∙ twice (pointwise nat_eq q (key e.0)) (lookup (pointwise nat_eq q) (map {B = List ℕ × List ℕ} (λ e. (key e.0, value e.1)) es)))
        where
          twice : (b : Bool) (r : Option (List ℕ)) → cond b (Some (value w)) (cond b (Some (value e.1)) r) ≡ cond b (Some (value w)) r
          twice true r = refl
          twice false r = refl
      by false is some onward =
          ap (λ r. cond (pointwise nat_eq q (key e.0)) (Some (value e.1)) r) (onward some)
          ∙ other (pointwise nat_eq q (key e.0)) (pointwise nat_eq q name) (lookup (pointwise nat_eq q) (map {B = List ℕ × List ℕ} (λ e. (key e.0, value e.1)) es)) refl refl is

  module _ (es new : List (K × X)) (v : X) (had : Some v ≡ lookup (λ k. pointwise nat_eq name (key k)) es) (written : new ≡ set_value (λ k. pointwise nat_eq name (key k)) es w) where
    told_set : (q : List ℕ) → told q (map {B = List ℕ × List ℕ} (λ e. (key e.0, value e.1)) new)
        ≡ cond (pointwise nat_eq q name) (value w) (told q (map {B = List ℕ × List ℕ} (λ e. (key e.0, value e.1)) es))
    told_set q =
        ap (λ l. told q (map {B = List ℕ × List ℕ} (λ e. (key e.0, value e.1)) l)) written
        ∙ ap (λ o. unwrap_or o []) (seen_set q es (ap is_some (sym had)))
        ∙ out (pointwise nat_eq q name) (lookup (pointwise nat_eq q) (map {B = List ℕ × List ℕ} (λ e. (key e.0, value e.1)) es))
      where
        out : (b : Bool) (r : Option (List ℕ)) → unwrap_or (cond b (Some (value w)) r) [] ≡ cond b (value w) (unwrap_or r [])
        out true r = refl
        out false r = refl

    told_had : told name (map {B = List ℕ × List ℕ} (λ e. (key e.0, value e.1)) es) ≡ value v
    told_had = ap (λ o. unwrap_or o []) (lookup-seen key value name es ∙ ap (option_map value) (sym had))

    -- one number more of the name
    pub tells_again : (e : ℕ) → value w ≡ value v ++ e ∷ []
        → StillTells (map {B = List ℕ × List ℕ} (λ x. (key x.0, value x.1)) es) (map {B = List ℕ × List ℕ} (λ x. (key x.0, value x.1)) new) name e
    tells_again e more =
        let before : List (List ℕ × List ℕ) = map {B = List ℕ × List ℕ} (λ x. (key x.0, value x.1)) es in
        tells_more before (map {B = List ℕ × List ℕ} (λ x. (key x.0, value x.1)) new) name e
        (λ q. told_set q ∙ ap (λ l. cond (pointwise nat_eq q name) l (told q before)) (more ∙ ap (λ l. l ++ e ∷ []) (sym told_had)))

    -- the same numbers of the name
    pub tells_same : value w ≡ value v → TellsAgain (map {B = List ℕ × List ℕ} (λ x. (key x.0, value x.1)) es) (map {B = List ℕ × List ℕ} (λ x. (key x.0, value x.1)) new)
    tells_same same scope tells q = told_set q ∙ by (pointwise nat_eq q name) refl
      where
        by : (b : Bool) → pointwise nat_eq q name ≡ b → cond b (value w) (told q (map {B = List ℕ × List ℕ} (λ x. (key x.0, value x.1)) es)) ≡ named_in q scope
        by true is = same ∙ sym told_had ∙ tells name ∙ ap (λ n. named_in n scope) (sym (same_text q name (sym is)))
        by false is = tells q

-- a name behind those of a table is found where they don't have it
found-behind : {A : Type 0} (q name : List ℕ) (a : A) (table : List (List ℕ × A))
    → lookup (pointwise nat_eq q) (table ++ (name, a) ∷ []) ≡ option_or (lookup (pointwise nat_eq q) table) (cond (pointwise nat_eq q name) (Some a) None)
found-behind {A} q name a [] = refl
found-behind {A} q name a (s ∷ table) =
    ap (λ r. cond (pointwise nat_eq q s.0) (Some s.1) r) (found-behind q name a table) ∙ by (pointwise nat_eq q s.0) (lookup (pointwise nat_eq q) table)
  where
    by : (t : Bool) (r : Option A) → cond t (Some s.1) (option_or r (cond (pointwise nat_eq q name) (Some a) None)) ≡ option_or (cond t (Some s.1) r) (cond (pointwise nat_eq q name) (Some a) None)
    by true r = refl
    by false r = refl

or_none : {A : Type 0} (r : Option A) → option_or r None ≡ r
or_none None = refl
or_none (Some x) = refl

-- a name that the table does not have goes last
module _ {K X S : Type 0} (key : K → List ℕ) (value : X → List ℕ) (m n : IndexMap K X S) (k : K) (v : X) (name : List ℕ) (e : ℕ) where
  pub tells_new : key k ≡ name → value v ≡ e ∷ [] → lookup (λ x. pointwise nat_eq name (key x)) m.entries ≡ None
      → n.entries ≡ insert_entry (λ x y. pointwise nat_eq (key x) (key y)) m.entries k v
      → StillTells (map {B = List ℕ × List ℕ} (λ x. (key x.0, value x.1)) m.entries) (map {B = List ℕ × List ℕ} (λ x. (key x.0, value x.1)) n.entries) name e
  tells_new called one absent inserted =
      let before : List (List ℕ × List ℕ) = map {B = List ℕ × List ℕ} (λ x. (key x.0, value x.1)) m.entries in
      let missing : lookup (λ x. pointwise nat_eq (key k) (key x)) m.entries ≡ None = ap (λ a. lookup (λ x. pointwise nat_eq a (key x)) m.entries) called ∙ absent in
      let last : map {B = List ℕ × List ℕ} (λ x. (key x.0, value x.1)) n.entries ≡ before ++ (name, e ∷ []) ∷ [] =
      ap (map {B = List ℕ × List ℕ} (λ x. (key x.0, value x.1))) (inserted ∙ insert_entry-new (λ x y. pointwise nat_eq (key x) (key y)) m k v missing)
      ∙ map-append (λ x. (key x.0, value x.1)) m.entries ((k, v) ∷ []) ∙ (λ i. before ++ (called i, one i) ∷ []) in
      tells_more before (map {B = List ℕ × List ℕ} (λ x. (key x.0, value x.1)) n.entries) name e
      (λ q. ap (told q) last ∙ told_behind q before (lookup-seen key value name m.entries ∙ ap (option_map value) absent))
    where
      told_behind : (q : List ℕ) (before : List (List ℕ × List ℕ)) → lookup (pointwise nat_eq name) before ≡ None
          → told q (before ++ (name, e ∷ []) ∷ []) ≡ cond (pointwise nat_eq q name) (told name before ++ e ∷ []) (told q before)
      told_behind q before none = ap (λ o. unwrap_or o []) (found-behind q name (e ∷ []) before) ∙ by (pointwise nat_eq q name) refl
        where
          by : (b : Bool) → pointwise nat_eq q name ≡ b
              → unwrap_or (option_or (lookup (pointwise nat_eq q) before) (cond b (Some (e ∷ [])) None)) [] ≡ cond b (told name before ++ e ∷ []) (told q before)
          by true is =
              let nothing : lookup (pointwise nat_eq q) before ≡ None = ap (λ x. lookup (pointwise nat_eq x) before) (same_text q name (sym is)) ∙ none in
              ap (λ o. unwrap_or (option_or o (Some (e ∷ []))) []) nothing ∙ ap (λ o. unwrap_or o [] ++ e ∷ []) (sym none)
          by false is = ap (λ o. unwrap_or o []) (or_none (lookup (pointwise nat_eq q) before))
