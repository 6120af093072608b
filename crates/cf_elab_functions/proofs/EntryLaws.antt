-- The function of a name and parameters, among the functions of the name.
use Rattle.std.proofs.Common.{◌≡◌, ℕ, suc, ◌+◌, ◌==◌, ◌<◌, ◌≤◌, Bool, true, false, not, ◌&&◌, ◌||◌, cond, if◌then◌else◌, List, [], ◌∷◌, length, map, filter, drop, get_or, slice_get, Option, None, Some, refl, sym, ap, ◌∙◌, arith}
use Rattle.std.proofs.lemmas.Cmp.{nat_list_eq_equiv}
use Rattle.std.proofs.lemmas.List.{at_drop_more, at_drop_all}
use Rattle.std.specs.Prelude.{bytes_eq, nat_eq}
use Rattle.std.specs.Cmp.Lexicographic.{pointwise}
use Rattle.std.specs.List.{list_any}
use Rattle.cf_types.specs.Table.{Table}
use Rattle.cf_classes.specs.TypeTree.{params_of}
use Rattle.cf_elab.specs.Arguments.{fun_at}
use Rattle.cf_elab.specs.Env.{Env, Name, FunctionEntry}
use Rattle.cf_elab.specs.Functions.{Says, same_params}
use Rattle.cf_elab_env.specs.Entries.{numbered, numbers_named}
use Rattle.cf_elab_functions.specs.Entries.{has_params, by_params, first_of}
use Rattle.cf_elab_functions.specs.Shut as shut

pub same_is : (types : Table) (t u : ℕ) (a b : List ℕ) (r : Bool) → a ≡ shut.params_of types t → b ≡ shut.params_of types u → r ≡ pointwise nat_eq a b → r ≡ shut.same_params types t u
unfolding shut.params_of shut.same_params
same_is types t u a b r p q h = h ∙ ap (λ a. pointwise nat_eq a b) p ∙ ap (pointwise nat_eq (shut.params_of types t)) q

-- ---- number by number

module _ (types : Table) (fs : List FunctionEntry) (t i : ℕ) (ns : List ℕ) (so_far : first_of types fs t (drop i ns) ≡ first_of types fs t ns) where
  pub none_fits : length ns ≤ i → None ≡ first_of types fs t ns
  unfolding first_of
  none_fits ended = sym (sym so_far ∙ at_drop_all (first_of types fs t) ns i ended)

  module _ (n d : ℕ) (f : FunctionEntry) (b : Bool) (inside : i < length ns) (is : n ≡ get_or ns i d) (has : slice_get fs n ≡ Some f) (h : b ≡ shut.same_params types t f.type) where
    turn : first_of types fs t ns ≡ (if b then Some n else first_of types fs t (drop (i + 1) ns))
    unfolding first_of shut.same_params
    turn =
        sym so_far ∙ at_drop_more (first_of types fs t) ns i d inside ∙ ap (λ m. first_of types fs t (m ∷ drop (i + 1) ns)) (sym is)
        ∙ ap (λ o. if has_params types (params_of (fun_at types t)) o then Some n else first_of types fs t (drop (i + 1) ns)) has
        ∙ ap (λ b. if b then Some n else first_of types fs t (drop (i + 1) ns)) (sym h)

    pub one_fits : b ≡ true → Some n ≡ first_of types fs t ns
    one_fits fits = sym (turn ∙ ap (λ b. if b then Some n else first_of types fs t (drop (i + 1) ns)) fits)

    pub other_is : b ≡ false → first_of types fs t (drop (i + 1) ns) ≡ first_of types fs t ns
    other_is other = sym (turn ∙ ap (λ b. if b then Some n else first_of types fs t (drop (i + 1) ns)) other)

-- ---- the functions of the name alone

-- as the definition has it
abbrev entry_from : Table → Name → List ℕ → ℕ → List FunctionEntry → Option ℕ
entry_from types name ps n [] = None
entry_from types name ps n (f ∷ fs) = if bytes_eq f.name name && same_params types ps f.type then Some n else entry_from types name ps (n + 1) fs

module _ (types : Table) (all : List FunctionEntry) (name : Name) (ps : List ℕ) where
  by_name : (n : ℕ) (f : FunctionEntry) (r : List (Name × ℕ)) → slice_get all n ≡ Some f → (b : Bool)
      → by_params types all ps (map (λ (x : Name × ℕ). x.1) (cond b ((f.name, n) ∷ r) r))
      ≡ (if b && same_params types ps f.type then Some n else by_params types all ps (map (λ (x : Name × ℕ). x.1) r))
  by_name n f r has true = ap (λ o. if has_params types ps o then Some n else by_params types all ps (map (λ (x : Name × ℕ). x.1) r)) has
  by_name n f r has false = refl

  from_is : (n : ℕ) (fs : List FunctionEntry) → ((i : ℕ) → slice_get all (n + i) ≡ slice_get fs i)
      → by_params types all ps (map (λ (x : Name × ℕ). x.1) (filter (λ (x : Name × ℕ). pointwise nat_eq name x.0) (numbered n fs))) ≡ entry_from types name ps n fs
  from_is n [] at = refl
  from_is n (f ∷ fs) at =
      let here : n ≡ n + 0 = omega arith in
      let has : slice_get all n ≡ Some f = ap (slice_get all) here ∙ at 0 in
      let further : (i : ℕ) → (n + 1) + i ≡ n + suc i = λ i. omega arith in
      let rest = filter (λ (x : Name × ℕ). pointwise nat_eq name x.0) (numbered (n + 1) fs) in
      by_name n f rest has (pointwise nat_eq name f.name)
      ∙ (λ i. if nat_list_eq_equiv.symm name f.name i && same_params types ps f.type then Some n
      else from_is (n + 1) fs (λ i. ap (slice_get all) (further i) ∙ at (suc i)) i)

pub entry_is : (env : Env) (d : Says) (o : Option ℕ) (ns ms : List ℕ) (name : Name) → o ≡ first_of env.types env.entries d.type ns → ns ≡ ms → ms ≡ numbers_named name env.entries → name ≡ d.name
    → o ≡ shut.entry_of env d
unfolding first_of shut.entry_of
entry_is env d o ns ms name h held is called =
    h ∙ ap (first_of env.types env.entries d.type) (held ∙ is ∙ ap (λ (n : Name). numbers_named n env.entries) called)
    ∙ from_is env.types env.entries d.name (params_of (fun_at env.types d.type)) 0 env.entries (λ i. ap (slice_get env.entries) (zero_more i))
  where
    zero_more : (i : ℕ) → 0 + i ≡ i
    zero_more i = omega arith

-- ---- whether there is one

abbrev is_named : Name → List FunctionEntry → Bool
is_named name fs = list_any (λ (f : FunctionEntry). bytes_eq f.name name) fs

abbrev has_some : List (Name × ℕ) → Bool
has_some ns = not (length (map (λ (x : Name × ℕ). x.1) ns) == 0)

some_more : (n : ℕ) → not (suc n == 0) ≡ true
some_more n = grind arith

-- the first where it is of the name, or else one behind it
one_more : (x : Name × ℕ) (xs : List (Name × ℕ)) (b rest : Bool) → has_some xs ≡ rest → has_some (cond b (x ∷ xs) xs) ≡ (b || rest)
one_more x xs true rest is = some_more (length (map (λ (x : Name × ℕ). x.1) xs))
one_more x xs false rest is = is

-- some number is that of a function of the name
any_from : (name : Name) (n : ℕ) (fs : List FunctionEntry) → has_some (filter (λ (x : Name × ℕ). pointwise nat_eq name x.0) (numbered n fs)) ≡ is_named name fs
any_from name n [] = refl
any_from name n (f ∷ fs) =
    one_more (f.name, n) (filter (λ (x : Name × ℕ). pointwise nat_eq name x.0) (numbered (n + 1) fs)) (pointwise nat_eq name f.name) (is_named name fs) (any_from name (n + 1) fs)
    ∙ ap (λ (b : Bool). b || is_named name fs) (nat_list_eq_equiv.symm name f.name)

pub named_is : (b : Bool) (called name : Name) (ns ms : List ℕ) (fs : List FunctionEntry) → b ≡ not (length ns == 0) → ns ≡ ms → ms ≡ numbers_named name fs → name ≡ called
    → b ≡ list_any (λ (f : FunctionEntry). bytes_eq f.name called) fs
named_is b called name ns ms fs h held is same =
    h ∙ ap (λ (ns : List ℕ). not (length ns == 0)) (held ∙ is ∙ ap (λ (n : Name). numbers_named n fs) same) ∙ any_from called 0 fs

pub ruleset same_laws = (same_is)

pub ruleset first_laws = (none_fits, one_fits, other_is)

pub ruleset entry_laws = (entry_is)
