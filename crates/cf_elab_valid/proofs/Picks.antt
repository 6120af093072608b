-- The choice among functions: the one that is chosen takes as many arguments as there are (13.2).
use Rattle.std.proofs.Common.{◌≡◌, ℕ, zero, suc, ◌+◌, ◌-◌, Bool, true, false, ◌&&◌, nat_le, if◌then◌else◌, length, List, [], ◌∷◌, map, Option, Some, None, slice_get, refl, sym, ap, subst, ◌∙◌, arith}
use Rattle.std.specs.Prelude.{option_map}
use Rattle.std.specs.List.{cons_option}
use Rattle.std.proofs.lemmas.Bool.Decides.{nat_tests}
use Rattle.std.proofs.lemmas.Option.{slice_get-map}
use Rattle.cf_types.specs.Table.{Table}
use Rattle.cf_types.specs.declared.ty.Fun.{Fun}
use Rattle.cf_classes.specs.declared.class.ClassDef.{ClassDef}
use Rattle.cf_classes.specs.TypeTree.{params_of}
use Rattle.cf_convert.specs.declared.conv.Val.{Val}
use Rattle.cf_core_typed.proofs.Same.{and-left, and-right}
use Rattle.cf_elab.specs.Answer.{Answer, Made, Refused, Passed, onward}
use Rattle.cf_core.specs.declared.node.Core.TheVariants as node
use Rattle.cf_elab.specs.Arguments.{fun_at, result_of}
use Rattle.cf_elab.specs.UserFit.{arguments}
use Rattle.cf_elab.specs.Best.{Candidate, Way, Choice, Chosen, NoMatch, Tie, ways, matching, wins, winner, choice_of, best}
use Rattle.cf_elab.specs.Call as row
use Rattle.cf_elab.specs.Call.{candidate, entries_of, counted, pick, fits_count}
use Rattle.cf_elab.specs.Env.{Env, FunctionEntry}
use Rattle.cf_elab.specs.Operand.{Value, val, defs}
use Rattle.cf_elab_valid.specs.Answers.{Fine}
use Rattle.cf_elab_valid.specs.Scene.{Scene, IsScene, Within, Classless, Holds, AllFit}
use Rattle.cf_elab_valid.proofs.Arithmetic.{IsOperand}
use Rattle.cf_elab_valid.proofs.Calls.{never-called, call_entry-fine, fun-is}
use Rattle.cf_elab_valid.proofs.FitRows.{Still, needed}
use Rattle.cf_elab_valid.proofs.Options.{none_some, some_is}
use Rattle.cf_elab_valid.proofs.Ways.{When}

-- ---- a property of the numbers in a list

abbrev Every : {A : Type 0} → (ℕ → Type 0) → List (ℕ × A) → Type 0
Every P [] = Unit {0}
Every P (x ∷ xs) = P x.0 × Every P xs

-- so many arguments fit the candidate
abbrev takes : ℕ → Candidate → Bool
takes n c = nat_le c.least n && nat_le n (length c.params)

module _ (types : Table) (ds : List (ℕ × ClassDef)) where
  every-match : (args : List Val) (P : ℕ → Type 0) (n : ℕ) (cs : List Candidate) → ((k : ℕ) (c : Candidate) → slice_get cs k ≡ Some c → takes (length args) c ≡ true → P (n + k)) → Every P (matching types ds args n cs)
  every-match args P n [] each = tt
  every-match args P n (c ∷ cs) each =
      joined (takes (length args) c) refl (ways types ds args c.params) (every-match args P (n + 1) cs (λ k d at t. let same : (n + 1) + k ≡ n + suc k = omega arith in subst P (sym same) (each (suc k) d at t)))
    where
      joined : (b : Bool) → takes (length args) c ≡ b → (o : Option (List (ℕ × Way))) → Every P (matching types ds args (n + 1) cs)
          → Every P ((elim (if b then o else None) as (λ _. List (ℕ × List (ℕ × Way)) → List (ℕ × List (ℕ × Way))) [ None ↦ λ rest. rest | Some ws ↦ λ rest. (n, ws) ∷ rest ]) (matching types ds args (n + 1) cs))
      joined false t o rest = rest
      joined true t None rest = rest
      joined true t (Some ws) rest = let same : n + 0 ≡ n = omega arith in (subst P same (each 0 c refl t), rest)

  winner-in : (P : ℕ → Type 0) (all xs : List (ℕ × List (ℕ × Way))) (i : ℕ) → Every P xs → winner types ds all xs ≡ Chosen i → P i
  winner-in P all [] i every h = absurd cc
  winner-in P all (x ∷ xs) i every h = by (wins types ds all x) h (winner-in P all xs i every.1)
    where
      by : (b : Bool) → (if b then Chosen x.0 else winner types ds all xs) ≡ Chosen i → (winner types ds all xs ≡ Chosen i → P i) → P i
      by true g rest = let same : x.0 ≡ i = cc in subst P same every.0
      by false g rest = rest g

  chosen-in : (P : ℕ → Type 0) (xs : List (ℕ × List (ℕ × Way))) (i : ℕ) → Every P xs → choice_of types ds xs ≡ Chosen i → P i
  chosen-in P [] i every h = absurd cc
  chosen-in P (x ∷ xs) i every h = winner-in P (x ∷ xs) (x ∷ xs) i every h

-- ---- a number among the candidates

-- the candidate of this number takes so many
abbrev Counts : List Candidate → ℕ → ℕ → Type 0
Counts cs n i = (c : Candidate) → slice_get cs i ≡ Some c → takes n c ≡ true

abbrev Picked : Env → (ℕ → Type 0) → Answer ℕ → Type 0
Picked e P (Made i b) = (b ≡ e) × P i
Picked e P (Refused rule at) = Unit {0}
Picked e P (Passed bound most) = Unit {0}

best-counts : (e : Env) (cs : List Candidate) (args : List Val) (i : ℕ) → best e.types (defs e) cs args ≡ Chosen i → Counts cs (length args) i
best-counts e cs args i h =
    chosen-in e.types (defs e) (Counts cs (length args)) (matching e.types (defs e) args 0 cs) i
    (every-match e.types (defs e) args (Counts cs (length args)) 0 cs (λ k c at t d there. let same : 0 + k ≡ k = omega arith in
    subst (λ x. takes (length args) x ≡ true) (some_is c d (sym at ∙ ap (slice_get cs) (sym same) ∙ there)) t)) h

pick-counts : (at : ℕ) (cs : List Candidate) (vs : List Value) (e : Env) → Picked e (Counts cs (length (map val vs))) (pick at cs vs e)
pick-counts at cs vs e = by (counted at cs vs e) (still cs)
  where
    still : (cs : List Candidate) → Still e (counted at cs vs e)
    still [] = refl
    still (c ∷ []) = needed e (fits_count c vs) 15 at
    still (c ∷ d ∷ rest) = refl

    chosen : (o : Choice) → best e.types (defs e) cs (map val vs) ≡ o → Picked e (Counts cs (length (map val vs))) (row.chosen at o e)
    chosen (Chosen i) h = (refl, best-counts e cs (map val vs) i h)
    chosen NoMatch h = tt
    chosen Tie h = tt

    by : (r : Answer (Unit {0})) → Still e r → Picked e (Counts cs (length (map val vs))) (onward r (λ _ b. row.chosen at (best b.types (defs b) cs (map val vs)) b))
    by (Made u b) h = subst (λ b. Picked e (Counts cs (length (map val vs))) (row.chosen at (best b.types (defs b) cs (map val vs)) b)) (sym h) (chosen (best e.types (defs e) cs (map val vs)) refl)
    by (Refused rule p) h = tt
    by (Passed bound most) h = tt

-- ---- the entry that is chosen is declared

pub record Declared (e : Env) (f : FunctionEntry) : Type 0 where
  pub number : ℕ
  pub here : slice_get e.entries number ≡ Some f

declared-entry : (e : Env) (fs : List ℕ) (i : ℕ) (f : FunctionEntry) → slice_get (entries_of e fs) i ≡ Some f → Declared e f
declared-entry e [] i f h = absurd cc
declared-entry e (n ∷ ns) i f h = by (slice_get e.entries n) refl i h (λ j g. declared-entry e ns j f g)
  where
    by : (o : Option FunctionEntry) → slice_get e.entries n ≡ o → (i : ℕ) → slice_get (cons_option o (entries_of e ns)) i ≡ Some f
        → ((j : ℕ) → slice_get (entries_of e ns) j ≡ Some f → Declared e f) → Declared e f
    by None is i g rest = rest i g
    by (Some x) is zero g rest = record { number = n; here = is ∙ g }
    by (Some x) is (suc j) g rest = rest j g

exact_count : (n : ℕ) (f : FunctionEntry) (types : Table) → f.defaults ≡ [] → takes n (candidate types f) ≡ true → n ≡ length (params_of (fun_at types f.type))
exact_count n f types none h =
    let m = length (params_of (fun_at types f.type)) in
    let low : nat_le (m - length f.defaults) n ≡ true = and-left (nat_le (m - length f.defaults) n) (nat_le n m) h in
    let high : nat_le n m ≡ true = and-right (nat_le (m - length f.defaults) n) (nat_le n m) h in
    exact n m (length f.defaults) (ap length none) low high
  where
    exact : (n m d : ℕ) → d ≡ 0 → nat_le (m - d) n ≡ true → nat_le n m ≡ true → n ≡ m
    exact n m d e low high = grind (arith, nat_tests, e, low, high)

mapped_length : (vs : List Value) → length (map val vs) ≡ length vs
mapped_length [] = refl
mapped_length (v ∷ vs) = ap suc (mapped_length vs)

module _ (s : Scene) (scene : IsScene s) where
  entry-called : (at : ℕ) (vs : List Value) (fs : List ℕ) (i : ℕ) (e : Env) → Classless e → When s e (Holds s e) → When s e (AllFit s e vs) → Counts (map (candidate e.types) (entries_of e fs)) (length (map val vs)) i
      → (o : Option FunctionEntry) → slice_get (entries_of e fs) i ≡ o → Fine s (IsOperand s) e (row.call_entry at vs o e)
  entry-called at vs fs i e c h vf counts None is = tt
  entry-called at vs fs i e c h vf counts (Some f) is = by (fun_at e.types f.type) refl
    where
      exact : length vs ≡ length (params_of (fun_at e.types f.type))
      exact =
          let there = declared-entry e fs i f is in
          let taken = counts (candidate e.types f) (slice_get-map (candidate e.types) (entries_of e fs) i ∙ ap (option_map (candidate e.types)) is) in
          sym (mapped_length vs) ∙ exact_count (length (map val vs)) f e.types (c.no_defaults there.number f there.here) taken

      by : (o : Option Fun) → fun_at e.types f.type ≡ o → Fine s (IsOperand s) e (row.call_entry at vs (Some f) e)
      by None no_fun =
          let there = declared-entry e fs i f is in
          let never : Within e s → ⊥ = λ w. none_some _ (sym no_fun ∙ fun-is s scene e w (h w) f ((h w).entries there.number f there.here)) in
          subst (λ o. Fine s (IsOperand s) e (onward (arguments at (params_of o) f.defaults vs e) (λ ns b. row.called at (result_of o) (node.Call at f.link f.type None ns) b))) (sym no_fun)
          (never-called s scene at 0 (λ ns. node.Call at f.link f.type None ns) [] f.defaults vs e (c.no_defaults there.number f there.here) c h vf never)
      by (Some g) has_fun =
          let there = declared-entry e fs i f is in
          call_entry-fine s scene at vs f e there.number there.here g has_fun c h vf (λ w. exact ∙ ap (λ o. length (params_of o)) has_fun)

  pub call_functions-fine : (at : ℕ) (fs : List ℕ) (vs : List Value) (e : Env) → Classless e → When s e (Holds s e) → When s e (AllFit s e vs) → Fine s (IsOperand s) e (row.call_functions at fs vs e)
  call_functions-fine at fs vs e c h vf = by (pick at (map (candidate e.types) (entries_of e fs)) vs e) (pick-counts at (map (candidate e.types) (entries_of e fs)) vs e)
    where
      by : (r : Answer ℕ) → Picked e (Counts (map (candidate e.types) (entries_of e fs)) (length (map val vs))) r → Fine s (IsOperand s) e (onward r (λ i b. row.call_entry at vs (slice_get (entries_of e fs) i) b))
      by (Made i b) h2 = subst (λ b. Fine s (IsOperand s) e (row.call_entry at vs (slice_get (entries_of e fs) i) b)) (sym h2.0) (entry-called at vs fs i e c h vf h2.1 (slice_get (entries_of e fs) i) refl)
      by (Refused rule p) h2 = tt
      by (Passed bound most) h2 = tt
