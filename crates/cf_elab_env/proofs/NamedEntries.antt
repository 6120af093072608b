-- A table of the declared functions' names, as functions are declared and said again.
use Rattle.std.proofs.Common.{◌≡◌, ℕ, zero, suc, ◌+◌, ◌<◌, ◌≤◌, List, [], ◌∷◌, ◌++◌, length, All, Option, Some, slice_get, refl, sym, ap, ◌∙◌, arith}
use Rattle.std.specs.Option.{option_map}
use Rattle.std.proofs.Math.ListN.{set}
use Rattle.std.proofs.lemmas.List.Elements.{All-cons}
use Rattle.std.proofs.lemmas.Option.{same_Some}
use Rattle.cf_lookup.specs.Scope.{OpenScopes, all_found, all_in, named_in}
use Rattle.cf_elab.specs.Env.{Name, FunctionEntry}
use Rattle.cf_elab_env.specs.Entries.{numbered, numbers_named, HasName, TellsEntries}
use Rattle.cf_elab_env.specs.Holds.{AreNames}
use Rattle.cf_elab_env.proofs.Known.{named_known}
use Rattle.cf_elab_env.proofs.Scoped.{All-none}

-- one more function
numbered-push : (n : ℕ) (fs : List FunctionEntry) (f : FunctionEntry) → numbered n (fs ++ f ∷ []) ≡ numbered n fs ++ (f.name, n + length fs) ∷ []
numbered-push n [] f = let here : n ≡ n + 0 = omega arith in ap (λ (k : ℕ). (f.name, k) ∷ []) here
numbered-push n (g ∷ fs) f =
    let further : (n + 1) + length fs ≡ n + length (g ∷ fs) = omega arith in
    ap (λ (l : List (Name × ℕ)). (g.name, n) ∷ l) (numbered-push (n + 1) fs f ∙ ap (λ (k : ℕ). numbered (n + 1) fs ++ (f.name, k) ∷ []) further)

-- another function of the same name
numbered-set : (n i : ℕ) (fs : List FunctionEntry) (f : FunctionEntry) → HasName fs i f.name → numbered n (set fs i f) ≡ numbered n fs
numbered-set n i [] f is = refl
numbered-set n zero (g ∷ fs) f is = ap (λ (m : Name). (m, n) ∷ numbered (n + 1) fs) (sym (same_Some g.name f.name is))
numbered-set n (suc i) (g ∷ fs) f is = ap (λ (l : List (Name × ℕ)). (g.name, n) ∷ l) (numbered-set (n + 1) i fs f is)

pub tells_same : (old new : OpenScopes) (fs gs : List FunctionEntry) → TellsEntries old fs → new ≡ old → gs ≡ fs → TellsEntries new gs
tells_same old new fs gs is same kept = record {
  outer = ap (λ (o : OpenScopes). o.outer) same ∙ is.outer;
  inner = ap (λ (o : OpenScopes). o.inner) same ∙ is.inner ∙ ap (numbered 0) (sym kept);
}

pub tells_more : (old new : OpenScopes) (fs gs : List FunctionEntry) (f : FunctionEntry) (n : ℕ) → TellsEntries old fs → n ≡ length fs
    → new.inner ≡ old.inner ++ (f.name, n) ∷ [] → new.outer ≡ old.outer → gs ≡ fs ++ f ∷ [] → TellsEntries new gs
tells_more old new fs gs f n is last inner outer grown =
    let number : n ≡ 0 + length fs = omega arith in
    record {
      outer = outer ∙ is.outer;
      inner =
          inner ∙ ap (λ l. l ++ (f.name, n) ∷ []) is.inner ∙ ap (λ (k : ℕ). numbered 0 fs ++ (f.name, k) ∷ []) number ∙ sym (numbered-push 0 fs f)
          ∙ ap (numbered 0) (sym grown);
    }

pub tells_set : (table : OpenScopes) (fs : List FunctionEntry) (n : ℕ) (f : FunctionEntry) → TellsEntries table fs → HasName fs n f.name → TellsEntries table (set fs n f)
tells_set table fs n f is same = record { outer = is.outer; inner = is.inner ∙ sym (numbered-set 0 n fs f same) }

pub numbers_found : (name : Name) (table : OpenScopes) (fs : List FunctionEntry) → TellsEntries table fs → all_found name table ≡ numbers_named name fs
numbers_found name table fs is = ap (λ o. all_in name (o ++ table.inner ∷ [])) is.outer ∙ ap (named_in name) is.inner

-- ---- what is known of the numbers

numbered_known : (count n : ℕ) (fs : List FunctionEntry) → n + length fs ≤ count → AreNames count (numbered n fs)
numbered_known count n [] h = All-none (λ (x : Name × ℕ). x.1 < count)
numbered_known count n (f ∷ fs) h = All-cons (λ (x : Name × ℕ). x.1 < count) (f.name, n) (numbered (n + 1) fs) (omega arith) (numbered_known count (n + 1) fs (omega arith))

pub numbers_known : (name : Name) (fs : List FunctionEntry) → All (λ n. n < length fs) (numbers_named name fs)
numbers_known name fs = named_known (length fs) name (numbered 0 fs) (numbered_known (length fs) 0 fs (omega arith))
