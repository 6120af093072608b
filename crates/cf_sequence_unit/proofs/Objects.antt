-- Where no class is defined and each object that is added has a complete type, no node makes a class object.
use Rattle.std.proofs.Common.{◌≡◌, true, false, List, [], ◌∷◌, ◌++◌, refl, sym, ap, ◌∙◌, if◌then◌else◌}
use Rattle.std.specs.List.{list_all, flat_map}
use Rattle.std.proofs.lemmas.List.Folds.{list_all-append}
use Rattle.cf_base.proofs.Tests.{both}
use Rattle.cf_core.specs.Types.{SourceType, class, array, const, is_class, parameters}
use Rattle.cf_core.specs.Core as core
use Rattle.cf_core.specs.Core.{Core}
use Rattle.cf_core.specs.Frame.{bytes_of, class_bytes, copied_by, assigned_by, made_by}
use Rattle.cf_core.specs.Valid.{is_complete}
use Rattle.cf_frame.specs.Bound.{makes_none}
use Rattle.cf_sequence.specs.Made.{added, makes}
use Rattle.cf_sequence.proofs.Calling.{never}

no-class : (t : SourceType) → is_complete [] t ≡ true → is_class t ≡ false
no-class (class c) ok = never ok
no-class (const t) ok = no-class t ok
no-class t ok = refl

no-bytes : (ts : List SourceType) → list_all (is_complete []) ts ≡ true → class_bytes [] ts ≡ []
no-bytes [] ok = refl
no-bytes (t ∷ ts) ok =
    let parts = both (is_complete [] t) (list_all (is_complete []) ts) ok in
    ap (λ b. (if b then bytes_of [] t ∷ [] else []) ++ class_bytes [] ts) (no-class t parts.0) ∙ no-bytes ts parts.1

copied-none : (t : SourceType) → copied_by [] t ≡ []
copied-none (array t n) = copied-none t
copied-none (const t) = copied-none t
copied-none t = refl

assigned-none : (t : SourceType) → assigned_by [] t ≡ []
assigned-none (array t n) = assigned-none t
assigned-none (const t) = assigned-none t
assigned-none t = refl

node-makes-none : (e : Core) → list_all (is_complete []) (makes e) ≡ true → made_by [] e ≡ []
node-makes-none (core.temporary t e) ok = no-bytes (t ∷ []) ok
node-makes-none (core.call n t object args) ok = no-bytes (parameters t) ok
node-makes-none (core.virtual_call f t e args) ok = no-bytes (parameters t) ok
node-makes-none (core.pointer_call object e t args) ok = no-bytes (parameters t) ok
node-makes-none (core.build n t args) ok = no-bytes (parameters t) ok
node-makes-none (core.copy t e es) ok = ap (class_bytes []) (copied-none t)
node-makes-none (core.assign t a b es) ok = ap (class_bytes []) (assigned-none t)
node-makes-none e ok = refl

pub nodes-make-none : (xs : List Core) → list_all (is_complete []) (added xs) ≡ true → makes_none xs
nodes-make-none [] ok = refl
nodes-make-none (x ∷ xs) ok =
    let whole = list_all-append (is_complete []) (makes x) (added xs) in
    let parts = both (list_all (is_complete []) (makes x)) (list_all (is_complete []) (added xs)) (sym whole ∙ ok) in
    ap (λ l. l ++ flat_map (made_by []) xs) (node-makes-none x parts.0) ∙ nodes-make-none xs parts.1
