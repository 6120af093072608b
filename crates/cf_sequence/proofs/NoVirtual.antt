-- Where a file defines no class, no function is virtual.
use Rattle.std.proofs.Common.{◌≡◌, ◌<◌, ◌++◌, Bool, true, not, ◌&&◌, List, [], ◌∷◌, filter, Contains, refl, sym, subst, arith}
use Rattle.std.specs.List.{list_all, flat_map}
use Rattle.cf_base.proofs.Tests.{both}
use Rattle.cf_core.specs.Types.{Name}
use Rattle.cf_core.specs.Classes.{Class}
use Rattle.cf_core.specs.Core.{CoreFile, Function, Static}
use Rattle.cf_core.specs.Named.{Named, is_virtual_name, used_by_role}
use Rattle.cf_plain.specs.Named.{Named as PlainNamed, used_by, all_actions}
use Rattle.cf_sequence.specs.Built.{is_none, is_built_file, is_built_static, is_built_function, has_mark}
use Rattle.cf_sequence.specs.Sequenced.{sequenced_function}

pub empty-list : {A : Type 0} (xs : List A) → is_none xs ≡ true → xs ≡ []
empty-list [] ok = refl
empty-list (x ∷ xs) ok = absurd (cc)

none-left : (names : List Name) → filter (is_virtual_name []) names ≡ []
none-left [] = refl
none-left (n ∷ ns) = none-left ns

nothing-in : {A : Type 0} {B : Type 0} (x : A) → Contains [] x → B
nothing-in x (k, below, is) = absurd (omega arith)

pub name-no-more : (file : CoreFile) → is_built_file file ≡ true → (f : Function) (name : Name)
    → Contains (PlainNamed file.classes (sequenced_function file.classes file.statics f)) name → Contains (Named file.classes f) name
name-no-more file ok f name here =
    let s = sequenced_function file.classes file.statics f in
    let rest : Bool = list_all (λ (x : Static). is_built_static file.statics x && not (has_mark x.name)) file.statics && list_all is_built_function file.functions in
    let none = empty-list file.classes (both (is_none file.classes) rest ok).0 in
    let gone : PlainNamed file.classes s ≡ [] =
    subst (λ (cs : List Class). filter (is_virtual_name cs) (flat_map (used_by file.classes) (all_actions s.body) ++ used_by_role file.classes s.role) ≡ []) (sym none)
    (none-left (flat_map (used_by file.classes) (all_actions s.body) ++ used_by_role file.classes s.role)) in
    nothing-in name (subst (λ xs. Contains xs name) gone here)
