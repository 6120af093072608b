-- Steps of the walks over statements and functions.
use Rattle.std.proofs.Common.{◌≡◌, ℕ, suc, ◌<◌, Bool, true, List, ◌∷◌, map, length, drop, get_or, Option, Some, None, option_map, ap, sym, subst, ◌∙◌, drop-cons, arith}
use Rattle.std.specs.List.{list_all}
use Rattle.std.specs.Option.{option_or}
use Rattle.std.specs.Prelude.{nat_le, false, if◌then◌else◌}
use Rattle.std.proofs.lemmas.Bool.Decides.{nat_tests}
use Rattle.cf_base.proofs.Tests.{both}
use Rattle.cf_core.specs.declared.node.Core.{Core}
use Rattle.cf_core.specs.declared.node.Core.TheOpen.{Core-F}
use Rattle.cf_core.specs.declared.node.Core.TheFolds.{fold-roll-Core}
use Rattle.cf_core.specs.declared.node.Core.TheVariants.{Sequence, If, rolls-Sequence, rolls-If}
use Rattle.cf_core.specs.FromTypes.{Tables}
use Rattle.cf_sequence_built.specs.Unbuilt.{Test, test, test_step, part_step, next_or, next_of_all, or_unfit}

-- an item of which all that are left are known
pub known_here : {X : Type 0} (p : X → Bool) (xs : List X) (i : ℕ) (x : X) → i < length xs → x ≡ get_or xs i x → list_all p (drop i xs) ≡ true → p x ≡ true
known_here p xs i x within is all =
    (both (p x) (list_all p (drop (suc i) xs)) (subst (λ l. list_all p l ≡ true) (drop-cons xs i x within ∙ ap (λ y. y ∷ drop (suc i) xs) (sym is)) all)).0

next_in_order : (tables : Tables) (at : ℕ) (ss : List Core) (m : ℕ) → (test tables (Sequence at ss)).next m ≡ next_of_all m (map (test tables) ss)
next_in_order tables at ss m =
    ap (λ (t : Test). t.next m) (ap (test tables) (sym (rolls-Sequence at ss)) ∙ fold-roll-Core Test Test (test_step tables) (part_step tables) (Core-F.Sequence at ss))

pub next_of_sequence : (tables : Tables) (s : Core) (at : ℕ) (ss all : List Core) (m behind : ℕ) → s ≡ Sequence at ss → all ≡ ss → behind ≡ next_of_all m (map (test tables) all)
    → behind ≡ (test tables s).next m
next_of_sequence tables s at ss all m behind is same after =
    after ∙ ap (λ l. next_of_all m (map (test tables) l)) same ∙ sym (next_in_order tables at ss m) ∙ ap (λ n. (test tables n).next m) (sym is)

test_of_if : (tables : Tables) (at : ℕ) (c a : Core) (b : Option Core) → test tables (If at c a b) ≡ test_step tables (Core-F.If at (test tables c) (test tables a) (option_map (test tables) b))
test_of_if tables at c a None = ap (test tables) (sym (rolls-If at c a None)) ∙ fold-roll-Core Test Test (test_step tables) (part_step tables) (Core-F.If at c a None)
test_of_if tables at c a (Some b) = ap (test tables) (sym (rolls-If at c a (Some b))) ∙ fold-roll-Core Test Test (test_step tables) (part_step tables) (Core-F.If at c a (Some b))

-- the arms of an `if`, one behind the other
pub next_of_if : (tables : Tables) (s : Core) (at : ℕ) (c a x : Core) (b : Option Core) (m first behind : ℕ) → s ≡ If at c a b → x ≡ a → first ≡ (test tables x).next m
    → behind ≡ next_or first (option_map (test tables) b) → behind ≡ (test tables s).next m
next_of_if tables s at c a x b m first behind is same one all =
    all ∙ ap (λ k. next_or k (option_map (test tables) b)) (one ∙ ap (λ z. (test tables z).next m) same)
    ∙ sym (ap (λ (t : Test). t.next m) (test_of_if tables at c a b)) ∙ ap (λ z. (test tables z).next m) (sym is)

past : (k n : ℕ) → n < k → nat_le k n ≡ false
past k n less = grind (arith, nat_tests, less)

pub unfit_of_if : (tables : Tables) (s : Core) (at : ℕ) (c a x : Core) (b : Option Core) (n first behind : ℕ) → s ≡ If at c a b → x ≡ a → first ≡ (test tables x).next 0
    → behind ≡ next_or first (option_map (test tables) b) → n < behind → Some at ≡ (test tables s).unfit n
unfit_of_if tables s at c a x b n first behind is same one all less =
    sym
    (ap (λ z. (test tables z).unfit n) is ∙ ap (λ (t : Test). t.unfit n) (test_of_if tables at c a b)
    ∙ ap (λ k. if nat_le k n then option_or ((test tables a).unfit n) (or_unfit n (option_map (test tables) b)) else Some at)
    (ap (λ k. next_or k (option_map (test tables) b)) (sym (one ∙ ap (λ z. (test tables z).next 0) same)) ∙ sym all)
    ∙ ap (λ t. if t then option_or ((test tables a).unfit n) (or_unfit n (option_map (test tables) b)) else Some at) (past behind n less))
