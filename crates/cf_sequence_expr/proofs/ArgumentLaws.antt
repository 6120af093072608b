-- The step of the loop that writes arguments.
use Rattle.std.proofs.Common.{◌≡◌, ℕ, suc, ◌+◌, ◌<◌, true, List, ◌∷◌, map, drop, length, Option, get_or, slice_get, ap, sym, subst, ◌∙◌, arith, drop-cons}
use Rattle.cf_base.proofs.Tests.{both}
use Rattle.cf_types.specs.Table.{Table}
use Rattle.cf_core.specs.declared.node.Core.{Core}
use Rattle.cf_core.specs.FromTypes.{Tables}
use Rattle.cf_core.specs.Numbers.{are_known, all_of}
use Rattle.cf_sequence_expr.specs.declared.writing.Full.{Full}
use Rattle.cf_sequence_expr.specs.declared.writing.Writing.{Writing}
use Rattle.cf_sequence_expr.specs.Pieces.{piece, argument, arguments}

drop_item : (xs : List Core) (i : ℕ) (x : Core) → i < length xs → x ≡ get_or xs i x → drop i xs ≡ x ∷ drop (i + 1) xs
drop_item xs i x within is =
    let next : suc i ≡ i + 1 = omega arith in
    drop-cons xs i x within ∙ ap (λ y. y ∷ drop (suc i) xs) (sym is) ∙ ap (λ j. x ∷ drop j xs) next

pub next_known : (tables : Tables) (all : List Core) (i : ℕ) (x : Core) → i < length all → x ≡ get_or all i x
    → all_of tables (map (are_known tables) (drop i all)) ≡ true → all_of tables (map (are_known tables) (drop (i + 1) all)) ≡ true
next_known tables all i x within is known =
    (both (are_known tables x) (all_of tables (map (are_known tables) (drop (i + 1) all)))
    (subst (λ l. all_of tables (map (are_known tables) l) ≡ true) (drop_item all i x within is) known)).1

pub next_argument : (types : Table) (ts : List ℕ) (all : List Core) (i index : ℕ) (x : Core) (ty : Option ℕ) (full : Full) (n k : ℕ) (w v whole : Writing)
    → i < length all → x ≡ get_or all i x → ty ≡ slice_get ts index → v ≡ argument ty (piece types x) full n (k + index) w
    → arguments ts index (map (piece types) (drop i all)) full n k w ≡ whole → arguments ts (index + 1) (map (piece types) (drop (i + 1) all)) full n k v ≡ whole
next_argument types ts all i index x ty full n k w v whole within is typed written q =
    let next : index + 1 ≡ suc index = omega arith in
    ap (λ j. arguments ts j (map (piece types) (drop (i + 1) all)) full n k v) next
    ∙ ap (λ u. arguments ts (suc index) (map (piece types) (drop (i + 1) all)) full n k u) (written ∙ ap (λ o. argument o (piece types x) full n (k + index) w) typed)
    ∙ sym (ap (λ l. arguments ts index (map (piece types) l) full n k w) (drop_item all i x within is)) ∙ q
