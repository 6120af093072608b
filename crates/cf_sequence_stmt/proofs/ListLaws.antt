-- The steps of the loops that write the elements of lists.
use Rattle.std.proofs.Common.{◌≡◌, ℕ, suc, ◌+◌, ◌-◌, ◌<◌, List, ◌∷◌, map, drop, length, get_or, ap, sym, ◌∙◌, arith, drop-cons}
use Rattle.std.proofs.lemmas.List.{length-map}
use Rattle.cf_types.specs.Table.{Table}
use Rattle.cf_core.specs.declared.node.Core.{Core}
use Rattle.cf_sequence_expr.specs.declared.writing.Writing.{Writing}
use Rattle.cf_sequence_stmt.specs.Bodies.{started, element_placed}
use Rattle.cf_sequence_stmt.specs.Steps.{step, elements, left_out}

drop_item : (xs : List Core) (i : ℕ) (x : Core) → i < length xs → x ≡ get_or xs i x → drop i xs ≡ x ∷ drop (i + 1) xs
drop_item xs i x within is =
    let next : suc i ≡ i + 1 = omega arith in
    drop-cons xs i x within ∙ ap (λ y. y ∷ drop (suc i) xs) (sym is) ∙ ap (λ j. x ∷ drop j xs) next

pub count_mapped : (types : Table) (es : List Core) → length (map (step types) es) ≡ length es
count_mapped types es = length-map es (step types)

pub next_element : (types : Table) (t n m : ℕ) (all : List Core) (i index next : ℕ) (x : Core) (w v z whole : Writing) → i < length all → x ≡ get_or all i x
    → v ≡ element_placed n m index w → z ≡ started (step types x).initial (step types x).piece t m v → next ≡ index + 1
    → elements t n m index (map (step types) (drop i all)) w ≡ whole → elements t n m next (map (step types) (drop (i + 1) all)) z ≡ whole
next_element types t n m all i index next x w v z whole within is placed written step_is q =
    let behind : next ≡ suc index = omega (arith, step_is) in
    ap (λ j. elements t n m j (map (step types) (drop (i + 1) all)) z) behind
    ∙ ap (λ u. elements t n m (suc index) (map (step types) (drop (i + 1) all)) u) (written ∙ ap (λ u. started (step types x).initial (step types x).piece t m u) placed)
    ∙ sym (ap (λ l. elements t n m index (map (step types) l) w) (drop_item all i x within is)) ∙ q

left : (n k : ℕ) → k < n → n - k ≡ suc (n - (k + 1))
left n k within = omega arith

pub one_left : (types : Table) (e : Core) (t n m index next count k : ℕ) (w v z whole : Writing) → k < count
    → v ≡ element_placed n m index w → z ≡ started (step types e).initial (step types e).piece t m v → next ≡ index + 1
    → left_out t n m index (count - k) (step types e) w ≡ whole → left_out t n m next (count - (k + 1)) (step types e) z ≡ whole
one_left types e t n m index next count k w v z whole within placed written step_is q =
    let behind : next ≡ suc index = omega (arith, step_is) in
    ap (λ j. left_out t n m j (count - (k + 1)) (step types e) z) behind
    ∙ ap (λ u. left_out t n m (suc index) (count - (k + 1)) (step types e) u) (written ∙ ap (λ u. started (step types e).initial (step types e).piece t m u) placed)
    ∙ ap (λ c. left_out t n m index c (step types e) w) (sym (left count k within)) ∙ q
