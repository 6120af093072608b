-- The plain statements of a list whose names are replaced are those of the list, with the names replaced.
use Rattle.std.proofs.Common.{◌≡◌, ℕ, zero, suc, ◌+◌, ◌-◌, Bool, true, false, ◌&&◌, List, refl, sym, ◌∙◌, ap, if◌then◌else◌}
use Rattle.std.specs.Prelude.{pos}
use Rattle.cf_base.proofs.Tests.{both}
use Rattle.cf_core.specs.Types.{Name, SourceType, is_class, is_array, element, plain as unqualified}
use Rattle.cf_core.specs.Objects.{count, costs_tick}
use Rattle.cf_core.specs.Classes.{Class}
use Rattle.cf_core.specs.Core as core
use Rattle.cf_core.specs.Core.{Core, Cores, MaybeCore, no_temporary, local_temporary, none, absent, given}
use Rattle.cf_core.specs.Joined.{renamed, renamed_all}
use Rattle.cf_plain.specs.Plain.{Register, Plains, act, set, branch, loop, switch, case_label, default_label, leave, continue, give, nothing, more}
use Rattle.cf_plain.specs.Plain as plain
use Rattle.cf_plain.specs.Joined as joined
use Rattle.cf_sequence.specs.Built.{is_row, is_initial, is_list, is_element, are_elements, is_filling}
use Rattle.cf_sequence.specs.Made.{width, width_all}
use Rattle.cf_sequence.specs.Expressions.{Full, Destination, elements, repeated, in_turn, part_in, part_type, parts_count, begun, built}
use Rattle.cf_sequence.specs.Statements.{started}
use Rattle.cf_sequence.proofs.Calling.{never, or-else}
use Rattle.cf_sequence.proofs.Filling.{filling-initial, filling-element}
use Rattle.cf_sequence.proofs.Lists.{element-costs}
use Rattle.cf_sequence.proofs.Renamed.{same-width, same-element, same-count, same-width-all}
use Rattle.cf_sequence.proofs.RenamedCode.{over-started}

module _ (r : Name → Name) where
  abbrev again : Core → Core
  again e = renamed r e

  abbrev over : Plains → Plains
  over ss = joined.renamed_all r ss

  module _ (cs : List Class) where
    -- ---- lists

    over-item : (b : Bool) (code later : Plains → Plains) → ((ss : Plains) → over (code ss) ≡ later (over ss)) → (rest : Plains) → over (in_turn b code rest) ≡ in_turn b later (over rest)
    over-item true code later same rest = ap (λ ss. more (loop ss nothing) (over rest)) (same (more leave nothing))
    over-item false code later same rest = same rest

    over-part : (n p : Register) (t : SourceType) (i : ℕ) (rest : Plains) → over (part_in n p t i rest) ≡ part_in n p t i (over rest)
    over-part n p t i rest = by (is_array t)
      where
        decays : Plains → Plains
        decays rest = more (set n (plain.decay p)) (more (set (suc n) (plain.number (pos i))) (more (set n (plain.index n (suc n))) rest))

        by : (b : Bool) → over (if b then decays rest else more (set n (plain.member p i)) rest) ≡ (if b then decays (over rest) else more (set n (plain.member p i)) (over rest))
        by true = refl
        by false = refl

    over-repeated : (i j : ℕ) (code later : ℕ → Plains → Plains) → ((i : ℕ) (ss : Plains) → over (code i ss) ≡ later i (over ss)) → (rest : Plains)
        → over (repeated i j code rest) ≡ repeated i j later (over rest)
    over-repeated i zero code later same rest = refl
    over-repeated i (suc j) code later same rest = same i (repeated (suc i) j code rest) ∙ ap (later i) (over-repeated (suc i) j code later same rest)

    over-begun : (d : Destination) (rest : Plains) → over (begun cs d rest) ≡ begun cs d (over rest)
    over-begun d rest = by (is_class d.type)
      where
        by : (b : Bool) → over (if b then more (act (plain.begin_list d.register)) rest else rest) ≡ (if b then more (act (plain.begin_list d.register)) (over rest) else over rest)
        by true = refl
        by false = refl

    over-built : (d : Destination) (rest : Plains) → over (built cs d rest) ≡ built cs d (over rest)
    over-built d rest = by (is_class d.type)
      where
        by : (b : Bool) → over (if b then more (act (plain.end_list d.register)) rest else rest) ≡ (if b then more (act (plain.end_list d.register)) (over rest) else over rest)
        by true = refl
        by false = refl

    -- no element spends a tick, under other names too
    same-tick : (u : SourceType) (e : Core) → is_element u e ≡ true → (b : Bool) (v : SourceType) → b && costs_tick e cs v ≡ b && costs_tick (again e) cs v
    same-tick u e ok b v = ap (λ c. b && c) (element-costs u e ok cs v ∙ sym (element-costs u (again e) (same-element r u e ∙ ok) cs v))

    -- the code of one element, and of what a list leaves out
    abbrev item_code : Core → Destination → ℕ → Register → ℕ → Plains → Plains
    item_code e d i n k rest = part_in n d.register d.type i (started cs (part_type cs d.type i) e n k rest)

    abbrev left_code : Core → Destination → Register → ℕ → ℕ → Plains → Plains
    left_code last d n k i rest = in_turn (is_array d.type && costs_tick last cs (part_type cs d.type 0)) (item_code last d i n k) rest

    abbrev list_code : Cores → Core → Full → Destination → Register → ℕ → ℕ → ℕ → Plains → Plains
    list_code es last x d n k w j rest = begun cs d (elements cs x es d 0 n k (repeated j (parts_count cs d.type - j) (left_code last d n (k + w)) (built cs d rest)))

    abbrev Codes : Core → Type 0
    Codes e = (t : SourceType) (n : Register) (k : ℕ) (rest : Plains) → over (started cs t e n k rest) ≡ started cs t (again e) n k (over rest)

    over-item-code : (e : Core) → Codes e → (d : Destination) (i : ℕ) (n : Register) (k : ℕ) (rest : Plains) → over (item_code e d i n k rest) ≡ item_code (again e) d i n k (over rest)
    over-item-code e p d i n k rest =
        over-part n d.register d.type i (started cs (part_type cs d.type i) e n k rest) ∙ ap (part_in n d.register d.type i) (p (part_type cs d.type i) n k rest)

    over-left-out : (u : SourceType) (last : Core) → is_element u last ≡ true → Codes last → (d : Destination) (n : Register) (k i : ℕ) (rest : Plains)
        → over (left_code last d n k i rest) ≡ left_code (again last) d n k i (over rest)
    over-left-out u last ok p d n k i rest =
        over-item (is_array d.type && costs_tick last cs (part_type cs d.type 0)) (item_code last d i n k) (item_code (again last) d i n k) (λ ss. over-item-code last p d i n k ss) rest
        ∙ ap (λ b. in_turn b (item_code (again last) d i n k) (over rest)) (same-tick u last ok (is_array d.type) (part_type cs d.type 0))

    abbrev Rows : Cores → Type 0
    Rows es = (x : Full) (d : Destination) (i : ℕ) (n : Register) (k : ℕ) (rest : Plains) → over (elements cs x es d i n k rest) ≡ elements cs x (renamed_all r es) d i n k (over rest)

    over-list-of : (u : SourceType) (es : Cores) (last : Core) → is_element u last ≡ true → Rows es → Codes last → Codes (core.list es last)
    over-list-of u es last ok row p t n k rest =
        let e : Core = core.list es last in
        let x : Full = record { first = k; base = suc n } in
        let d : Destination = record { register = n; type = t } in
        let m : Register = suc n + width e in
        let l : ℕ = k + width_all es in
        let j : ℕ = count es in
        let behind : Plains = repeated j (parts_count cs t - j) (left_code last d m l) (built cs d rest) in
        over-begun d (elements cs x es d 0 m k behind)
        ∙ ap (begun cs d)
        (row x d 0 m k behind
        ∙ ap (elements cs x (renamed_all r es) d 0 m k)
        (over-repeated j (parts_count cs t - j) (left_code last d m l) (left_code (again last) d m l) (λ i ss. over-left-out u last ok p d m l i ss) (built cs d rest)
        ∙ ap (repeated j (parts_count cs t - j) (left_code (again last) d m l)) (over-built d rest)))
        ∙ ap (λ w. list_code (renamed_all r es) (again last) x d m k w j (over rest)) (sym (same-width-all r es))
        ∙ ap (λ j. list_code (renamed_all r es) (again last) x d m k (width_all (renamed_all r es)) j (over rest)) (sym (same-count r es))
        ∙ ap (λ w. list_code (renamed_all r es) (again last) x d (suc n + w) k (width_all (renamed_all r es)) (count (renamed_all r es)) (over rest)) (sym (same-width r e))

    over-row : (u : SourceType) (e : Core) (es : Cores) → is_element u e ≡ true → Codes e → Rows es → Rows (core.more e es)
    over-row u e es ok p row x d i n k rest =
        let tick : Bool = is_array d.type && costs_tick e cs (part_type cs d.type i) in
        let others : Plains = elements cs x es d (suc i) n (k + width e) rest in
        over-item tick (item_code e d i n k) (item_code (again e) d i n k) (λ ss. over-item-code e p d i n k ss) others
        ∙ ap (in_turn tick (item_code (again e) d i n k)) (row x d (suc i) n (k + width e) rest ∙ ap (λ w. elements cs x (renamed_all r es) d (suc i) n (k + w) (over rest)) (sym (same-width r e)))
        ∙ ap (λ b. in_turn b (item_code (again e) d i n k) (elements cs x (renamed_all r es) d (suc i) n (k + width (again e)) (over rest))) (same-tick u e ok (is_array d.type) (part_type cs d.type i))

    mutual
      over-list : (u : SourceType) (e : Core) → is_list u e ≡ true → Codes e
      over-list u (core.list es last) ok =
          let v : SourceType = element (unqualified u) in
          let parts = both (are_elements v es) (is_filling last) (both (is_row u) (are_elements v es && is_filling last) ok).1 in
          over-list-of v es last (filling-element v last parts.1) (over-elements v es parts.0)
          (λ t n k rest. over-started r cs t last (filling-initial last parts.1) n k rest)
      over-list u e ok = never ok

      over-elements : (u : SourceType) (es : Cores) → are_elements u es ≡ true → Rows es
      over-elements u none ok x d i n k rest = refl
      over-elements u (core.more e es) ok x d i n k rest =
          let parts = both (is_element u e) (are_elements u es) ok in
          over-row u e es parts.0 (or-else (is_initial e) (is_list u e) parts.0 (λ initial. λ t n k rest. over-started r cs t e initial n k rest) (λ is. over-list u e is)) (over-elements u es parts.1) x d i n k rest

    pub over-element : (u : SourceType) (e : Core) → is_element u e ≡ true → Codes e
    over-element u e ok = or-else (is_initial e) (is_list u e) ok (λ initial. λ t n k rest. over-started r cs t e initial n k rest) (λ is. over-list u e is)
