use Rattle.std.proofs.Common.{◌≡◌, ◌&&◌, ◌==◌, ap, sym, ◌∙◌, eq-eqb}
use Rattle.cf_convert.specs.Constness.{is_alike, alike_step, alike_array, bare, type_at}
use Rattle.cf_convert.proofs.Constness.{alike-at, alike_of_others, alike_no_array, differ}
use Rattle.cf_convert.proofs.types.+is_alike.Goals as goal

pub returns-in-Const : goal.returns-in-Const
returns-in-Const t c =
    let types = c.args.types.now in
    c.is_alike.ensures
    ∙ sym
    (alike-at types c.args.id c.get.result.now c.get.ensures.kept c.get.ensures.earlier c.args.other
    ∙ ap (λ v. alike_step types (λ s own w. is_alike types s w) v c.args.id c.args.other) c.in-Const.is)

pub returns-then-count-count_2 : goal.returns-then-count-count_2
returns-then-count-count_2 t c =
    let types = c.args.types.now in
    let rec = is_alike types c.in-Array.element in
    let other : type_at types (bare types c.args.other) ≡ c.type_at.result.now = sym (c.type_at.ensures.value ∙ ap (type_at types) c.bare.ensures.value) in
    c.is_alike-then-count-count_2.ensures
    ∙ sym
    (alike-at types c.args.id c.get.result.now c.get.ensures.kept c.get.ensures.earlier c.args.other
    ∙ ap (λ v. alike_step types (λ s own w. is_alike types s w) v c.args.id c.args.other) c.in-Array.is
    ∙ ap (alike_array rec c.in-Array.count) (other ∙ c.in-Array-type_at.is)
    ∙ ap (λ b. b && rec c.in-Array-type_at.element_2) (eq-eqb c.in-Array.count c.in-Array-type_at.count_2 c.if-count-count_2.true))

pub returns-else-count-count_2 : goal.returns-else-count-count_2
returns-else-count-count_2 t c =
    let types = c.args.types.now in
    let rec = is_alike types c.in-Array.element in
    let other : type_at types (bare types c.args.other) ≡ c.type_at.result.now = sym (c.type_at.ensures.value ∙ ap (type_at types) c.bare.ensures.value) in
    let unequal = differ c.in-Array.count c.in-Array-type_at.count_2 c.if-count-count_2.false in
    unequal
    ∙ sym
    (alike-at types c.args.id c.get.result.now c.get.ensures.kept c.get.ensures.earlier c.args.other
    ∙ ap (λ v. alike_step types (λ s own w. is_alike types s w) v c.args.id c.args.other) c.in-Array.is
    ∙ ap (alike_array rec c.in-Array.count) (other ∙ c.in-Array-type_at.is)
    ∙ ap (λ b. b && rec c.in-Array-type_at.element_2) unequal)

pub returns-in_default-type_at : goal.returns-in_default-type_at
returns-in_default-type_at t c =
    let types = c.args.types.now in
    let rec = is_alike types c.in-Array.element in
    let other : type_at types (bare types c.args.other) ≡ c.type_at.result.now = sym (c.type_at.ensures.value ∙ ap (type_at types) c.bare.ensures.value) in
    sym
    (alike-at types c.args.id c.get.result.now c.get.ensures.kept c.get.ensures.earlier c.args.other
    ∙ ap (λ v. alike_step types (λ s own w. is_alike types s w) v c.args.id c.args.other) c.in-Array.is
    ∙ ap (alike_array rec c.in-Array.count) other
    ∙ alike_no_array rec c.in-Array.count c.type_at.result.now c.in_default-type_at.not-Array)

pub returns-in_default : goal.returns-in_default
returns-in_default t c =
    let types = c.args.types.now in
    c.eq.ensures
    ∙ ap (λ u. c.args.id == u) c.bare-in_default.ensures.value
    ∙ sym
    (alike-at types c.args.id c.get.result.now c.get.ensures.kept c.get.ensures.earlier c.args.other
    ∙ alike_of_others types (λ s own w. is_alike types s w) c.get.result.now c.args.id c.args.other c.in_default.not-Const c.in_default.not-Array)
