use Rattle.std.proofs.Common.{ap, ◌∙◌}
use Rattle.cf_lower_constants.specs.Knowing.{known_in}
use Rattle.cf_lower_program.specs.Alike.{fits_first}
use Rattle.cf_lowerable_starts.specs.Telling.{detail_in, knows, tells}
use Rattle.cf_lowerable_starts.proofs.StoreLaws.{not_own, own_fits, own_is}
use Rattle.cf_lowerable_starts.proofs.stores.first_alike.Goals as goal

pub returns-then-not-own : goal.returns-then-not-own
returns-then-not-own c =
    let x = c.args.x.now in
    let s = c.args.s.now in
    let tables = x.tables.now in
    let name = c.args.name.now in
    let r = c.args.place in
    not_own name (knows x s) (tells x s) r c.is_own-own.result
    (own_is tables name c.in_ok-at.at c.as_slice.result.now (knows x s r) c.as_slice.ensures (ap (known_in tables) c.in_ok-at.ensures) c.get-left.result
    ((tells x s).facts r) c.is_own-own.result (ap (detail_in tables) c.get-left.ensures) (c.is_own-own.ensures tables c.in_ok-at.at.target)) c.args.value c.if-not-own.true

pub returns : goal.returns
returns c =
    let x = c.args.x.now in
    let s = c.args.s.now in
    let tables = x.tables.now in
    let name = c.args.name.now in
    let r = c.args.place in
    let q = c.args.value in
    own_fits name (knows x s) (tells x s) r c.is_own-own.result
    (own_is tables name c.in_ok-at.at c.as_slice.result.now (knows x s r) c.as_slice.ensures (ap (known_in tables) c.in_ok-at.ensures) c.get-left.result
    ((tells x s).facts r) c.is_own-own.result (ap (detail_in tables) c.get-left.ensures) (c.is_own-own.ensures tables c.in_ok-at.at.target)) q c.in_ok-fits.fits
    c.if-not-own.false
    (c.in_ok-fits.ensures c.in_ok-at.at.name c.in_ok-given.given.name
    ∙ ap (λ k. fits_first k (known_in tables c.in_ok-given.given) (detail_in tables c.get-detail.result)) (ap (known_in tables) c.in_ok-at.ensures)
    ∙ ap (λ k. fits_first (knows x s r) k (detail_in tables c.get-detail.result)) (ap (known_in tables) c.in_ok-given.ensures)
    ∙ ap (λ d. fits_first (knows x s r) (knows x s q) (detail_in tables d)) c.get-detail.ensures)
